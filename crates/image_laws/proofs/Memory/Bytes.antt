-- The bytes of a segment are those of its module, where targets have the same addresses.
use Rattle.image_laws.proofs.Prelude.{◌≡◌, ℕ, zero, suc, ◌+◌, ◌*◌, ◌/◌, ◌%◌, List, [], ◌∷◌, map, Option, Some, None, option_map, refl, ap, sym, ◌∙◌, slice_get, option_map_or, none-some, ModuleTarget, SegmentByte, Places, high_resolved, low_resolved, resolved_after, value_later, value_resolved, FixKind, Both, Target, Fixup, SetByte, ObjectModule, after_fixup, byte_moved, bytes_resolved, moved_after, value_after, value_moved, BeginWith, IsFix, IsPlace, IsTarget}
use Rattle.layout.specs.Segments.{resolved}

-- a fix of a word
is_word : (fixup : Fixup) → fixup.kind ≡ Both → fixup ≡ record { kind = Both; target = fixup.target }
is_word fixup is = ap (λ (kind : FixKind). record { kind = kind; target = fixup.target }) is

module _
    (object : ObjectModule) (address_of : ModuleTarget → ℕ) (address_in : Target → ℕ)
    (same : (one : ModuleTarget) (other : Target) → IsTarget object one other
    → address_of one ≡ address_in other)
  where
    -- the value of a byte after another
    high_alike :
        (first value : ℕ) (target : Option ModuleTarget) (fixup : Option Fixup)
        → IsFix object target fixup
        → after_fixup address_in first value fixup
        ≡ option_map_or (high_resolved address_of first value) target value
    high_alike first value None None is = refl
    high_alike first value (Some target) (Some fixup) is =
        ap (λ (fix : Fixup). after_fixup address_in first value (Some fix)) (is_word fixup is.0)
        ∙ ap (λ (address : ℕ). (first + 256 * value + address) / 256 % 256)
        (sym (same target fixup.target is.1))
    high_alike first value None (Some fixup) is = absurd is
    high_alike first value (Some target) None is = absurd is

    later_alike :
        (before : Option SegmentByte) (given : Option SetByte) (value : ℕ)
        → IsPlace object before given
        → value_after address_in given value ≡ value_later address_of before value
    later_alike None None value is = refl
    later_alike (Some before) (Some given) value is =
        ap (λ (first : ℕ). after_fixup address_in first value given.fixup) is.0
        ∙ high_alike before.value value before.target given.fixup is.1
    later_alike None (Some given) value is = absurd is
    later_alike (Some before) None value is = absurd is

    low_alike :
        (before : Option SegmentByte) (given : Option SetByte) (value : ℕ) (target : Option ModuleTarget)
        (fixup : Option Fixup)
        → IsPlace object before given
        → IsFix object target fixup
        → value_moved address_in given (record { value = value; fixup = fixup })
        ≡ option_map_or (low_resolved address_of value) target (value_later address_of before value)
    low_alike before given value None None place is = later_alike before given value place
    low_alike before given value (Some target) (Some fixup) place is =
        ap (λ (fix : Fixup). value_moved address_in given (record { value = value; fixup = Some fix }))
        (is_word fixup is.0)
        ∙ ap (λ (address : ℕ). (value + address) % 256) (sym (same target fixup.target is.1))
    low_alike before given value None (Some fixup) place is = absurd is
    low_alike before given value (Some target) None place is = absurd is

    place_alike :
        (before : Option SegmentByte) (given : Option SetByte) (byte : Option SegmentByte)
        (here : Option SetByte)
        → IsPlace object before given
        → IsPlace object byte here
        → option_map (λ (moved : SetByte). moved.value)
        (option_map (byte_moved address_in (λ target. None) given) here)
        ≡ option_map (value_resolved address_of before) byte
    place_alike before given None None place is = refl
    place_alike before given (Some byte) (Some here) place is =
        ap (λ (value : ℕ). Some (value_moved address_in given (record { value = value; fixup = here.fixup })))
        is.0
        ∙ ap (λ (value : ℕ). Some value) (low_alike before given byte.value byte.target here.fixup place is.1)
    place_alike before given None (Some here) place is = absurd is
    place_alike before given (Some byte) None place is = absurd is

    abbrev values : List (Option SetByte) → List (Option ℕ)
    values places = map (option_map (λ (here : SetByte). here.value)) places

    bytes_after :
        (before : Option SegmentByte) (given : Option SetByte) (bytes : Places)
        (places : List (Option SetByte))
        (index : ℕ) (byte : Option ℕ)
        → IsPlace object before given
        → BeginWith object bytes places
        → slice_get (resolved_after address_of before bytes) index ≡ Some byte
        → slice_get (values (moved_after address_in (λ target. None) given places)) index ≡ Some byte
    bytes_after before given [] places index byte place begin found = absurd (none-some byte found)
    bytes_after before given (first ∷ bytes) [] index byte place begin found = absurd begin
    bytes_after before given (first ∷ bytes) (here ∷ places) zero byte place begin found =
        ap (λ (value : Option ℕ). Some value) (place_alike before given first here place begin.0) ∙ found
    bytes_after before given (first ∷ bytes) (here ∷ places) (suc index) byte place begin found =
        bytes_after first here bytes places index byte begin.0 begin.1 found

    -- each byte that the segment of the module has
    pub bytes_alike :
        (bytes : Places) (places : List (Option SetByte)) (index : ℕ) (byte : Option ℕ)
        → BeginWith object bytes places
        → slice_get (resolved address_of bytes) index ≡ Some byte
        → slice_get (bytes_resolved address_in places) index ≡ Some byte
    bytes_alike bytes places index byte begin found =
        bytes_after None None bytes places index byte tt begin found
