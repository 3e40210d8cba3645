-- What becomes of the bytes of a segment when the targets of its fixes move.
use Rattle.std.specs.Prelude.{ℕ, ◌+◌, ◌*◌, ◌/◌, ◌%◌, List, [], ◌∷◌, ◌++◌, map, filter_map, Option, Some, None, option_map}
use Rattle.std.specs.Option.{option_and_then}
use Rattle.object_modules.specs.declared.segment.FixKind.{FixKind}
use Rattle.object_modules.specs.declared.segment.FixKind.TheVariants.{Low, High, Both}
use Rattle.object_modules.specs.declared.segment.Segment.TheVariants.{Code, Data}
use Rattle.object_modules.specs.declared.segment.Target.{Target}
use Rattle.object_modules.specs.Module.{Fixup, SetByte, ObjectModule, places_of}

-- the first byte of a fix whose target moves by a number: the low byte of an address gains its low byte, and
-- a high byte its high byte
abbrev pub first_byte_moved : FixKind → (value gain : ℕ) → ℕ
first_byte_moved Low value gain = (value + gain) % 256
first_byte_moved High value gain = (value + gain / 256) % 256
first_byte_moved Both value gain = (value + gain) % 256

-- the second byte of a word whose first one this is: the high byte of the word that they are, modulo 65536
abbrev pub second_byte_moved : (first value gain : ℕ) → ℕ
second_byte_moved first value gain = (first + 256 * value + gain) / 256 % 256

-- the value of a byte after the fix that begins at the place before it; only a word reaches so far
abbrev pub after_fixup : (gain_of : Target → ℕ) → (first value : ℕ) → Option Fixup → ℕ
after_fixup gain_of first value None = value
after_fixup gain_of first value (Some fixup) = by_kind fixup.kind
  where
    by_kind : FixKind → ℕ
    by_kind Low = value
    by_kind High = value
    by_kind Both = second_byte_moved first value (gain_of fixup.target)

abbrev pub value_after : (gain_of : Target → ℕ) → (before : Option SetByte) → (value : ℕ) → ℕ
value_after gain_of None value = value
value_after gain_of (Some before) value = after_fixup gain_of before.value value before.fixup

-- the value of a byte, by the fix that begins at it or else by the one at the place before it
abbrev pub value_moved : (gain_of : Target → ℕ) → (before : Option SetByte) → SetByte → ℕ
value_moved gain_of before here = by_fixup here.fixup
  where
    by_fixup : Option Fixup → ℕ
    by_fixup None = value_after gain_of before here.value
    by_fixup (Some fixup) = first_byte_moved fixup.kind here.value (gain_of fixup.target)

-- the target to which a fix stays fixed, if it does
abbrev pub fixup_moved : (kept : Target → Option Target) → Fixup → Option Fixup
fixup_moved kept fixup =
    option_map (λ (target : Target). record { kind = fixup.kind; target = target }) (kept fixup.target)

abbrev pub byte_moved :
    (gain_of : Target → ℕ) → (kept : Target → Option Target) → (before : Option SetByte) → SetByte → SetByte
byte_moved gain_of kept before here = record {
  value = value_moved gain_of before here;
  fixup = option_and_then (fixup_moved kept) here.fixup;
}

-- Places after one place, where targets gain numbers and some stay targets. A place where nothing is set
-- stays so.
abbrev pub moved_after :
    (gain_of : Target → ℕ) → (kept : Target → Option Target) → (before : Option SetByte)
    → List (Option SetByte) → List (Option SetByte)
moved_after gain_of kept before [] = []
moved_after gain_of kept before (here ∷ others) =
    option_map (byte_moved gain_of kept before) here ∷ moved_after gain_of kept here others

abbrev pub moved :
    (gain_of : Target → ℕ) → (kept : Target → Option Target)
    → List (Option SetByte) → List (Option SetByte)
moved gain_of kept places = moved_after gain_of kept None places

-- the bytes of places where targets have these addresses: all fixes are applied
abbrev pub bytes_resolved : (address_of : Target → ℕ) → List (Option SetByte) → List (Option ℕ)
bytes_resolved address_of places =
    map (option_map (λ (here : SetByte). here.value)) (moved address_of (λ target. None) places)

-- the target of a fix of a high byte
abbrev pub high_target : Fixup → Option Target
high_target fixup = by_kind fixup.kind
  where
    by_kind : FixKind → Option Target
    by_kind Low = None
    by_kind High = Some fixup.target
    by_kind Both = None

-- the targets to which the high bytes of a module are fixed
abbrev pub high_targets : ObjectModule → List Target
high_targets object = filter_map target_at (places_of object Code ++ places_of object Data)
  where
    target_at : Option SetByte → Option Target
    target_at place =
        option_and_then (λ (here : SetByte). option_and_then high_target here.fixup) place
