-- A segment of an object module has the bytes of the items of its code, with the targets that the module has
-- for them.
use Rattle.program_laws.proofs.Prelude.{◌≡◌, ℕ, suc, ◌+◌, ◌≤◌, Bool, true, false, ◌&&◌, ◌||◌, not, ◌==◌, cond, List, [], ◌∷◌, length, map, find, Option, Some, None, option_map, refl, ap, subst, ◌∙◌, arith, IsTrue, nat_le, nat_lt, AllByRecursion, list_all, option_map_or, leb-true, ltb-true, Fix, Target, SEGMENT_LIMIT, Fixup, SetByte, is_page, is_target, is_valid_byte, is_valid_segment, words_are_whole, fixup_at, Assembled, fixed_bytes, layout_at, set_bytes, set_of_items, Written, retargeted, IsSegmentOf, and_parts, set_length}
use Rattle.object_modules.specs.Module.{Places}
use Rattle.program_laws.proofs.Cells.{HasByte, at_zero, cells_of_bytes, places_are}

-- a place whose fix has another target
abbrev pub fixup_to : (Target → Target) → Fixup → Fixup
fixup_to to fixup = record { kind = fixup.kind; target = to fixup.target }

abbrev pub byte_to : (Target → Target) → SetByte → SetByte
byte_to to here = record { value = here.value; fixup = option_map (fixup_to to) here.fixup }

abbrev pub place_to : (Target → Target) → Option SetByte → Option SetByte
place_to to place = option_map (byte_to to) place

module _ (to : Target → Target) where
  fixup_retargeted :
      (fixes : List Fix) (offset : ℕ)
      → fixup_at (map (retargeted to) fixes) offset ≡ option_map (fixup_to to) (fixup_at fixes offset)
  fixup_retargeted [] offset = refl
  fixup_retargeted (fix ∷ others) offset = go (fix.offset == offset) (fixup_retargeted others offset)
    where
      go : (here : Bool)
          → fixup_at (map (retargeted to) others) offset ≡ option_map (fixup_to to) (fixup_at others offset)
          → option_map (λ (one : Fix). record { kind = one.kind; target = one.target })
          (cond here (Some (retargeted to fix))
          (find (λ (one : Fix). one.offset == offset) (map (retargeted to) others)))
          ≡ option_map (fixup_to to)
          (option_map (λ (one : Fix). record { kind = one.kind; target = one.target })
          (cond here (Some fix) (find (λ (one : Fix). one.offset == offset) others)))
      go true later = refl
      go false later = later

  bytes_retargeted :
      (fixes : List Fix) (offset : ℕ) (bytes : List (Option ℕ))
      → fixed_bytes (map (retargeted to) fixes) offset bytes
      ≡ map (place_to to) (fixed_bytes fixes offset bytes)
  bytes_retargeted fixes offset [] = refl
  bytes_retargeted fixes offset (None ∷ others) =
      ap (λ (places : List (Option SetByte)). None ∷ places) (bytes_retargeted fixes (offset + 1) others)
  bytes_retargeted fixes offset (Some value ∷ others) =
      ap (λ (fixup : Option Fixup).
      Some (record { value = value; fixup = fixup })
      ∷ fixed_bytes (map (retargeted to) fixes) (offset + 1) others)
      (fixup_retargeted fixes offset)
      ∙ ap (λ (places : List (Option SetByte)).
      Some (record { value = value; fixup = option_map (fixup_to to) (fixup_at fixes offset) }) ∷ places)
      (bytes_retargeted fixes (offset + 1) others)

fixed_length :
    (fixes : List Fix) (offset : ℕ) (bytes : List (Option ℕ))
    → length (fixed_bytes fixes offset bytes) ≡ length bytes
fixed_length fixes offset [] = refl
fixed_length fixes offset (byte ∷ others) = ap (λ n. suc n) (fixed_length fixes (offset + 1) others)

-- a segment has as many places as its code has bytes
pub places_length :
    (written : Written) (bytes : Assembled) (to : Target → Target) (segment : Places)
    → IsSegmentOf written bytes to segment
    → length segment.places ≡ length bytes.bytes
places_length written bytes to segment is =
    ap (λ (places : List (Option SetByte)). length places) is.same
    ∙ fixed_length (map (retargeted to) bytes.fixes) 0 (set_bytes bytes.bytes bytes.is_set)
    ∙ set_length bytes.bytes bytes.is_set

-- what a valid segment holds
holds : (a b c d : Bool) → (a && b && c && d) ≡ true → (a ≡ true) × (b ≡ true)
holds true true c d is = (refl, refl)
holds true false c d is = absurd (cc)
holds false b c d is = absurd (cc)

bytes_valid :
    (count : ℕ) (places : List (Option SetByte))
    → list_all (λ place. option_map_or (is_valid_byte count) place true) places ≡ true
    → AllByRecursion HasByte places
bytes_valid count [] all = tt
bytes_valid count (None ∷ others) all = (tt, bytes_valid count others all)
bytes_valid count (Some here ∷ others) all = (
  ltb-true here.value 256
      (and_parts (nat_lt here.value 256)
      (option_map_or (λ (fixup : Fixup). is_target count fixup.target) here.fixup true)
      (and_parts (is_valid_byte count here)
      (list_all (λ place. option_map_or (is_valid_byte count) place true) others) all).0).0,
  bytes_valid count others
      (and_parts (is_valid_byte count here)
      (list_all (λ place. option_map_or (is_valid_byte count) place true) others) all).1,
)

-- its bytes, and how many they are
valid_parts :
    (count : ℕ) (segment : Places)
    → IsTrue (is_valid_segment count segment)
    → (nat_le (length segment.places) SEGMENT_LIMIT ≡ true)
    × (list_all (λ place. option_map_or (is_valid_byte count) place true) segment.places ≡ true)
valid_parts count segment valid =
    holds (nat_le (length segment.places) SEGMENT_LIMIT)
    (list_all (λ place. option_map_or (is_valid_byte count) place true) segment.places)
    (words_are_whole segment.places)
    (not (is_page segment.alignment) || nat_lt 0 (length segment.places)) valid

pub segment_bytes :
    (count : ℕ) (segment : Places)
    → IsTrue (is_valid_segment count segment)
    → AllByRecursion HasByte segment.places
segment_bytes count segment valid = bytes_valid count segment.places (valid_parts count segment valid).1

-- The places of a segment are those of the items of its code.
pub segment_is :
    (written : Written) (bytes : Assembled) (to : Target → Target) (segment : Places) (count : ℕ)
    → IsSegmentOf written bytes to segment
    → IsTrue (is_valid_segment count segment)
    → segment.places ≡ map (place_to to) (set_of_items (layout_at at_zero written.code) written.code.items)
segment_is written bytes to segment count is valid =
    is.same
    ∙ bytes_retargeted to bytes.fixes 0 cells
    ∙ ap (map (place_to to)) (places_are written.code bytes is.assembles few
    (cells_of_bytes (map (retargeted to) bytes.fixes) 0 cells
    (subst (λ (places : List (Option SetByte)). AllByRecursion HasByte places) is.same
    (segment_bytes count segment valid))))
  where
    cells : List (Option ℕ)
    cells = set_bytes bytes.bytes bytes.is_set

    few : length bytes.bytes ≤ 65536
    few =
        let limit = leb-true (length segment.places) 65535 (valid_parts count segment valid).0 in
        let same = places_length written bytes to segment is in
        omega (arith, limit, same)
