-- Code as the code segment of an object module: its places, what such a segment keeps to, and its bytes where it is
-- placed.
use Rattle.asm8080.proofs.Prelude.{◌≡◌, ℕ, suc, ◌+◌, ◌<◌, ◌≤◌, Bool, true, false, cond, not, ◌==◌, ◌&&◌, nat_lt, nat_le, List, [], ◌∷◌, length, map, find, Option, Some, None, option_map, refl, sym, subst, ap, ◌∙◌, arith, All, list_all, range_with_len, option_map_or, eqb-true, eqb-false, lt-ltb, lt-leb, le-leb, leb-true, ltb-true, All-head, All-tail, Fix, Segment, Code, SEGMENT_LIMIT, is_empty, same_segment, Plan, gain_at, placed_bytes, Fixup, ObjectModule, SetByte, is_target, is_valid_byte, is_valid_segment, words_are_whole, module_places, moved, fixup_at, set_in, IsStored, are_longest, places_stored, Run, before_runs, runs_from, byte_in_run, content_with, found, found_is, run_at, same_over, Assembled, Assembles, fixed_bytes, resolved, segment_of, set_bytes, Assembly, and_from, and_parts, found_after, found_first, found_shorter}
use Rattle.asm8080.specs.Assembled.{places_of}

-- all runs begin at a place or after it
abbrev AllFrom : ℕ → List (Run ℕ) → Type 0
AllFrom p [] = Unit {0}
AllFrom p (run ∷ others) = (p ≤ run.offset) × AllFrom p others

from_less : (p q : ℕ) (runs : List (Run ℕ)) → p ≤ q → AllFrom q runs → AllFrom p runs
from_less p q [] h from = tt
from_less p q (run ∷ others) h from =
    let here : q ≤ run.offset = from.0 in (omega (arith, here, h), from_less p q others h from.1)

found_before :
    (fixes : List Fix) (runs : List (Run ℕ)) (x : ℕ) → AllFrom (x + 1) runs → found fixes runs x ≡ None
found_before fixes [] x from = refl
found_before fixes (run ∷ others) x from =
    let here : x + 1 ≤ run.offset = from.0 in
    let before : x < run.offset = omega (arith, here) in
    ap (λ b.
    cond (b && nat_lt x (run.offset + length run.items)) (Some (byte_in_run fixes x run))
    (found fixes others x))
    (lt-leb run.offset x before)
    ∙ found_before fixes others x from.1

-- What a byte before runs makes of them: it joins the first, or is a run of its own.
abbrev runs_by : (offset value : ℕ) (next : Run ℕ) (others : List (Run ℕ)) → Bool → List (Run ℕ)
runs_by offset value next others joins =
    cond joins (run_at offset (value ∷ next.items) ∷ others) (run_at offset (value ∷ []) ∷ next ∷ others)

found_here :
    (fixes : List Fix) (offset value : ℕ) (runs : List (Run ℕ))
    → found fixes (before_runs offset value runs) offset
    ≡ Some (record { value = value; fixup = fixup_at fixes offset })
found_here fixes offset value [] = found_first fixes offset value [] []
found_here fixes offset value (next ∷ others) = go (next.offset == offset + 1)
  where
    go :
        (joins : Bool)
        → found fixes (runs_by offset value next others joins) offset
        ≡ Some (record { value = value; fixup = fixup_at fixes offset })
    go true = found_first fixes offset value next.items others
    go false = found_first fixes offset value [] (next ∷ others)

found_later :
    (fixes : List Fix) (offset value : ℕ) (runs : List (Run ℕ)) (x : ℕ)
    → offset + 1 ≤ x
    → found fixes (before_runs offset value runs) x ≡ found fixes runs x
found_later fixes offset value [] x h = found_after fixes (run_at offset (value ∷ [])) [] x (omega (arith, h))
found_later fixes offset value (next ∷ others) x h = go (next.offset == offset + 1) refl
  where
    go :
        (joins : Bool)
        → (next.offset == offset + 1) ≡ joins
        → found fixes (runs_by offset value next others joins) x ≡ found fixes (next ∷ others) x
    go true e =
        found_shorter fixes offset value next.items others x h
        ∙ ap (λ n. found fixes (run_at n next.items ∷ others) x) (sym (eqb-true next.offset (offset + 1) e))
    go false e = found_after fixes (run_at offset (value ∷ [])) (next ∷ others) x (omega (arith, h))

before_from :
    (offset value : ℕ) (runs : List (Run ℕ)) → AllFrom (offset + 1) runs
    → AllFrom offset (before_runs offset value runs)
before_from offset value [] from = (omega arith, tt)
before_from offset value (next ∷ others) from = go (next.offset == offset + 1)
  where
    go : (joins : Bool) → AllFrom offset (runs_by offset value next others joins)
    go true = (omega arith, from_less offset (offset + 1) others (omega arith) from.1)
    go false = (omega arith, from_less offset (offset + 1) (next ∷ others) (omega arith) from)

runs_begin : (offset : ℕ) (bytes : List (Option ℕ)) → AllFrom offset (runs_from offset bytes)
runs_begin offset [] = tt
runs_begin offset (None ∷ others) =
    from_less offset (offset + 1) (runs_from (offset + 1) others) (omega arith)
    (runs_begin (offset + 1) others)
runs_begin offset (Some value ∷ others) =
    before_from offset value (runs_from (offset + 1) others) (runs_begin (offset + 1) others)

pub run_places :
    (fixes : List Fix) (offset : ℕ) (bytes : List (Option ℕ))
    → map (found fixes (runs_from offset bytes)) (range_with_len offset (length bytes))
    ≡ fixed_bytes fixes offset bytes
run_places fixes offset [] = refl
run_places fixes offset (None ∷ others) =
    let runs : List (Run ℕ) = runs_from (offset + 1) others in
    ap (λ (place : Option SetByte). place
    ∷ map (found fixes runs) (range_with_len (offset + 1) (length others)))
    (found_before fixes runs offset (runs_begin (offset + 1) others))
    ∙ ap (λ (places : List (Option SetByte)). None ∷ places) (run_places fixes (offset + 1) others)
run_places fixes offset (Some value ∷ others) =
    let runs : List (Run ℕ) = runs_from (offset + 1) others in
    let whole : List (Run ℕ) = before_runs offset value runs in
    let here : SetByte = record { value = value; fixup = fixup_at fixes offset } in
    ap (λ (place : Option SetByte). place
    ∷ map (found fixes whole) (range_with_len (offset + 1) (length others)))
    (found_here fixes offset value runs)
    ∙ ap (λ (places : List (Option SetByte)). Some here ∷ places)
    (same_over (found fixes whole) (found fixes runs) (offset + 1) (length others)
    (λ x le. found_later fixes offset value runs x le)
    ∙ run_places fixes (offset + 1) others)

pub set_length : (bytes : List ℕ) (flags : List Bool) → length (set_bytes bytes flags) ≡ length bytes
set_length [] flags = refl
set_length (byte ∷ others) [] = ap (λ n. suc n) (set_length others [])
set_length (byte ∷ others) (here ∷ later) = ap (λ n. suc n) (set_length others later)

-- the places of a segment that is kept of code are those of the code
pub segment_places_in :
    (segment : Segment) (code : Assembled) → same_segment segment segment ≡ true
    → (places_stored segment (segment_of code)).places ≡ places_of code
segment_places_in segment code same =
    let bytes : List (Option ℕ) = set_bytes code.bytes code.is_set in
    let runs : List (Run ℕ) = runs_from 0 bytes in
    same_over (set_in (map (content_with segment code.fixes) runs) segment) (found code.fixes runs) 0
    (length code.bytes)
    (λ x le. found_is segment code.fixes runs x same)
    ∙ ap (λ n. map (found code.fixes runs) (range_with_len 0 n)) (sym (set_length code.bytes code.is_set))
    ∙ run_places code.fixes 0 bytes

pub segment_places : (code : Assembled) → (places_stored Code (segment_of code)).places ≡ places_of code
segment_places code = segment_places_in Code code refl

-- its runs are the longest
apart_from_next :
    (size offset : ℕ) (items : List ℕ) (value : ℕ) (others : List (Run ℕ))
    → are_longest size (run_at (offset + 1) items ∷ others) ≡ true
    → are_longest size (run_at offset (value ∷ items) ∷ others) ≡ true
apart_from_next size offset items value [] h =
    let ends : offset + 1 + length items ≤ size
    = leb-true (offset + 1 + length items) size
    (and_parts (not (is_empty items)) (nat_le (offset + 1 + length items) size) h).1 in
    le-leb (offset + length (value ∷ items)) size (omega (arith, ends))
apart_from_next size offset items value (next ∷ others) h =
    let front : Bool = not (is_empty items) && nat_lt (offset + 1 + length items) next.offset in
    let before : offset + 1 + length items < next.offset
    = ltb-true (offset + 1 + length items) next.offset
    (and_parts (not (is_empty items)) (nat_lt (offset + 1 + length items) next.offset)
    (and_parts front (are_longest size (next ∷ others)) h).0).1 in
    and_from (nat_lt (offset + length (value ∷ items)) next.offset) (are_longest size (next ∷ others))
    (lt-ltb (offset + length (value ∷ items)) next.offset (omega (arith, before)))
    (and_parts front (are_longest size (next ∷ others)) h).1

less_by : (n m : ℕ) → m ≤ n → (n ≡ m → ⊥) → m < n
less_by n m le ne = omega (arith, le, ne)

longest_more :
    (size offset value : ℕ) (runs : List (Run ℕ))
    → offset + 1 ≤ size
    → AllFrom (offset + 1) runs
    → are_longest size runs ≡ true
    → are_longest size (before_runs offset value runs) ≡ true
longest_more size offset value [] room from h = le-leb (offset + 1) size room
longest_more size offset value (next ∷ others) room from h = go (next.offset == offset + 1) refl
  where
    go :
        (joins : Bool)
        → (next.offset == offset + 1) ≡ joins
        → are_longest size (runs_by offset value next others joins) ≡ true
    go true e =
        apart_from_next size offset next.items value others
        (subst (λ n. are_longest size (run_at n next.items ∷ others) ≡ true)
        (eqb-true next.offset (offset + 1) e) h)
    go false e =
        let from_here : offset + 1 ≤ next.offset = from.0 in
        let other : next.offset ≡ offset + 1 → ⊥ = eqb-false next.offset (offset + 1) e in
        let before : offset + 1 < next.offset = less_by next.offset (offset + 1) from_here other in
        and_from (nat_lt (offset + 1) next.offset) (are_longest size (next ∷ others))
        (lt-ltb (offset + 1) next.offset before) h

pub runs_longest :
    (size offset : ℕ) (bytes : List (Option ℕ))
    → offset + length bytes ≤ size
    → are_longest size (runs_from offset bytes) ≡ true
runs_longest size offset [] fits = refl
runs_longest size offset (None ∷ others) fits =
    let later : offset + 1 + length others ≤ size = omega (arith, fits) in
    runs_longest size (offset + 1) others later
runs_longest size offset (Some value ∷ others) fits =
    let later : offset + 1 + length others ≤ size = omega (arith, fits) in
    longest_more size offset value (runs_from (offset + 1) others) (omega (arith, later))
    (runs_begin (offset + 1) others) (runs_longest size (offset + 1) others later)

-- code that was assembled is a segment as object modules keep them
pub segment_stored :
    (assembly : Assembly) (code : Assembled) → Assembles assembly code → IsStored Code (segment_of code)
segment_stored assembly code is = record {
  runs =
      runs_longest (length code.bytes) 0 (set_bytes code.bytes code.is_set)
      (omega (arith, set_length code.bytes code.is_set));
  ascending = is.ascending;
  fixes = is.filled;
}

-- the target of the fix at a place is that of a fix
target_at :
    (count : ℕ) (fixes : List Fix) (x : ℕ)
    → list_all (λ (fix : Fix). is_target count fix.target) fixes ≡ true
    → option_map_or (λ (fixup : Fixup). is_target count fixup.target) (fixup_at fixes x) true ≡ true
target_at count [] x h = refl
target_at count (fix ∷ others) x h =
    go (fix.offset == x)
    (and_parts (is_target count fix.target)
    (list_all (λ (other : Fix). is_target count other.target) others) h).0
    (target_at count others x
    (and_parts (is_target count fix.target)
    (list_all (λ (other : Fix). is_target count other.target) others) h).1)
  where
    shown : Option Fix → Option Fixup
    shown found = option_map (λ (fix : Fix). record { kind = fix.kind; target = fix.target }) found

    go :
        (here : Bool)
        → is_target count fix.target ≡ true
        → option_map_or (λ (fixup : Fixup). is_target count fixup.target) (fixup_at others x) true ≡ true
        → option_map_or (λ (fixup : Fixup). is_target count fixup.target)
        (shown (cond here (Some fix) (find (λ (other : Fix). other.offset == x) others))) true ≡ true
    go true here later = here
    go false here later = later

abbrev pub set_well : (count : ℕ) → List (Option SetByte) → Bool
set_well count places = list_all (λ place. option_map_or (is_valid_byte count) place true) places

pub valid_bytes :
    (count : ℕ) (fixes : List Fix) (offset : ℕ) (bytes : List ℕ) (flags : List Bool)
    → All (λ byte. byte < 256) bytes
    → list_all (λ (fix : Fix). is_target count fix.target) fixes ≡ true
    → set_well count (fixed_bytes fixes offset (set_bytes bytes flags)) ≡ true
valid_bytes count fixes offset [] flags small targets = refl
valid_bytes count fixes offset (value ∷ others) [] small targets =
    valid_bytes count fixes (offset + 1) others []
    (All-tail (λ (byte : ℕ). byte < 256) value others small) targets
valid_bytes count fixes offset (value ∷ others) (false ∷ later) small targets =
    valid_bytes count fixes (offset + 1) others later
    (All-tail (λ (byte : ℕ). byte < 256) value others small) targets
valid_bytes count fixes offset (value ∷ others) (true ∷ later) small targets =
    let here : SetByte = record { value = value; fixup = fixup_at fixes offset } in
    and_from (is_valid_byte count here)
    (set_well count (fixed_bytes fixes (offset + 1) (set_bytes others later)))
    (and_from (nat_lt value 256)
    (option_map_or (λ (fixup : Fixup). is_target count fixup.target) (fixup_at fixes offset) true)
    (lt-ltb value 256 (All-head (λ (byte : ℕ). byte < 256) value others small))
    (target_at count fixes offset targets))
    (valid_bytes count fixes (offset + 1) others later
    (All-tail (λ (byte : ℕ). byte < 256) value others small) targets)

pub places_length : (fixes : List Fix) (offset : ℕ) (bytes : List (Option ℕ))
    → length (fixed_bytes fixes offset bytes) ≡ length bytes
places_length fixes offset [] = refl
places_length fixes offset (byte ∷ others) = ap (λ n. suc n) (places_length fixes (offset + 1) others)

-- and one that a module with so many external names may have
pub segment_valid :
    (assembly : Assembly) (code : Assembled) (count : ℕ)
    → Assembles assembly code
    → length code.bytes ≤ SEGMENT_LIMIT
    → All (λ byte. byte < 256) code.bytes
    → list_all (λ (fix : Fix). is_target count fix.target) code.fixes ≡ true
    → is_valid_segment count (places_stored Code (segment_of code)) ≡ true
segment_valid assembly code count is few small targets =
    let size : length (places_of code) ≡ length code.bytes
    = places_length code.fixes 0 (set_bytes code.bytes code.is_set) ∙ set_length code.bytes code.is_set in
    ap valid (segment_places code)
    ∙ and_from
    ((nat_le (length (places_of code)) SEGMENT_LIMIT && set_well count (places_of code))
    && words_are_whole (places_of code))
    true
    (and_from (nat_le (length (places_of code)) SEGMENT_LIMIT && set_well count (places_of code))
    (words_are_whole (places_of code))
    (and_from (nat_le (length (places_of code)) SEGMENT_LIMIT) (set_well count (places_of code))
    (le-leb (length (places_of code)) SEGMENT_LIMIT (omega (arith, few, size)))
    (valid_bytes count code.fixes 0 code.bytes code.is_set small targets))
    is.whole)
    refl
  where
    valid : List (Option SetByte) → Bool
    valid places =
        ((nat_le (length places) SEGMENT_LIMIT && set_well count places) && words_are_whole places) && true

-- the bytes of a module with this code segment, where it is placed, are the code resolved there
pub segment_placed :
    (plan : Plan) (object : ObjectModule) (code : Assembled)
    → module_places object Code ≡ places_of code
    → placed_bytes plan object Code ≡ resolved (gain_at plan) code
segment_placed plan object code same =
    ap (λ (places : List (Option SetByte)).
    map (option_map (λ (here : SetByte). here.value)) (moved (gain_at plan) (λ target. None) places)) same
