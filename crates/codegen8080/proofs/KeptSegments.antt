-- Code as a segment of an object module, with other targets of its fixes.
use Rattle.codegen8080.proofs.Prelude.{◌≡◌, ℕ, suc, ◌+◌, ◌-◌, ◌<◌, ◌≤◌, Bool, true, false, cond, not, ◌==◌, ◌&&◌, ◌||◌, nat_lt, nat_le, List, [], ◌∷◌, ◌++◌, length, map, find, take, drop, Option, Some, None, option_map, slice_get, slice_index, slice_index_or, zero, if◌then◌else◌, refl, sym, ap, ◌∙◌, arith, All, IsTrue, list_all, slice_range, option_map_or, option_flatten, eq-eqb, le-leb, append-nil, append_assoc, map-append, Fix, FixKind, Segment, Absolute, Code, Data, Stack, Target, InSegment, External, SEGMENT_LIMIT, Fixup, SetByte, begins_word, is_both, is_plain, is_target, is_valid_segment, words_are_whole, fixup_at, fix_end, IsStored, are_longest, fixes_ascend, is_in_a_run, places_stored, Run, before_runs, runs_from, run_at, with_run, with_runs, Assembled, Assembles, FitsSegment, fixed_bytes, places_of, segment_of, set_bytes, Assembly, places_length, runs_longest, set_length, set_well, valid_bytes, Finishes, Written, retargeted, with_targets, IsKept, KeepsFixes, listed_target, retarget, and_from, segment_places_in, take_found, take_whole}
use Rattle.object_modules.proofs.StoredRuns.{found}
use Rattle.object_laws.proofs.Merges.RunsJoined.{runs_append}

-- assembled code keeps its fixes
pub assembled_keeps : (assembly : Assembly) (code : Assembled) → Assembles assembly code → KeepsFixes code
assembled_keeps assembly code is = record { filled = is.filled; whole = is.whole }

-- finished code keeps its fixes
pub finished_keeps : (written : Written) (code : Assembled) (labels : List (Option ℕ))
    → Finishes written code labels → KeepsFixes code
finished_keeps written code labels is = assembled_keeps written.code code is.assembles

-- Other targets change neither the order of fixes nor the runs that they are in.
module _ (to : Target → Target) where
  ascend_still : (fixes : List Fix) → fixes_ascend (map (retargeted to) fixes) ≡ fixes_ascend fixes
  ascend_still [] = refl
  ascend_still (fix ∷ []) = refl
  ascend_still (fix ∷ next ∷ others) =
      ap (λ b. nat_le (fix_end fix) next.offset && b) (ascend_still (next ∷ others))

  filled_still :
      (segment : Segment) (runs : List (Run ℕ)) (fixes : List Fix)
      → list_all (is_in_a_run segment runs) (map (retargeted to) fixes)
      ≡ list_all (is_in_a_run segment runs) fixes
  filled_still segment runs [] = refl
  filled_still segment runs (fix ∷ others) =
      ap (λ b. is_in_a_run segment runs fix && b) (filled_still segment runs others)

  -- the kind of the fix at a place does not change
  kind_still :
      (test : FixKind → Bool) (or : Bool) (fixes : List Fix) (x : ℕ)
      → option_map_or (λ (fixup : Fixup). test fixup.kind) (fixup_at (map (retargeted to) fixes) x) or
      ≡ option_map_or (λ (fixup : Fixup). test fixup.kind) (fixup_at fixes x) or
  kind_still test or [] x = refl
  kind_still test or (fix ∷ others) x = go (fix.offset == x) (kind_still test or others x)
    where
      shown : Option Fix → Bool
      shown found =
          option_map_or (λ (fixup : Fixup). test fixup.kind)
          (option_map (λ (fix : Fix). record { kind = fix.kind; target = fix.target }) found) or

      go :
          (here : Bool)
          → shown (find (λ (other : Fix). other.offset == x) (map (retargeted to) others))
          ≡ shown (find (λ (other : Fix). other.offset == x) others)
          → shown (cond here (Some (retargeted to fix))
          (find (λ (other : Fix). other.offset == x) (map (retargeted to) others)))
          ≡ shown (cond here (Some fix) (find (λ (other : Fix). other.offset == x) others))
      go true later = refl
      go false later = later

  plain_still :
      (fixes : List Fix) (offset : ℕ) (bytes : List (Option ℕ))
      → is_plain (option_flatten (slice_get (fixed_bytes (map (retargeted to) fixes) offset bytes) 0))
      ≡ is_plain (option_flatten (slice_get (fixed_bytes fixes offset bytes) 0))
  plain_still fixes offset [] = refl
  plain_still fixes offset (None ∷ others) = refl
  plain_still fixes offset (Some value ∷ others) = kind_still (λ kind. false) true fixes offset

  whole_still :
      (fixes : List Fix) (offset : ℕ) (bytes : List (Option ℕ))
      → words_are_whole (fixed_bytes (map (retargeted to) fixes) offset bytes)
      ≡ words_are_whole (fixed_bytes fixes offset bytes)
  whole_still fixes offset [] = refl
  whole_still fixes offset (None ∷ others) = whole_still fixes (offset + 1) others
  whole_still fixes offset (Some value ∷ others) =
      ap (λ b. (not b || is_plain (option_flatten
      (slice_get (fixed_bytes (map (retargeted to) fixes) (offset + 1) others) 0)))
      && words_are_whole (fixed_bytes (map (retargeted to) fixes) (offset + 1) others))
      (kind_still is_both false fixes offset)
      ∙ ap (λ b. (not (begins_word (Some (record { value = value; fixup = fixup_at fixes offset }))) || b)
      && words_are_whole (fixed_bytes (map (retargeted to) fixes) (offset + 1) others))
      (plain_still fixes (offset + 1) others)
      ∙ ap (λ b. (not (begins_word (Some (record { value = value; fixup = fixup_at fixes offset })))
      || is_plain (option_flatten (slice_get (fixed_bytes fixes (offset + 1) others) 0))) && b)
      (whole_still fixes (offset + 1) others)

-- Each target is one that a module with `count` external names may have.
listed_valid : (count : ℕ) (number : Option ℕ) → is_target count (listed_target count number) ≡ true
listed_valid count None = refl
listed_valid count (Some number) = go (nat_lt number count && nat_lt number 65536) refl
  where
    go :
        (b : Bool) → (nat_lt number count && nat_lt number 65536) ≡ b
        → is_target count (cond b (External number) (InSegment Code)) ≡ true
    go true e = e
    go false e = refl

target_valid :
    (numbers : List ℕ) (count : ℕ) (target : Target) → is_target count (retarget numbers count target) ≡ true
target_valid numbers count (External number) = listed_valid count (slice_get numbers number)
target_valid numbers count (InSegment Absolute) = refl
target_valid numbers count (InSegment Code) = refl
target_valid numbers count (InSegment Data) = refl
target_valid numbers count (InSegment Stack) = refl

targets_valid :
    (numbers : List ℕ) (count : ℕ) (fixes : List Fix)
    → list_all (λ (fix : Fix). is_target count fix.target) (map (retargeted (retarget numbers count)) fixes)
    ≡ true
targets_valid numbers count [] = refl
targets_valid numbers count (fix ∷ others) =
    and_from (is_target count (retarget numbers count fix.target))
    (list_all (λ (fix : Fix). is_target count fix.target) (map (retargeted (retarget numbers count)) others))
    (target_valid numbers count fix.target) (targets_valid numbers count others)

-- The segment of code with other targets is stored, and a module may have it.
module _ (numbers : List ℕ) (count : ℕ) (code : Assembled) (fits : FitsSegment code)
    (keeps : KeepsFixes code) where
  abbrev moved : Assembled
  moved = with_targets (retarget numbers count) code

  longest : IsTrue (are_longest (length code.bytes) (runs_from 0 (set_bytes code.bytes code.is_set)))
  longest =
      runs_longest (length code.bytes) 0 (set_bytes code.bytes code.is_set)
      (omega (arith, set_length code.bytes code.is_set))

  pub stored_code : IsStored Code (segment_of (with_targets (retarget numbers count) code))
  stored_code = record {
    runs = longest;
    ascending = ascend_still (retarget numbers count) code.fixes ∙ fits.ascending;
    fixes =
        filled_still (retarget numbers count) Code (runs_from 0 (set_bytes code.bytes code.is_set)) code.fixes
        ∙ keeps.filled;
  }

  pub stored_data : IsStored Data (segment_of (with_targets (retarget numbers count) code))
  stored_data = record {
    runs = longest;
    ascending = ascend_still (retarget numbers count) code.fixes ∙ fits.ascending;
    fixes =
        filled_still (retarget numbers count) Data (runs_from 0 (set_bytes code.bytes code.is_set)) code.fixes
        ∙ keeps.filled;
  }

  module _ (small : All (λ byte. byte < 256) code.bytes) where
    valid_places : (places : List (Option SetByte))
        → places ≡ places_of (with_targets (retarget numbers count) code)
        → (((nat_le (length places) SEGMENT_LIMIT && set_well count places) && words_are_whole places)
        && true) ≡ true
    valid_places places is =
        let size : length (places_of moved) ≡ length code.bytes
        = places_length moved.fixes 0 (set_bytes code.bytes code.is_set)
        ∙ set_length code.bytes code.is_set in
        ap (λ places. ((nat_le (length places) SEGMENT_LIMIT && set_well count places)
        && words_are_whole places) && true) is
        ∙ and_from
        ((nat_le (length (places_of moved)) SEGMENT_LIMIT && set_well count (places_of moved))
        && words_are_whole (places_of moved))
        true
        (and_from (nat_le (length (places_of moved)) SEGMENT_LIMIT && set_well count (places_of moved))
        (words_are_whole (places_of moved))
        (and_from (nat_le (length (places_of moved)) SEGMENT_LIMIT) (set_well count (places_of moved))
        (le-leb (length (places_of moved)) SEGMENT_LIMIT (omega (arith, fits.few, size)))
        (valid_bytes count moved.fixes 0 code.bytes code.is_set small
        (targets_valid numbers count code.fixes)))
        (whole_still (retarget numbers count) code.fixes 0 (set_bytes code.bytes code.is_set) ∙ keeps.whole))
        refl

    pub valid_code :
        is_valid_segment count (places_stored Code (segment_of (with_targets (retarget numbers count) code)))
        ≡ true
    valid_code = valid_places _ (segment_places_in Code moved refl)

    pub valid_data :
        is_valid_segment count (places_stored Data (segment_of (with_targets (retarget numbers count) code)))
        ≡ true
    valid_data = valid_places _ (segment_places_in Data moved refl)

    pub segment_with_targets_is_kept : IsKept count (segment_of (with_targets (retarget numbers count) code))
    segment_with_targets_is_kept = record {
      as_code = stored_code;
      as_data = stored_data;
      valid_code = valid_code;
      valid_data = valid_data;
    }

-- The runs of bytes that are set, byte by byte.
set_at : (bytes : List ℕ) (flags : List Bool) (i : ℕ) → i < length bytes
    → slice_get (set_bytes bytes flags) i
    ≡ Some (if slice_index_or flags i false then Some (slice_index bytes i) else None)
set_at [] flags i h = elim h [ ]
set_at (byte ∷ others) [] zero h = refl
set_at (byte ∷ others) (here ∷ later) zero h = refl
set_at (byte ∷ others) [] (suc i) h = set_at others [] i (omega (arith, h))
set_at (byte ∷ others) (here ∷ later) (suc i) h = set_at others later i (omega (arith, h))

take_length : {A : Type 0} (items : List A) (i : ℕ) → i ≤ length items → length (take i items) ≡ i
take_length [] zero h = refl
take_length [] (suc i) h = elim h [ ]
take_length (first ∷ others) zero h = refl
take_length (first ∷ others) (suc i) h = ap (λ n. suc n) (take_length others i (omega (arith, h)))

pub runs_begun : (bytes : List ℕ) (flags : List Bool) → [] ≡ runs_from 0 (take 0 (set_bytes bytes flags))
runs_begun [] flags = refl
runs_begun (byte ∷ others) [] = refl
runs_begun (byte ∷ others) (here ∷ later) = refl

runs_next :
    (places : List (Option ℕ)) (i : ℕ) (place : Option ℕ) → i < length places
    → slice_get places i ≡ Some place
    → runs_from 0 (take (i + 1) places) ≡ with_runs (runs_from 0 (take i places)) (runs_from i (place ∷ []))
runs_next places i place h is =
    let more : i + 1 ≡ suc i = omega arith in
    let taken : length (take i places) ≡ i = take_length places i (omega (arith, h)) in
    let size : 0 + length (take i places) ≡ i = omega (arith, taken) in
    ap (λ n. runs_from 0 (take n places)) more
    ∙ ap (λ items. runs_from 0 items) (take_found places i place is)
    ∙ runs_append 0 (take i places) (place ∷ [])
    ∙ ap (λ n. with_runs (runs_from 0 (take i places)) (runs_from n (place ∷ []))) size

-- a byte that is not set makes the runs no longer
pub runs_unset :
    (bytes : List ℕ) (flags : List Bool) (i : ℕ) → i < length bytes → slice_index_or flags i false ≡ false
    → runs_from 0 (take i (set_bytes bytes flags)) ≡ runs_from 0 (take (i + 1) (set_bytes bytes flags))
runs_unset bytes flags i h unset =
    sym (runs_next (set_bytes bytes flags) i None (omega (arith, h, set_length bytes flags))
    (set_at bytes flags i h ∙ ap (λ b. Some (if b then Some (slice_index bytes i) else None)) unset))

-- Bytes that are set one after another are one run.
one_run : (start first : ℕ) (others : List ℕ)
    → runs_from start (map Some (first ∷ others)) ≡ run_at start (first ∷ others) ∷ []
one_run start first [] = refl
one_run start first (next ∷ others) =
    ap (before_runs start first) (one_run (start + 1) next others)
    ∙ ap (λ (b : Bool). if b then run_at start (first ∷ next ∷ others) ∷ [] else run_at start (first ∷ [])
    ∷ run_at (start + 1) (next ∷ others) ∷ [])
    (eq-eqb (start + 1) (start + 1) refl)

pub some_added : (runs : List (Run ℕ)) (start : ℕ) (items : List ℕ) → 0 < length items
    → with_run runs (run_at start items) ≡ with_runs runs (runs_from start (map Some items))
some_added runs start [] h = elim h [ ]
some_added runs start (first ∷ others) h = sym (ap (with_runs runs) (one_run start first others))

range_none : (bytes : List ℕ) (start : ℕ) → slice_range bytes start start ≡ []
range_none bytes start =
    let none : start - start ≡ 0 = omega arith in ap (λ n. take n (drop start bytes)) none

pub none_added : (runs : List (Run ℕ)) (bytes : List ℕ) (start end : ℕ) → start ≡ end
    → runs ≡ with_runs runs (runs_from start (map Some (slice_range bytes start end)))
none_added runs bytes start end same =
    sym (ap (λ n. with_runs runs (runs_from start (map Some (slice_range bytes start n)))) (sym same)
    ∙ ap (λ items. with_runs runs (runs_from start (map Some items))) (range_none bytes start))

range_more : (bytes : List ℕ) (start i : ℕ) → start ≤ i → i < length bytes
    → slice_range bytes start (i + 1) ≡ slice_range bytes start i ++ slice_index bytes i ∷ []
range_more [] start i le lt = elim lt [ ]
range_more (byte ∷ others) zero zero le lt = refl
range_more (byte ∷ others) zero (suc i) le lt =
    let more : (suc i + 1) - 0 ≡ suc ((i + 1) - 0) = omega arith in
    let same : suc i - 0 ≡ suc (i - 0) = omega arith in
    ap (λ n. take n (byte ∷ others)) more
    ∙ ap (λ rest. byte ∷ rest) (range_more others zero i (omega arith) (omega (arith, lt)))
    ∙ ap (λ n. take n (byte ∷ others) ++ slice_index others i ∷ []) (sym same)
range_more (byte ∷ others) (suc start) zero le lt = elim le [ ]
range_more (byte ∷ others) (suc start) (suc i) le lt =
    let more : (suc i + 1) - suc start ≡ (i + 1) - start = omega arith in
    let same : suc i - suc start ≡ i - start = omega arith in
    ap (λ n. take n (drop start others)) more
    ∙ range_more others start i (omega (arith, le)) (omega (arith, lt))
    ∙ ap (λ n. take n (drop start others) ++ slice_index others i ∷ []) (sym same)

-- A stretch of bytes between two indices that are all set.
abbrev pub IsStretch : (bytes : List ℕ) → (flags : List Bool) → (start end : ℕ) → Type 0
IsStretch bytes flags start end =
    take end (set_bytes bytes flags) ≡ take start (set_bytes bytes flags)
    ++ map Some (slice_range bytes start end)

pub stretch_begun : (bytes : List ℕ) (flags : List Bool) (start : ℕ) → IsStretch bytes flags start start
stretch_begun bytes flags start =
    sym (ap (λ items. take start (set_bytes bytes flags) ++ map Some items) (range_none bytes start)
    ∙ append-nil (take start (set_bytes bytes flags)))

pub stretch_more :
    (bytes : List ℕ) (flags : List Bool) (start i : ℕ) → start ≤ i → i < length bytes
    → slice_index_or flags i false ≡ true → IsStretch bytes flags start i
    → IsStretch bytes flags start (i + 1)
stretch_more bytes flags start i le lt set is =
    let places : List (Option ℕ) = set_bytes bytes flags in
    let more : i + 1 ≡ suc i = omega arith in
    let byte : ℕ = slice_index bytes i in
    let here : slice_get places i ≡ Some (Some byte)
    = set_at bytes flags i lt ∙ ap (λ b. Some (if b then Some byte else None)) set in
    ap (λ n. take n places) more
    ∙ take_found places i (Some byte) here
    ∙ ap (λ front. front ++ Some byte ∷ []) is
    ∙ append_assoc (take start places) (map Some (slice_range bytes start i)) (Some byte ∷ [])
    ∙ ap (λ rest. take start places ++ rest) (sym (map-append Some (slice_range bytes start i) (byte ∷ [])))
    ∙ ap (λ items. take start places ++ map Some items) (sym (range_more bytes start i le lt))

-- at the end of a stretch, the runs include it
pub stretch_ended :
    (bytes : List ℕ) (flags : List Bool) (start end : ℕ) → start ≤ end → end ≤ length bytes
    → IsStretch bytes flags start end
    → with_runs (runs_from 0 (take start (set_bytes bytes flags)))
    (runs_from start (map Some (slice_range bytes start end)))
    ≡ runs_from 0 (take end (set_bytes bytes flags))
stretch_ended bytes flags start end le few is =
    let places : List (Option ℕ) = set_bytes bytes flags in
    let size : 0 + length (take start places) ≡ start
    = ap (λ n. 0 + n) (take_length places start (omega (arith, le, few, set_length bytes flags)))
    ∙ omega arith in
    sym (ap (λ items. runs_from 0 items) is
    ∙ runs_append 0 (take start places) (map Some (slice_range bytes start end))
    ∙ ap (λ n. with_runs (runs_from 0 (take start places))
    (runs_from n (map Some (slice_range bytes start end)))) size)

pub runs_ended :
    (bytes : List ℕ) (flags : List Bool) (i : ℕ) → length bytes ≤ i
    → runs_from 0 (take i (set_bytes bytes flags)) ≡ runs_from 0 (set_bytes bytes flags)
runs_ended bytes flags i h =
    ap (λ items. runs_from 0 items)
    (take_whole (set_bytes bytes flags) i (omega (arith, h, set_length bytes flags)))
