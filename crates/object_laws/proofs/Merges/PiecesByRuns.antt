-- A piece run by run: each run takes the fixes in front that begin within it, and its bytes are moved by
-- these.
use Rattle.object_laws.proofs.Prelude.{◌≡◌, ℕ, suc, ◌+◌, ◌<◌, ◌≤◌, Bool, true, false, cond, not, ◌||◌, ◌==◌, List, [], ◌∷◌, ◌++◌, length, map, flat_map, Option, Some, None, refl, ap, sym, subst, ◌∙◌, le_trans, arith, AllByRecursion, and_parts, and_from, eq-eqb, ne_eqb, lt-ltb, le-ltb, length-map, Fix, Target, Fixup, SetByte, begins_word, is_plain, words_are_whole, bytes_of_run, fixes_of_run, Run, before_runs, runs_from, fixes_from, run_at, before_fixes, fixes_below, fixes_past, run_end, run_fixed, runs_fixed, fixes_step}
use Rattle.object_laws.proofs.Merges.RunsMoved.{FirstFrom, first_from, fixes_later, row_of, values_of, bytes_moved}
use Rattle.object_laws.proofs.Merges.PlacesKept.{AllFrom, all_earlier, all_from}
use Rattle.object_laws.proofs.Merges.PiecesJoined.{run_placed}

-- fixes before a place, and from one on
abbrev pub AllBelow : (end : ℕ) → List Fix → Type 0
AllBelow end fixes = AllByRecursion (λ (fix : Fix). fix.offset < end) fixes

abbrev pub AllPast : (end : ℕ) → List Fix → Type 0
AllPast end fixes = AllByRecursion (λ (fix : Fix). end ≤ fix.offset) fixes

past_none : (end : ℕ) (fixes : List Fix) → AllPast end fixes → fixes_below end fixes ≡ []
past_none end [] all = refl
past_none end (fix ∷ others) all =
    ap (λ b. cond b (fix ∷ fixes_below end others) []) (le-ltb fix.offset end all.0)

past_all : (end : ℕ) (fixes : List Fix) → AllPast end fixes → fixes_past end fixes ≡ fixes
past_all end [] all = refl
past_all end (fix ∷ others) all =
    ap (λ b. cond b (fixes_past end others) (fix ∷ others)) (le-ltb fix.offset end all.0)

pub below_first :
    (end : ℕ) (xs ys : List Fix) → AllBelow end xs → AllPast end ys → fixes_below end (xs ++ ys) ≡ xs
below_first end [] ys below past = past_none end ys past
below_first end (fix ∷ others) ys below past =
    ap (λ b. cond b (fix ∷ fixes_below end (others ++ ys)) []) (lt-ltb fix.offset end below.0)
    ∙ ap (λ f. fix ∷ f) (below_first end others ys below.1 past)

pub past_others :
    (end : ℕ) (xs ys : List Fix) → AllBelow end xs → AllPast end ys → fixes_past end (xs ++ ys) ≡ ys
past_others end [] ys below past = past_all end ys past
past_others end (fix ∷ others) ys below past =
    ap (λ b. cond b (fixes_past end (others ++ ys)) (fix ∷ others ++ ys)) (lt-ltb fix.offset end below.0)
    ∙ past_others end others ys below.1 past

-- the fixes of a run are within it
before_below :
    (offset end : ℕ) (fixup : Option Fixup) (fixes : List Fix) → offset < end → AllBelow end fixes
    → AllBelow end (before_fixes offset fixup fixes)
before_below offset end None fixes h all = all
before_below offset end (Some fixup) fixes h all = (h, all)

fixes_within :
    (offset end : ℕ) (items : List SetByte) → offset + length items ≤ end
    → AllBelow end (fixes_from offset items)
fixes_within offset end [] h = tt
fixes_within offset end (here ∷ others) h =
    subst (AllBelow end) (sym (fixes_step offset here.value here.fixup others))
    (before_below offset end here.fixup (fixes_from (offset + 1) others) (omega (arith, h))
    (fixes_within (offset + 1) end others (omega (arith, h))))

pub past_append : (end : ℕ) (xs ys : List Fix) → AllPast end xs → AllPast end ys → AllPast end (xs ++ ys)
past_append end [] ys x y = y
past_append end (fix ∷ others) ys x y = (x.0, past_append end others ys x.1 y)

fixes_past_runs :
    (end : ℕ) (runs : List (Run SetByte)) → AllFrom end runs → AllPast end (flat_map fixes_of_run runs)
fixes_past_runs end [] all = tt
fixes_past_runs end (run ∷ others) all =
    past_append end (fixes_from run.offset run.items) (flat_map fixes_of_run others)
    (fixes_later end run.offset run.items all.0) (fixes_past_runs end others all.1)

-- Runs that do not meet, and cut no word.
abbrev pub Apart : List (Run SetByte) → Type 0
Apart [] = Unit {0}
Apart (run ∷ others) =
    (words_are_whole (row_of run.items) ≡ true)
    × AllFrom (run.offset + length run.items) others × Apart others

-- such runs with their fixes are placed run by run
pub runs_placed :
    (start : ℕ) (gain_of : Target → ℕ) (kept : Target → Option Target) (runs : List (Run SetByte))
    → Apart runs
    → runs_fixed start gain_of (flat_map fixes_of_run runs) (map bytes_of_run runs)
    ≡ map (run_placed start gain_of kept) runs
runs_placed start gain_of kept [] apart = refl
runs_placed start gain_of kept (run ∷ others) apart =
    let own : List Fix = fixes_from run.offset run.items in
    let later : List Fix = flat_map fixes_of_run others in
    let end : ℕ = run_end (bytes_of_run run) in
    let long : length (values_of run.items) ≡ length run.items =
    length-map run.items (λ (item : SetByte). item.value) in
    let same : run.offset + length run.items ≡ end = ap (λ n. run.offset + n) (sym long) in
    let below : AllBelow end own = fixes_within run.offset end run.items (omega (arith, same)) in
    let past : AllPast end later = fixes_past_runs end others (subst (λ n. AllFrom n others) same apart.1) in
    ap (λ f.
    run_fixed start gain_of f (bytes_of_run run)
    ∷ runs_fixed start gain_of (fixes_past end (own ++ later)) (map bytes_of_run others))
    (below_first end own later below past)
    ∙ ap (λ f. run_fixed start gain_of own (bytes_of_run run)
    ∷ runs_fixed start gain_of f (map bytes_of_run others))
    (past_others end own later below past)
    ∙ ap (λ (bytes : List ℕ). run_at (start + run.offset) bytes
    ∷ runs_fixed start gain_of later (map bytes_of_run others))
    (bytes_moved gain_of kept run.offset run.items apart.0)
    ∙ ap (λ r. run_placed start gain_of kept run ∷ r) (runs_placed start gain_of kept others apart.2)

-- the runs of places without cut words are such
not_joined :
    (offset : ℕ) (here : SetByte) (runs : List (Run SetByte)) → FirstFrom (offset + 2) runs
    → before_runs offset here runs ≡ run_at offset (here ∷ []) ∷ runs
not_joined offset here [] h = refl
not_joined offset here (next ∷ others) h =
    let k : offset + 2 ≤ next.offset = h in
    ap (λ (b : Bool).
    cond b (run_at offset (here ∷ next.items) ∷ others) (run_at offset (here ∷ []) ∷ next ∷ others))
    (ne_eqb next.offset (offset + 1) (λ e. absurd (omega (arith, k, e))))

joined_apart :
    (offset : ℕ) (here next : SetByte) (items : List SetByte) (others : List (Run SetByte))
    → (not (begins_word (Some here)) || is_plain (Some next)) ≡ true
    → Apart (run_at (offset + 1) (next ∷ items) ∷ others)
    → Apart (before_runs offset here (run_at (offset + 1) (next ∷ items) ∷ others))
joined_apart offset here next items others whole apart =
    subst (λ (b : Bool).
    Apart (cond b (run_at offset (here ∷ next ∷ items) ∷ others)
    (run_at offset (here ∷ []) ∷ run_at (offset + 1) (next ∷ items) ∷ others)))
    (sym (eq-eqb (offset + 1) (offset + 1) refl)) (
      and_from (not (begins_word (Some here)) || is_plain (Some next))
          (words_are_whole (row_of (next ∷ items))) whole
          apart.0,
      all_earlier (offset + suc (suc (length items))) ((offset + 1) + suc (length items)) others
          (omega arith) apart.1,
      apart.2,
    )

next_apart :
    (offset : ℕ) (here next : SetByte) (runs : List (Run SetByte))
    → (not (begins_word (Some here)) || is_plain (Some next)) ≡ true
    → Apart (before_runs (offset + 1) next runs)
    → Apart (before_runs offset here (before_runs (offset + 1) next runs))
next_apart offset here next [] whole apart = joined_apart offset here next [] [] whole apart
next_apart offset here next (third ∷ others) whole apart = go (third.offset == (offset + 1) + 1) apart
  where
    go : (b : Bool)
        → Apart (cond b (run_at (offset + 1) (next ∷ third.items) ∷ others)
        (run_at (offset + 1) (next ∷ []) ∷ third ∷ others))
        → Apart (before_runs offset here (cond b (run_at (offset + 1) (next ∷ third.items) ∷ others)
        (run_at (offset + 1) (next ∷ []) ∷ third ∷ others)))
    go true a = joined_apart offset here next third.items others whole a
    go false a = joined_apart offset here next [] (third ∷ others) whole a

first_later : {A : Type 0} (low high : ℕ) (runs : List (Run A)) → low ≤ high → FirstFrom high runs
    → FirstFrom low runs
first_later low high [] h first = tt
first_later low high (run ∷ others) h first = let k : high ≤ run.offset = first in le_trans h k

pub runs_apart :
    (offset : ℕ) (places : List (Option SetByte)) → words_are_whole places ≡ true
    → Apart (runs_from offset places)
runs_apart offset [] h = tt
runs_apart offset (None ∷ others) h = runs_apart (offset + 1) others h
runs_apart offset (Some here ∷ []) h = (h, tt, tt)
runs_apart offset (Some here ∷ None ∷ others) h =
    let cut = and_parts (not (begins_word (Some here)) || false) (words_are_whole others) h in
    let runs : List (Run SetByte) = runs_from ((offset + 1) + 1) others in
    subst Apart
    (sym (not_joined offset here runs
    (first_later (offset + 2) ((offset + 1) + 1) runs (omega arith) (first_from ((offset + 1) + 1) others)))) (
      and_from (not (begins_word (Some here)) || false) true cut.0 refl,
      all_earlier (offset + 1) ((offset + 1) + 1) runs (omega arith) (all_from ((offset + 1) + 1) others),
      runs_apart ((offset + 1) + 1) others cut.1,
    )
runs_apart offset (Some here ∷ Some next ∷ others) h =
    let cut =
    and_parts (not (begins_word (Some here)) || is_plain (Some next))
    (words_are_whole (Some next ∷ others)) h in
    next_apart offset here next (runs_from ((offset + 1) + 1) others) cut.0
    (runs_apart (offset + 1) (Some next ∷ others) cut.1)
