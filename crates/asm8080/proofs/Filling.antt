-- All bytes of the fixes of items are set.
use Rattle.asm8080.proofs.Prelude.{◌≡◌, ℕ, ◌+◌, ◌≤◌, Bool, true, false, cond, ◌==◌, ◌||◌, nat_le, List, [], ◌∷◌, ◌++◌, length, map, replicate, Option, Some, None, refl, sym, subst, ap, ◌∙◌, arith, list_all, eq-eqb, eqb-true, le-leb, leb-true, length-replicate, Fix, Code, Target, fix_end, is_within, content_of_run, is_in_a_run, Run, before_runs, runs_from, bytes_of, high_byte, low_byte, Item, Plain, WithWord, Byte, Address, Gap, Mark, Layout, word_of, fix_at, fixes_of_items, target_of, with_fix, and_from, and_parts, or_left, or_right}
use Rattle.asm8080.proofs.ItemWords.{form_bytes, opcode}
use Rattle.asm8080.proofs.Fixing.{cells_of_items, some_length}

abbrev run_at : (offset : ℕ) → List ℕ → Run ℕ
run_at offset items = record { offset = offset; items = items }

abbrev InRuns : List (Run ℕ) → List Fix → Type 0
InRuns runs fixes = list_all (is_in_a_run Code runs) fixes ≡ true

-- a fix within a run
inside :
    (offset : ℕ) (items : List ℕ) (fix : Fix)
    → offset ≤ fix.offset
    → fix_end fix ≤ offset + length items
    → is_within (content_of_run Code (run_at offset items)) fix ≡ true
inside offset items fix starts ends =
    and_from (nat_le offset fix.offset) (nat_le (fix_end fix) (offset + length items))
    (le-leb offset fix.offset starts) (le-leb (fix_end fix) (offset + length items) ends)

-- a run with a byte before it
longer :
    (offset value : ℕ) (next : Run ℕ) (fix : Fix)
    → next.offset ≡ offset + 1
    → is_within (content_of_run Code next) fix ≡ true
    → is_within (content_of_run Code (run_at offset (value ∷ next.items))) fix ≡ true
longer offset value next fix here h =
    let parts =
    and_parts (nat_le next.offset fix.offset)
    (nat_le (fix_end fix) (next.offset + length next.items)) h in
    let starts : next.offset ≤ fix.offset = leb-true next.offset fix.offset parts.0 in
    let ends : fix_end fix ≤ next.offset + length next.items
    = leb-true (fix_end fix) (next.offset + length next.items) parts.1 in
    inside offset (value ∷ next.items) fix (omega (arith, starts, here)) (omega (arith, ends, here))

in_more :
    (offset value : ℕ) (runs : List (Run ℕ)) (fix : Fix)
    → is_in_a_run Code runs fix ≡ true
    → is_in_a_run Code (before_runs offset value runs) fix ≡ true
in_more offset value [] fix h = let bad : false ≡ true = h in cc
in_more offset value (next ∷ others) fix h = go (next.offset == offset + 1) refl
  where
    runs_by : Bool → List (Run ℕ)
    runs_by joins =
        cond joins
        (run_at offset (value ∷ next.items) ∷ others)
        (run_at offset (value ∷ []) ∷ next ∷ others)

    by_run :
        (b : Bool)
        → is_within (content_of_run Code next) fix ≡ b
        → next.offset ≡ offset + 1
        → (b || is_in_a_run Code others fix) ≡ true
        → is_in_a_run Code (run_at offset (value ∷ next.items) ∷ others) fix ≡ true
    by_run true e here any =
        or_left (is_within (content_of_run Code (run_at offset (value ∷ next.items))) fix)
        (is_in_a_run Code others fix) (longer offset value next fix here e)
    by_run false e here any =
        or_right (is_within (content_of_run Code (run_at offset (value ∷ next.items))) fix)
        (is_in_a_run Code others fix) any

    go :
        (joins : Bool)
        → (next.offset == offset + 1) ≡ joins
        → is_in_a_run Code (runs_by (next.offset == offset + 1)) fix ≡ true
    go true e =
        ap (λ joins. is_in_a_run Code (runs_by joins) fix) e
        ∙ by_run (is_within (content_of_run Code next) fix) refl (eqb-true next.offset (offset + 1) e) h
    go false e =
        ap (λ joins. is_in_a_run Code (runs_by joins) fix) e
        ∙ or_right (is_within (content_of_run Code (run_at offset (value ∷ []))) fix)
        (is_in_a_run Code (next ∷ others) fix) h

all_more :
    (offset value : ℕ) (runs : List (Run ℕ)) (fixes : List Fix)
    → InRuns runs fixes
    → InRuns (before_runs offset value runs) fixes
all_more offset value runs [] h = refl
all_more offset value runs (fix ∷ others) h =
    let parts = and_parts (is_in_a_run Code runs fix) (list_all (is_in_a_run Code runs) others) h in
    and_from (is_in_a_run Code (before_runs offset value runs) fix)
    (list_all (is_in_a_run Code (before_runs offset value runs)) others)
    (in_more offset value runs fix parts.0) (all_more offset value runs others parts.1)

-- bytes before those that the fixes are among
bytes_more :
    (offset end : ℕ) (bytes rest : List (Option ℕ)) (fixes : List Fix)
    → offset + length bytes ≡ end
    → InRuns (runs_from end rest) fixes
    → InRuns (runs_from offset (bytes ++ rest)) fixes
bytes_more offset end [] rest fixes ends h =
    let same : end ≡ offset = omega (arith, ends) in subst (λ n. InRuns (runs_from n rest) fixes) same h
bytes_more offset end (None ∷ others) rest fixes ends h =
    let next : offset + 1 + length others ≡ end = omega (arith, ends) in
    bytes_more (offset + 1) end others rest fixes next h
bytes_more offset end (Some value ∷ others) rest fixes ends h =
    let next : offset + 1 + length others ≡ end = omega (arith, ends) in
    all_more offset value (runs_from (offset + 1) (others ++ rest)) fixes
    (bytes_more (offset + 1) end others rest fixes next h)

-- a byte that is set begins a run
record Begins (offset value : ℕ) (runs : List (Run ℕ)) : Type 0 where
  items : List ℕ
  others : List (Run ℕ)
  same : before_runs offset value runs ≡ run_at offset (value ∷ items) ∷ others

begins : (offset value : ℕ) (runs : List (Run ℕ)) → Begins offset value runs
begins offset value [] = record { items = []; others = []; same = refl }
begins offset value (next ∷ others) = go (next.offset == offset + 1) refl
  where
    runs_by : Bool → List (Run ℕ)
    runs_by joins =
        cond joins
        (run_at offset (value ∷ next.items) ∷ others)
        (run_at offset (value ∷ []) ∷ next ∷ others)

    go : (joins : Bool) → (next.offset == offset + 1) ≡ joins → Begins offset value (next ∷ others)
    go true e = record { items = next.items; others = others; same = ap runs_by e }
    go false e = record { items = []; others = next ∷ others; same = ap runs_by e }

-- both bytes of a word
word_in :
    (offset low high : ℕ) (target : Target) (rest : List (Option ℕ))
    → is_in_a_run Code (runs_from offset (Some low ∷ Some high ∷ rest)) (fix_at offset target) ≡ true
word_in offset low high target rest =
    let second : Begins (offset + 1) high (runs_from (offset + 1 + 1) rest)
    = begins (offset + 1) high (runs_from (offset + 1 + 1) rest) in
    let run : Run ℕ = run_at offset (low ∷ high ∷ second.items) in
    let joined : Bool → List (Run ℕ)
    = λ joins.
    cond joins (run ∷ second.others)
    (run_at offset (low ∷ []) ∷ run_at (offset + 1) (high ∷ second.items) ∷ second.others) in
    ap (λ runs. is_in_a_run Code (before_runs offset low runs) (fix_at offset target)) second.same
    ∙ ap (λ joins. is_in_a_run Code (joined joins) (fix_at offset target))
    (eq-eqb (offset + 1) (offset + 1) refl)
    ∙ or_left (is_within (content_of_run Code run) (fix_at offset target))
    (is_in_a_run Code second.others (fix_at offset target))
    (inside offset (low ∷ high ∷ second.items) (fix_at offset target) (omega arith) (omega arith))

word_more :
    (offset low high : ℕ) (target : Option Target) (rest : List (Option ℕ)) (fixes : List Fix)
    → InRuns (runs_from (offset + 2) rest) fixes
    → InRuns (runs_from offset (Some low ∷ Some high ∷ rest)) (with_fix offset target fixes)
word_more offset low high target rest fixes h = by_target target
  where
    two : offset + 2 ≡ offset + 2
    two = refl

    later : InRuns (runs_from offset (Some low ∷ Some high ∷ rest)) fixes
    later = bytes_more offset (offset + 2) (Some low ∷ Some high ∷ []) rest fixes two h

    by_target :
        (from : Option Target) → InRuns (runs_from offset (Some low ∷ Some high ∷ rest))
        (with_fix offset from fixes)
    by_target None = later
    by_target (Some from) =
        and_from (is_in_a_run Code (runs_from offset (Some low ∷ Some high ∷ rest)) (fix_at offset from))
        (list_all (is_in_a_run Code (runs_from offset (Some low ∷ Some high ∷ rest))) fixes)
        (word_in offset low high from rest) later

pub items_filled :
    (layout : Layout) (offset : ℕ) (items : List Item)
    → InRuns (runs_from offset (cells_of_items layout items)) (fixes_of_items offset items)
items_filled layout offset [] = refl
items_filled layout offset (Plain instruction ∷ others) =
    let end : ℕ = offset + length (bytes_of instruction) in
    bytes_more offset end (map Some (bytes_of instruction)) (cells_of_items layout others)
    (fixes_of_items end others)
    (ap (λ n. offset + n) (some_length (bytes_of instruction)))
    (items_filled layout end others)
items_filled layout offset (WithWord form reference ∷ others) =
    let word : ℕ = word_of layout reference in
    let rest : List (Option ℕ) = cells_of_items layout others in
    let target : Option Target = target_of reference in
    let fixes : List Fix = fixes_of_items (offset + 3) others in
    let next : offset + 1 + 2 ≡ offset + 3 = omega arith in
    let later : InRuns (runs_from (offset + 1 + 2) rest) fixes
    = subst (λ n. InRuns (runs_from n rest) fixes) (sym next) (items_filled layout (offset + 3) others) in
    ap (λ (bytes : List ℕ).
    list_all (is_in_a_run Code (runs_from offset (map Some bytes ++ rest)))
    (with_fix (offset + 1) target fixes))
    (form_bytes form word)
    ∙ all_more offset (opcode form)
    (runs_from (offset + 1) (Some (low_byte word) ∷ Some (high_byte word) ∷ rest))
    (with_fix (offset + 1) target fixes)
    (word_more (offset + 1) (low_byte word) (high_byte word) target rest fixes later)
items_filled layout offset (Byte value ∷ others) =
    let next : offset + 1 ≡ offset + 1 = refl in
    bytes_more offset (offset + 1) (Some value ∷ []) (cells_of_items layout others)
    (fixes_of_items (offset + 1) others)
    next (items_filled layout (offset + 1) others)
items_filled layout offset (Address reference ∷ others) =
    let word : ℕ = word_of layout reference in
    word_more offset (low_byte word) (high_byte word) (target_of reference) (cells_of_items layout others)
    (fixes_of_items (offset + 2) others) (items_filled layout (offset + 2) others)
items_filled layout offset (Gap count ∷ others) =
    bytes_more offset (offset + count) (replicate count None) (cells_of_items layout others)
    (fixes_of_items (offset + count) others)
    (ap (λ n. offset + n) (length-replicate count None))
    (items_filled layout (offset + count) others)
items_filled layout offset (Mark label ∷ others) =
    let same : offset + 0 ≡ offset = omega arith in
    ap (λ n. list_all (is_in_a_run Code (runs_from offset (cells_of_items layout others)))
    (fixes_of_items n others)) same
    ∙ items_filled layout offset others
