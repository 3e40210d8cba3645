-- The runs of places that are joined: those of each part, pushed one after another.
use Rattle.object_laws.proofs.Prelude.{◌≡◌, ℕ, zero, suc, ◌+◌, Bool, true, false, cond, ◌==◌, List, [], ◌∷◌, ◌++◌, length, map, replicate, Option, Some, None, refl, ap, sym, ◌∙◌, arith, eqb-true, eq-eqb, map-append, length-map, SetByte, Run, before_runs, runs_from, bytes_of_run, run_at, with_run, with_runs, run_displaced}

-- an item before runs and another run after them
one_before :
    {A : Type 0} (offset : ℕ) (item : A) (last run : Run A) (joins next : Bool)
    → (run.offset == last.offset + length last.items) ≡ joins → (last.offset == offset + 1) ≡ next
    → before_runs offset item (with_run (last ∷ []) run) ≡ with_run (before_runs offset item (last ∷ [])) run
one_before {A} offset item last run joins true e f =
    let at : last.offset ≡ offset + 1 = eqb-true last.offset (offset + 1) f in
    let same : last.offset + length last.items ≡ offset + suc (length last.items) = omega arith in
    ap (λ (b : Bool). before_runs offset item
    (cond b (run_at last.offset (last.items ++ run.items) ∷ []) (last ∷ run ∷ []))) e
    ∙ by_joins joins (sym (ap (λ n. run.offset == n) same) ∙ e)
    ∙ ap (λ (b : Bool). with_run (cond b (run_at offset (item ∷ last.items) ∷ [])
    (run_at offset (item ∷ []) ∷ last ∷ [])) run) (sym f)
  where
    by_joins : (j : Bool) → (run.offset == offset + suc (length last.items)) ≡ j
        → before_runs offset item
        (cond j (run_at last.offset (last.items ++ run.items) ∷ []) (last ∷ run ∷ []))
        ≡ with_run (run_at offset (item ∷ last.items) ∷ []) run
    by_joins true is =
        ap (λ (b : Bool). cond b (run_at offset (item ∷ (last.items ++ run.items)) ∷ [])
        (run_at offset (item ∷ []) ∷ run_at last.offset (last.items ++ run.items) ∷ [])) f
        ∙ sym (ap (λ (b : Bool). cond b (run_at offset (item ∷ (last.items ++ run.items)) ∷ [])
        (run_at offset (item ∷ last.items) ∷ run ∷ [])) is)
    by_joins false is =
        ap (λ (b : Bool). cond b (run_at offset (item ∷ last.items) ∷ run ∷ [])
        (run_at offset (item ∷ []) ∷ last ∷ run ∷ [])) f
        ∙ sym (ap (λ (b : Bool). cond b (run_at offset (item ∷ (last.items ++ run.items)) ∷ [])
        (run_at offset (item ∷ last.items) ∷ run ∷ [])) is)
one_before {A} offset item last run joins false e f =
    by_joins joins e
    ∙ ap (λ (b : Bool). with_run (cond b (run_at offset (item ∷ last.items) ∷ [])
    (run_at offset (item ∷ []) ∷ last ∷ [])) run) (sym f)
  where
    by_joins : (j : Bool) → (run.offset == last.offset + length last.items) ≡ j
        → before_runs offset item (with_run (last ∷ []) run)
        ≡ run_at offset (item ∷ []) ∷ with_run (last ∷ []) run
    by_joins true is =
        ap (λ (b : Bool). before_runs offset item
        (cond b (run_at last.offset (last.items ++ run.items) ∷ []) (last ∷ run ∷ []))) is
        ∙ ap (λ (b : Bool). cond b (run_at offset (item ∷ (last.items ++ run.items)) ∷ [])
        (run_at offset (item ∷ []) ∷ run_at last.offset (last.items ++ run.items) ∷ [])) f
        ∙ sym (ap (λ (b : Bool). run_at offset (item ∷ [])
        ∷ cond b (run_at last.offset (last.items ++ run.items) ∷ []) (last ∷ run ∷ [])) is)
    by_joins false is =
        ap (λ (b : Bool). before_runs offset item
        (cond b (run_at last.offset (last.items ++ run.items) ∷ []) (last ∷ run ∷ []))) is
        ∙ ap (λ (b : Bool). cond b (run_at offset (item ∷ last.items) ∷ run ∷ [])
        (run_at offset (item ∷ []) ∷ last ∷ run ∷ [])) f
        ∙ sym (ap (λ (b : Bool). run_at offset (item ∷ [])
        ∷ cond b (run_at last.offset (last.items ++ run.items) ∷ []) (last ∷ run ∷ [])) is)

before_with_run :
    {A : Type 0} (offset : ℕ) (item : A) (runs : List (Run A)) (run : Run A)
    → before_runs offset item (with_run runs run) ≡ with_run (before_runs offset item runs) run
before_with_run offset item [] run = refl
before_with_run offset item (last ∷ []) run =
    one_before offset item last run (run.offset == last.offset + length last.items)
    (last.offset == offset + 1) refl refl
before_with_run {A} offset item (first ∷ next ∷ others) run = go (first.offset == offset + 1)
  where
    go : (b : Bool)
        → cond b (run_at offset (item ∷ first.items) ∷ with_run (next ∷ others) run)
        (run_at offset (item ∷ []) ∷ first ∷ with_run (next ∷ others) run)
        ≡ with_run (cond b (run_at offset (item ∷ first.items) ∷ next ∷ others)
        (run_at offset (item ∷ []) ∷ first ∷ next ∷ others)) run
    go true = refl
    go false = refl

before_with_runs :
    {A : Type 0} (offset : ℕ) (item : A) (runs more : List (Run A))
    → before_runs offset item (with_runs runs more) ≡ with_runs (before_runs offset item runs) more
before_with_runs offset item runs [] = refl
before_with_runs offset item runs (run ∷ others) =
    before_with_runs offset item (with_run runs run) others
    ∙ ap (λ r. with_runs r others) (before_with_run offset item runs run)

-- an item before runs, as a run of its own that they are pushed after
first_pushed :
    {A : Type 0} (offset : ℕ) (item : A) (runs : List (Run A))
    → with_runs [] (before_runs offset item runs) ≡ with_runs (run_at offset (item ∷ []) ∷ []) runs
first_pushed offset item [] = refl
first_pushed {A} offset item (next ∷ others) = go (next.offset == offset + 1) refl
  where
    go : (b : Bool) → (next.offset == offset + 1) ≡ b
        → with_runs [] (cond b (run_at offset (item ∷ next.items) ∷ others)
        (run_at offset (item ∷ []) ∷ next ∷ others))
        ≡ with_runs (with_run (run_at offset (item ∷ []) ∷ []) next) others
    go true e =
        sym (ap (λ (b : Bool).
        with_runs (cond b (run_at offset (item ∷ next.items) ∷ []) (run_at offset (item ∷ []) ∷ next ∷ []))
        others) e)
    go false e = refl

-- the runs of places, pushed after none
all_pushed : {A : Type 0} (offset : ℕ) (places : List (Option A))
    → with_runs [] (runs_from offset places) ≡ runs_from offset places
all_pushed offset [] = refl
all_pushed offset (None ∷ others) = all_pushed (offset + 1) others
all_pushed offset (Some item ∷ others) =
    first_pushed offset item (runs_from (offset + 1) others)
    ∙ sym (before_with_runs offset item [] (runs_from (offset + 1) others))
    ∙ ap (before_runs offset item) (all_pushed (offset + 1) others)

pub runs_append :
    {A : Type 0} (offset : ℕ) (xs ys : List (Option A))
    → runs_from offset (xs ++ ys) ≡ with_runs (runs_from offset xs) (runs_from (offset + length xs) ys)
runs_append offset [] ys =
    let same : offset + 0 ≡ offset = omega arith in
    sym (all_pushed offset ys) ∙ ap (λ n. with_runs [] (runs_from n ys)) (sym same)
runs_append offset (None ∷ xs) ys =
    let same : (offset + 1) + length xs ≡ offset + suc (length xs) = omega arith in
    runs_append (offset + 1) xs ys ∙ ap (λ n. with_runs (runs_from (offset + 1) xs) (runs_from n ys)) same
runs_append offset (Some item ∷ xs) ys =
    let same : (offset + 1) + length xs ≡ offset + suc (length xs) = omega arith in
    ap (before_runs offset item) (runs_append (offset + 1) xs ys)
    ∙ before_with_runs offset item (runs_from (offset + 1) xs) (runs_from ((offset + 1) + length xs) ys)
    ∙ ap (λ n. with_runs (before_runs offset item (runs_from (offset + 1) xs)) (runs_from n ys)) same

-- places where nothing is set have no runs
pub runs_after_gap :
    {A : Type 0} (offset count : ℕ) (places : List (Option A))
    → runs_from offset (replicate count None ++ places) ≡ runs_from (offset + count) places
runs_after_gap offset zero places =
    let same : offset ≡ offset + 0 = omega arith in ap (λ n. runs_from n places) same
runs_after_gap offset (suc count) places =
    let same : (offset + 1) + count ≡ offset + suc count = omega arith in
    runs_after_gap (offset + 1) count places ∙ ap (λ n. runs_from n places) same

-- two tests that hold together
pub same_test : (a b c d : ℕ) → (a ≡ b → c ≡ d) → (c ≡ d → a ≡ b) → (a == b) ≡ (c == d)
same_test a b c d there back = go (a == b) refl (c == d) refl
  where
    go : (x : Bool) → (a == b) ≡ x → (y : Bool) → (c == d) ≡ y → x ≡ y
    go true e true f = refl
    go true e false f = sym (eq-eqb c d (there (eqb-true a b e))) ∙ f
    go false e true f = sym e ∙ eq-eqb a b (back (eqb-true c d f))
    go false e false f = refl

-- the same places later
before_displaced :
    {A : Type 0} (by offset : ℕ) (item : A) (runs : List (Run A))
    → map (run_displaced by) (before_runs offset item runs)
    ≡ before_runs (by + offset) item (map (run_displaced by) runs)
before_displaced by offset item [] = refl
before_displaced {A} by offset item (next ∷ others) =
    go (next.offset == offset + 1) (by + next.offset == (by + offset) + 1)
    (same_test next.offset (offset + 1) (by + next.offset) ((by + offset) + 1)
    (λ h. omega arith) (λ h. omega arith))
  where
    go : (a b : Bool) → a ≡ b
        → map (run_displaced by) (cond a (run_at offset (item ∷ next.items) ∷ others)
        (run_at offset (item ∷ []) ∷ next ∷ others))
        ≡ cond b (run_at (by + offset) (item ∷ next.items) ∷ map (run_displaced by) others)
        (run_at (by + offset) (item ∷ []) ∷ run_displaced by next ∷ map (run_displaced by) others)
    go true true h = refl
    go true false h = absurd (let bad : true ≡ false = h in cc)
    go false true h = absurd (let bad : false ≡ true = h in cc)
    go false false h = refl

pub runs_displaced :
    {A : Type 0} (by offset : ℕ) (places : List (Option A))
    → runs_from (by + offset) places ≡ map (run_displaced by) (runs_from offset places)
runs_displaced by offset [] = refl
runs_displaced by offset (None ∷ others) =
    let same : (by + offset) + 1 ≡ by + (offset + 1) = omega arith in
    ap (λ n. runs_from n others) same ∙ runs_displaced by (offset + 1) others
runs_displaced by offset (Some item ∷ others) =
    let same : (by + offset) + 1 ≡ by + (offset + 1) = omega arith in
    ap (λ n. before_runs (by + offset) item (runs_from n others)) same
    ∙ ap (before_runs (by + offset) item) (runs_displaced by (offset + 1) others)
    ∙ sym (before_displaced by offset item (runs_from (offset + 1) others))

-- the bytes of runs that are pushed
values_joined :
    (last run : Run SetByte)
    → bytes_of_run (run_at last.offset (last.items ++ run.items))
    ≡ (run_at last.offset ((bytes_of_run last).items ++ (bytes_of_run run).items))
values_joined last run =
    ap (λ items. (run_at last.offset items))
    (map-append (λ (here : SetByte). here.value) last.items run.items)

pub bytes_with_run :
    (runs : List (Run SetByte)) (run : Run SetByte)
    → map bytes_of_run (with_run runs run) ≡ with_run (map bytes_of_run runs) (bytes_of_run run)
bytes_with_run [] run = refl
bytes_with_run (last ∷ []) run =
    go (run.offset == last.offset + length last.items)
    ∙ ap (λ n.
    cond (run.offset == last.offset + n)
    (run_at last.offset ((bytes_of_run last).items ++ (bytes_of_run run).items) ∷ [])
    (bytes_of_run last ∷ bytes_of_run run ∷ []))
    (sym (length-map last.items (λ (here : SetByte). here.value)))
  where
    go : (b : Bool)
        → map bytes_of_run (cond b (run_at last.offset (last.items ++ run.items) ∷ []) (last ∷ run ∷ []))
        ≡ cond b (run_at last.offset ((bytes_of_run last).items ++ (bytes_of_run run).items) ∷ [])
        (bytes_of_run last ∷ bytes_of_run run ∷ [])
    go true = ap (λ (r : Run ℕ). r ∷ []) (values_joined last run)
    go false = refl
bytes_with_run (first ∷ next ∷ others) run =
    ap (λ r. bytes_of_run first ∷ r) (bytes_with_run (next ∷ others) run)

pub bytes_with_runs :
    (runs more : List (Run SetByte))
    → map bytes_of_run (with_runs runs more) ≡ with_runs (map bytes_of_run runs) (map bytes_of_run more)
bytes_with_runs runs [] = refl
bytes_with_runs runs (run ∷ others) =
    bytes_with_runs (with_run runs run) others
    ∙ ap (λ r. with_runs r (map bytes_of_run others)) (bytes_with_run runs run)
