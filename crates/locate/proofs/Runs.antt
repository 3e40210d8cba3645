-- The runs of a segment as pieces are the runs of its places, moved.
use Rattle.locate.proofs.Prelude.{◌≡◌, ℕ, ◌+◌, ◌≤◌, ◌==◌, Bool, true, false, cond, List, [], ◌∷◌, ◌++◌, length, map, flat_map, Option, Some, None, option_map, refl, ap, sym, ◌∙◌, arith, eqb-true, eq-eqb, ne_eqb, Fix, Target, SetByte, value_moved, moved_after, Run, before_runs, runs_from, fixes_from, bytes_of_run, fixes_of_run, piece_of, pieces_from, piece_at, none_either_way}
use Rattle.locate.proofs.Values.{value_of, moved_items, Heads, Heads-less, heads_items, values_are, fixes_are}

-- each run begins where the one before it ends, or later
abbrev pub Ordered : {A : Type 0} → ℕ → List (Run A) → Type 0
Ordered n [] = Unit {0}
Ordered n (run ∷ others) = (n ≤ run.offset) × Ordered (run.offset + length run.items) others

Ordered-less : {A : Type 0} (m n : ℕ) (runs : List (Run A)) → m ≤ n → Ordered n runs → Ordered m runs
Ordered-less m n [] h o = tt
Ordered-less m n (run ∷ others) h o = (let k : n ≤ run.offset = o.0 in omega arith, o.1)

ordered_before :
    {A : Type 0} (n : ℕ) (item : A) (runs : List (Run A)) → Ordered (n + 1) runs
    → Ordered n (before_runs n item runs)
ordered_before n item [] o = (omega arith, tt)
ordered_before {A} n item (next ∷ others) o = go (next.offset == n + 1) refl
  where
    go : (b : Bool) → (next.offset == n + 1) ≡ b
        → Ordered n (cond b (record { offset = n; items = item ∷ next.items } ∷ others)
        (record { offset = n; items = item ∷ [] } ∷ next ∷ others))
    go true e =
        let same : next.offset ≡ n + 1 = eqb-true next.offset (n + 1) e in
        (omega arith, Ordered-less (n + length (item ∷ next.items)) (next.offset + length next.items) others (omega arith) o.1)
    go false e = let k : n + 1 ≤ next.offset = o.0 in (omega arith, (omega arith, o.1))

pub ordered : {A : Type 0} (n : ℕ) (places : List (Option A)) → Ordered n (runs_from n places)
ordered n [] = tt
ordered n (None ∷ others) =
    Ordered-less n (n + 1) (runs_from (n + 1) others) (omega arith) (ordered (n + 1) others)
ordered n (Some item ∷ others) = ordered_before n item (runs_from (n + 1) others) (ordered (n + 1) others)

heads_runs : (n : ℕ) (runs : List (Run SetByte)) → Ordered n runs → Heads n (flat_map fixes_of_run runs)
heads_runs n [] o = tt
heads_runs n (run ∷ others) o =
    Heads-less n run.offset (fixes_from run.offset run.items ++ flat_map fixes_of_run others) o.0
    (heads_items run.offset run.items (flat_map fixes_of_run others)
    (heads_runs (run.offset + length run.items) others o.1))

-- a run, moved
abbrev pub moved_run : (gain_of : Target → ℕ) → Run SetByte → Run ℕ
moved_run gain_of run = record { offset = run.offset; items = moved_items gain_of None run.items }

-- the pieces are the runs, moved
pieces_are :
    (gain_of : Target → ℕ) (base n : ℕ) (runs : List (Run SetByte)) → Ordered n runs
    → pieces_from gain_of base (map bytes_of_run runs) (flat_map fixes_of_run runs)
    ≡ map (piece_at base) (map (moved_run gain_of) runs)
pieces_are gain_of base n [] o = refl
pieces_are gain_of base n (run ∷ others) o =
    let rest : List Fix = flat_map fixes_of_run others in
    let heads : Heads (run.offset + length run.items) rest =
    heads_runs (run.offset + length run.items) others o.1 in
    ap (λ fixes.
    piece_of gain_of base (bytes_of_run run) (fixes_from run.offset run.items ++ rest)
    ∷ pieces_from gain_of base (map bytes_of_run others) fixes)
    (fixes_are gain_of None run.offset run.items rest heads)
    ∙ ap (λ (bytes : List ℕ).
    record { start = base + run.offset; bytes = bytes }
    ∷ pieces_from gain_of base (map bytes_of_run others) rest)
    (values_are gain_of None run.offset run.items rest heads)
    ∙ ap (λ pieces. piece_at base (moved_run gain_of run) ∷ pieces)
    (pieces_are gain_of base (run.offset + length run.items) others o.1)

-- runs, moved, where the place before the first may be one of a word that is fixed
abbrev runs_moved_after : (gain_of : Target → ℕ) → (before : Option SetByte) → (n : ℕ)
    → List (Run SetByte) → List (Run ℕ)
runs_moved_after gain_of before n [] = []
runs_moved_after gain_of before n (run ∷ others) =
    record { offset = run.offset; items = moved_items gain_of (cond (run.offset == n) before None) run.items }
    ∷ map (moved_run gain_of) others

after_nothing :
    (gain_of : Target → ℕ) (n : ℕ) (runs : List (Run SetByte))
    → runs_moved_after gain_of None n runs ≡ map (moved_run gain_of) runs
after_nothing gain_of n [] = refl
after_nothing gain_of n (run ∷ others) =
    ap (λ before. record { offset = run.offset; items = moved_items gain_of before run.items }
    ∷ map (moved_run gain_of) others)
    (none_either_way (run.offset == n))

after_a_gap :
    (gain_of : Target → ℕ) (before : Option SetByte) (n : ℕ) (runs : List (Run SetByte))
    → Ordered (n + 1) runs
    → map (moved_run gain_of) runs ≡ runs_moved_after gain_of before n runs
after_a_gap gain_of before n [] o = refl
after_a_gap gain_of before n (run ∷ others) o =
    let k : n + 1 ≤ run.offset = o.0 in
    let differ : (run.offset ≡ n → ⊥) = λ (e : run.offset ≡ n). omega (arith, e) in
    sym (ap (λ b. record { offset = run.offset; items = moved_items gain_of (cond b before None) run.items }
    ∷ map (moved_run gain_of) others) (ne_eqb run.offset n differ))

before_moved :
    (gain_of : Target → ℕ) (before : Option SetByte) (n : ℕ) (here : SetByte) (runs : List (Run SetByte))
    → before_runs n (value_moved gain_of before here) (runs_moved_after gain_of (Some here) (n + 1) runs)
    ≡ runs_moved_after gain_of before n (before_runs n here runs)
before_moved gain_of before n here [] =
    sym (ap (λ b. record { offset = n; items = moved_items gain_of (cond b before None) (here ∷ []) } ∷ [])
    (eq-eqb n n refl))
before_moved gain_of before n here (next ∷ others) = go (next.offset == n + 1)
  where
    go : (b : Bool)
        → cond b
        (record { offset = n; items = value_moved gain_of before here ∷ moved_items gain_of (cond b (Some here) None) next.items }
        ∷ map (moved_run gain_of) others)
        (record { offset = n; items = value_moved gain_of before here ∷ [] }
        ∷ record { offset = next.offset; items = moved_items gain_of (cond b (Some here) None) next.items }
        ∷ map (moved_run gain_of) others)
        ≡ runs_moved_after gain_of before n
        (cond b (record { offset = n; items = here ∷ next.items } ∷ others)
        (record { offset = n; items = here ∷ [] } ∷ next ∷ others))
    go true =
        sym (ap (λ b. record { offset = n; items = moved_items gain_of (cond b before None) (here ∷ next.items) }
        ∷ map (moved_run gain_of) others) (eq-eqb n n refl))
    go false =
        sym (ap (λ b. record { offset = n; items = moved_items gain_of (cond b before None) (here ∷ []) }
        ∷ map (moved_run gain_of) (next ∷ others)) (eq-eqb n n refl))

runs_of_moved :
    (gain_of : Target → ℕ) (kept : Target → Option Target) (before : Option SetByte) (n : ℕ)
    (places : List (Option SetByte))
    → runs_from n (map (option_map value_of) (moved_after gain_of kept before places))
    ≡ runs_moved_after gain_of before n (runs_from n places)
runs_of_moved gain_of kept before n [] = refl
runs_of_moved gain_of kept before n (None ∷ others) =
    runs_of_moved gain_of kept None (n + 1) others
    ∙ after_nothing gain_of (n + 1) (runs_from (n + 1) others)
    ∙ after_a_gap gain_of before n (runs_from (n + 1) others) (ordered (n + 1) others)
runs_of_moved gain_of kept before n (Some here ∷ others) =
    ap (before_runs n (value_moved gain_of before here))
    (runs_of_moved gain_of kept (Some here) (n + 1) others)
    ∙ before_moved gain_of before n here (runs_from (n + 1) others)

-- the pieces of a segment are the runs of its places, moved
pub segment_pieces_are :
    (gain_of : Target → ℕ) (kept : Target → Option Target) (base : ℕ) (places : List (Option SetByte))
    → pieces_from gain_of base (map bytes_of_run (runs_from 0 places))
    (flat_map fixes_of_run (runs_from 0 places))
    ≡ map (piece_at base) (runs_from 0 (map (option_map value_of) (moved_after gain_of kept None places)))
segment_pieces_are gain_of kept base places =
    pieces_are gain_of base 0 (runs_from 0 places) (ordered 0 places)
    ∙ ap (map (piece_at base))
    (sym (runs_of_moved gain_of kept None 0 places ∙ after_nothing gain_of 0 (runs_from 0 places)))
