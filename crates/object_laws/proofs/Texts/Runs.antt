-- The longest runs of places: they stand in order, tell each place again, and cut no word.
use Rattle.object_laws.proofs.Prelude.{◌≡◌, ℕ, zero, suc, ◌+◌, ◌-◌, ◌<◌, ◌≤◌, Bool, true, false, cond, not, ◌&&◌, ◌||◌, ◌==◌, nat_lt, nat_le, List, [], ◌∷◌, length, map, slice_get, Option, Some, None, refl, ap, sym, subst, ◌∙◌, ⊎_elim, arith, AllByRecursion, option_flatten, and_parts, and_from, and_left, and_right, cond-true, cond-false, le-leb, lt-leb, lt-ltb, le-ltb, eqb-true, eq-eqb, cases_lt, SetByte, begins_word, is_plain, words_are_whole, Run, before_runs, runs_from}

-- runs one after another within limits, each with an item
abbrev pub InOrder : {A : Type 0} → (from to : ℕ) → List (Run A) → Type 0
InOrder from to [] = from ≤ to
InOrder from to (run ∷ others) =
    (from ≤ run.offset) × (0 < length run.items) × InOrder (run.offset + length run.items) to others

-- the item of runs at a place, if they have one there
abbrev pub item_at : {A : Type 0} → (place : ℕ) → List (Run A) → Option A
item_at place [] = None
item_at place (run ∷ others) =
    cond (nat_le run.offset place && nat_lt place (run.offset + length run.items))
    (slice_get run.items (place - run.offset)) (item_at place others)

pub item_inside :
    {A : Type 0} (place : ℕ) (run : Run A) (others : List (Run A)) → run.offset ≤ place
    → place < run.offset + length run.items
    → item_at place (run ∷ others) ≡ slice_get run.items (place - run.offset)
item_inside place run others h k =
    cond-true _ (slice_get run.items (place - run.offset)) (item_at place others)
    (and_from _ _ (le-leb run.offset place h) (lt-ltb place (run.offset + length run.items) k))

pub item_past :
    {A : Type 0} (place : ℕ) (run : Run A) (others : List (Run A)) → run.offset + length run.items ≤ place
    → item_at place (run ∷ others) ≡ item_at place others
item_past place run others h =
    cond-false _ (slice_get run.items (place - run.offset)) (item_at place others)
    (and_right (nat_le run.offset place) (nat_lt place (run.offset + length run.items))
    (le-ltb place (run.offset + length run.items) h))

pub item_before :
    {A : Type 0} (place : ℕ) (run : Run A) (others : List (Run A)) → place < run.offset
    → item_at place (run ∷ others) ≡ item_at place others
item_before place run others h =
    cond-false _ (slice_get run.items (place - run.offset)) (item_at place others)
    (and_left (nat_le run.offset place) (nat_lt place (run.offset + length run.items))
    (lt-leb run.offset place h))

pub order_earlier :
    {A : Type 0} (earlier from to : ℕ) (runs : List (Run A)) → earlier ≤ from → InOrder from to runs
    → InOrder earlier to runs
order_earlier earlier from to [] h o = let p : from ≤ to = o in omega (arith, h, p)
order_earlier earlier from to (run ∷ others) h o =
    let p : from ≤ run.offset = o.0 in (omega (arith, h, p), o.1, o.2)

pub order_ends : {A : Type 0} (from to : ℕ) (runs : List (Run A)) → InOrder from to runs → from ≤ to
order_ends from to [] o = o
order_ends from to (run ∷ others) o =
    let p : from ≤ run.offset = o.0 in
    let q : run.offset + length run.items ≤ to = order_ends (run.offset + length run.items) to others o.2 in
    omega (arith, p, q)

pub item_none :
    {A : Type 0} (from to place : ℕ) (runs : List (Run A)) → InOrder from to runs → place < from
    → item_at place runs ≡ None
item_none from to place [] o h = refl
item_none from to place (run ∷ others) o h =
    let p : from ≤ run.offset = o.0 in
    item_before place run others (omega (arith, h, p))
    ∙ item_none (run.offset + length run.items) to place others o.2 (omega (arith, h, p))

-- an item in front of runs
before_in_order :
    {A : Type 0} (offset to : ℕ) (item : A) (runs : List (Run A)) → InOrder (offset + 1) to runs
    → InOrder offset to (before_runs offset item runs)
before_in_order offset to item [] o =
    let p : offset + 1 ≤ to = o in (omega arith, omega arith, omega (arith, p))
before_in_order {A} offset to item (next ∷ others) o = go (next.offset == offset + 1) refl
  where
    merged : List (Run A)
    merged = record { offset = offset; items = item ∷ next.items } ∷ others

    apart : List (Run A)
    apart = record { offset = offset; items = item ∷ [] } ∷ next ∷ others

    go : (b : Bool) → (next.offset == offset + 1) ≡ b → InOrder offset to (cond b merged apart)
    go true e =
        let next_is : next.offset ≡ offset + 1 = eqb-true next.offset (offset + 1) e in
        let same : next.offset + length next.items ≡ offset + length (item ∷ next.items) =
        omega (arith, next_is) in
        (omega arith, omega arith, subst (λ from. InOrder from to others) same o.2)
    go false e =
        let p : offset + 1 ≤ next.offset = o.0 in
        (omega arith, omega arith, (let q : offset + length (item ∷ []) ≤ next.offset = omega (arith, p) in q, o.1, o.2))

pub runs_in_order :
    {A : Type 0} (offset : ℕ) (places : List (Option A))
    → InOrder offset (offset + length places) (runs_from offset places)
runs_in_order offset [] = omega arith
runs_in_order {A} offset (None ∷ others) =
    let e : offset + 1 + length others ≡ offset + length {A = Option A} (None ∷ others) = omega arith in
    order_earlier offset (offset + 1) (offset + length {A = Option A} (None ∷ others))
    (runs_from (offset + 1) others)
    (omega arith)
    (subst (λ to. InOrder (offset + 1) to (runs_from (offset + 1) others)) e
    (runs_in_order (offset + 1) others))
runs_in_order offset (Some item ∷ others) =
    let e : offset + 1 + length others ≡ offset + length (Some item ∷ others) = omega arith in
    before_in_order offset (offset + length (Some item ∷ others)) item (runs_from (offset + 1) others)
    (subst (λ to. InOrder (offset + 1) to (runs_from (offset + 1) others)) e
    (runs_in_order (offset + 1) others))

-- what runs have at a place, with an item in front
item_first :
    {A : Type 0} (offset : ℕ) (item : A) (runs : List (Run A))
    → item_at offset (before_runs offset item runs) ≡ Some item
item_first {A} offset item [] =
    item_inside offset (record { offset = offset; items = item ∷ [] }) [] (omega arith) (omega arith)
    ∙ ap (slice_get (item ∷ [])) (let z : offset - offset ≡ 0 = omega arith in z)
item_first {A} offset item (next ∷ others) = go (next.offset == offset + 1)
  where
    merged : List (Run A)
    merged = record { offset = offset; items = item ∷ next.items } ∷ others

    apart : List (Run A)
    apart = record { offset = offset; items = item ∷ [] } ∷ next ∷ others

    go : (b : Bool) → item_at offset (cond b merged apart) ≡ Some item
    go true =
        item_inside offset (record { offset = offset; items = item ∷ next.items }) others
        (omega arith) (omega arith)
        ∙ ap (slice_get (item ∷ next.items)) (let z : offset - offset ≡ 0 = omega arith in z)
    go false =
        item_inside offset (record { offset = offset; items = item ∷ [] }) (next ∷ others)
        (omega arith) (omega arith)
        ∙ ap (slice_get (item ∷ [])) (let z : offset - offset ≡ 0 = omega arith in z)

item_later :
    {A : Type 0} (offset place : ℕ) (item : A) (runs : List (Run A)) → offset < place
    → item_at place (before_runs offset item runs) ≡ item_at place runs
item_later offset place item [] h =
    item_past place (record { offset = offset; items = item ∷ [] }) [] (omega (arith, h))
item_later {A} offset place item (next ∷ others) h = go (next.offset == offset + 1) refl
  where
    merged : Run A
    merged = record { offset = offset; items = item ∷ next.items }

    single : Run A
    single = record { offset = offset; items = item ∷ [] }

    go : (b : Bool) → (next.offset == offset + 1) ≡ b
        → item_at place (cond b (merged ∷ others) (single ∷ next ∷ others)) ≡ item_at place (next ∷ others)
    go true e =
        let next_is : next.offset ≡ offset + 1 = eqb-true next.offset (offset + 1) e in
        ⊎_elim
        (λ (inside : place < next.offset + length next.items).
        let within : place < offset + length (item ∷ next.items) = omega (arith, inside, next_is) in
        let one_less : place - offset ≡ suc (place - next.offset) = omega (arith, h, next_is) in
        item_inside place merged others (omega (arith, h)) within
        ∙ ap (slice_get (item ∷ next.items)) one_less
        ∙ sym (item_inside place next others (omega (arith, h, next_is)) inside))
        (λ (past : next.offset + length next.items ≤ place).
        let beyond : offset + length (item ∷ next.items) ≤ place = omega (arith, past, next_is) in
        item_past place merged others beyond ∙ sym (item_past place next others past))
        (cases_lt place (next.offset + length next.items))
    go false e =
        item_past place single (next ∷ others)
        (let q : offset + length (item ∷ []) ≤ place = omega (arith, h) in q)

-- the runs of places tell each place
pub runs_tell :
    {A : Type 0} (offset : ℕ) (places : List (Option A)) (number : ℕ)
    → item_at (offset + number) (runs_from offset places) ≡ option_flatten (slice_get places number)
runs_tell offset [] number = refl
runs_tell offset (None ∷ others) zero =
    item_none (offset + 1) (offset + 1 + length others) (offset + 0) (runs_from (offset + 1) others)
    (runs_in_order (offset + 1) others) (omega arith)
runs_tell offset (None ∷ others) (suc number) =
    ap (λ place. item_at place (runs_from (offset + 1) others))
    (let e : offset + suc number ≡ offset + 1 + number = omega arith in e)
    ∙ runs_tell (offset + 1) others number
runs_tell offset (Some item ∷ others) zero =
    ap (λ place. item_at place (before_runs offset item (runs_from (offset + 1) others)))
    (let e : offset + 0 ≡ offset = omega arith in e)
    ∙ item_first offset item (runs_from (offset + 1) others)
runs_tell offset (Some item ∷ others) (suc number) =
    item_later offset (offset + suc number) item (runs_from (offset + 1) others) (omega arith)
    ∙ ap (λ place. item_at place (runs_from (offset + 1) others))
    (let e : offset + suc number ≡ offset + 1 + number = omega arith in e)
    ∙ runs_tell (offset + 1) others number

-- bytes in a row of which each fixed word is whole
abbrev pub AreWhole : List SetByte → Type 0
AreWhole items = words_are_whole (map Some items) ≡ true

-- a byte in front of others
pub whole_plain :
    (first : SetByte) (items : List SetByte) → begins_word (Some first) ≡ false → AreWhole items
    → AreWhole (first ∷ items)
whole_plain first items e h =
    and_from (not (begins_word (Some first)) || is_plain (option_flatten (slice_get (map Some items) 0)))
    (words_are_whole (map Some items))
    (ap (λ b. not b || is_plain (option_flatten (slice_get (map Some items) 0))) e) h

pub whole_word :
    (first next : SetByte) (items : List SetByte) → is_plain (Some next) ≡ true → AreWhole (next ∷ items)
    → AreWhole (first ∷ next ∷ items)
whole_word first next items e h =
    and_from (not (begins_word (Some first)) || is_plain (Some next))
    (words_are_whole (map Some (next ∷ items)))
    (go (begins_word (Some first))) h
  where
    go : (b : Bool) → (not b || is_plain (Some next)) ≡ true
    go true = e
    go false = refl

abbrev pub IsWholeRun : Run SetByte → Type 0
IsWholeRun run = AreWhole run.items

whole_before_plain :
    (offset : ℕ) (item : SetByte) (runs : List (Run SetByte)) → begins_word (Some item) ≡ false
    → AllByRecursion IsWholeRun runs → AllByRecursion IsWholeRun (before_runs offset item runs)
whole_before_plain offset item [] e all = (whole_plain item [] e refl, tt)
whole_before_plain offset item (next ∷ others) e all = go (next.offset == offset + 1)
  where
    go : (b : Bool)
        → AllByRecursion IsWholeRun
        (cond b (record { offset = offset; items = item ∷ next.items } ∷ others)
        (record { offset = offset; items = item ∷ [] } ∷ next ∷ others))
    go true = (whole_plain item next.items e all.0, all.1)
    go false = (whole_plain item [] e refl, all)

-- runs of which the first begins with an item at a place
record Begin {A : Type 0} (offset : ℕ) (item : A) (runs : List (Run A)) : Type 0 where
  items : List A
  others : List (Run A)
  is : runs ≡ record { offset = offset; items = item ∷ items } ∷ others

before_begins : {A : Type 0} (offset : ℕ) (item : A) (runs : List (Run A))
    → Begin offset item (before_runs offset item runs)
before_begins offset item [] = record { items = []; others = []; is = refl }
before_begins {A} offset item (next ∷ others) = go (next.offset == offset + 1)
  where
    go : (b : Bool)
        → Begin offset item
        (cond b (record { offset = offset; items = item ∷ next.items } ∷ others)
        (record { offset = offset; items = item ∷ [] } ∷ next ∷ others))
    go true = record { items = next.items; others = others; is = refl }
    go false = record { items = []; others = next ∷ others; is = refl }

whole_before_word :
    (offset : ℕ) (item : SetByte) (others : List (Option SetByte))
    → is_plain (option_flatten (slice_get others 0)) ≡ true
    → AllByRecursion IsWholeRun (runs_from (offset + 1) others)
    → AllByRecursion IsWholeRun (before_runs offset item (runs_from (offset + 1) others))
whole_before_word offset item [] e all = absurd (let bad : false ≡ true = e in cc)
whole_before_word offset item (None ∷ others) e all = absurd (let bad : false ≡ true = e in cc)
whole_before_word offset item (Some next ∷ others) e all =
    let b = before_begins (offset + 1) next (runs_from (offset + 1 + 1) others) in
    let first : Run SetByte = record { offset = offset + 1; items = next ∷ b.items } in
    let whole : AllByRecursion IsWholeRun (first ∷ b.others) = subst (AllByRecursion IsWholeRun) b.is all in
    subst (λ runs. AllByRecursion IsWholeRun (before_runs offset item runs)) (sym b.is)
    (subst (AllByRecursion IsWholeRun)
    (sym (cond-true (offset + 1 == offset + 1)
    (record { offset = offset; items = item ∷ next ∷ b.items } ∷ b.others)
    (record { offset = offset; items = item ∷ [] } ∷ first ∷ b.others)
    (eq-eqb (offset + 1) (offset + 1) refl)))
    (whole_word item next b.items e whole.0, whole.1))

-- no run ends within a word
pub runs_whole :
    (offset : ℕ) (places : List (Option SetByte)) → words_are_whole places ≡ true
    → AllByRecursion IsWholeRun (runs_from offset places)
runs_whole offset [] h = tt
runs_whole offset (None ∷ others) h = runs_whole (offset + 1) others h
runs_whole offset (Some item ∷ others) h =
    let t = and_parts (not (begins_word (Some item)) || is_plain (option_flatten (slice_get others 0)))
    (words_are_whole others) h in
    go (begins_word (Some item)) refl t.0 (runs_whole (offset + 1) others t.1)
  where
    go : (b : Bool) → begins_word (Some item) ≡ b
        → (not (begins_word (Some item)) || is_plain (option_flatten (slice_get others 0))) ≡ true
        → AllByRecursion IsWholeRun (runs_from (offset + 1) others)
        → AllByRecursion IsWholeRun (before_runs offset item (runs_from (offset + 1) others))
    go true e f later =
        whole_before_word offset item others
        (sym (ap (λ b. not b || is_plain (option_flatten (slice_get others 0))) e) ∙ f) later
    go false e f later = whole_before_plain offset item (runs_from (offset + 1) others) e later
