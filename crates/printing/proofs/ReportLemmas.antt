-- Lines, one after the other, in a text and at a writer.
use Rattle.printing.proofs.Prelude.{◌≡◌, ℕ, ◌+◌, ◌≤◌, ◌<◌, List, [], ◌∷◌, ◌++◌, length, take, drop, get_or, Option, sym, ap, ap₂, ◌∙◌, append_assoc, append-nil, take-append-drop, take_all, arith, Result, Ok, Err, OnErr, common_steps, take_more, take-append-le, flat_map-append, take-add, take-append-add, flat_map, Event, Appends, report_of, shown_line, AppendsBeginning, beginning_after}

-- the lines of the first events, and then those of the next ones
pub lines_more : (quiet : List ℕ) (events next : List Event) (i n : ℕ) → next ≡ take n (drop i events)
    → flat_map (shown_line quiet) (take i events) ++ flat_map (shown_line quiet) next
    ≡ flat_map (shown_line quiet) (take (i + n) events)
lines_more quiet events next i n e = sym (flat_map-append (shown_line quiet) (take i events) next)
    ∙ ap (λ l. flat_map (shown_line quiet) (take i events ++ l)) e
    ∙ ap (flat_map (shown_line quiet)) (sym (take-add i n events))

-- the lines of all events: those of the first ones, of the next ones and of the rest
pub lines_parts : (quiet : List ℕ) (events next : List Event) (i n : ℕ) → next ≡ take n (drop i events)
    → flat_map (shown_line quiet) events
    ≡ flat_map (shown_line quiet) (take i events)
    ++ (flat_map (shown_line quiet) next ++ flat_map (shown_line quiet) (drop (i + n) events))
lines_parts quiet events next i n e =
    let split : flat_map (shown_line quiet) events
    ≡ flat_map (shown_line quiet) (take (i + n) events)
    ++ flat_map (shown_line quiet) (drop (i + n) events) =
    ap (flat_map (shown_line quiet)) (sym (take-append-drop (i + n) events))
    ∙ flat_map-append (shown_line quiet) (take (i + n) events) (drop (i + n) events) in
    split ∙ ap (λ l. l ++ flat_map (shown_line quiet) (drop (i + n) events))
    (sym (lines_more quiet events next i n e))
    ∙ append_assoc (flat_map (shown_line quiet) (take i events)) (flat_map (shown_line quiet) next)
    (flat_map (shown_line quiet) (drop (i + n) events))

-- the lines of all events were written
pub all_written : (quiet : List ℕ) (a b : Option (List ℕ)) (events : List Event) (i : ℕ) → length events ≤ i
    → Appends a b (flat_map (shown_line quiet) (take i events))
    → Appends a b (flat_map (shown_line quiet) events)
all_written quiet a b events i all p = rw take_all at p

-- a text after a write that follows its first a bytes
pub text_more : (xs ys post : List ℕ) (a n : ℕ) → a ≤ length xs → n ≤ length ys
    → take (a + n) (take a xs ++ (ys ++ post)) ≡ take a xs ++ take n ys
text_more xs ys post a n fits within =
    let front : length (take a xs) ≡ a = grind (arith, common_steps) in
    let after = rw front at (take-append-add (take a xs) (ys ++ post) n) in
    after ∙ ap (λ l. take a xs ++ l) (take-append-le n ys post within)

-- one more line after the first ones
pub text_with_line : (quiet : List ℕ) (events : List Event) (d : Event) (xs ys post : List ℕ) (i a n : ℕ)
    → i < length events → a ≤ length xs → n ≤ length ys
    → take a xs ≡ flat_map (shown_line quiet) (take i events)
    → take n ys ≡ shown_line quiet (get_or events i d)
    → take (a + n) (take a xs ++ (ys ++ post)) ≡ flat_map (shown_line quiet) (take (i + 1) events)
text_with_line quiet events d xs ys post i a n in_range fits within before line =
    let event = get_or events i d in
    let one : flat_map (shown_line quiet) (event ∷ []) ≡ shown_line quiet event =
    append-nil (shown_line quiet event) in
    let split : flat_map (shown_line quiet) (take (i + 1) events)
    ≡ flat_map (shown_line quiet) (take i events) ++ flat_map (shown_line quiet) (event ∷ []) =
    ap (flat_map (shown_line quiet)) (take_more events i d in_range)
    ∙ flat_map-append (shown_line quiet) (take i events) (event ∷ []) in
    text_more xs ys post a n fits within ∙ ap₂ (λ l r. l ++ r) before (line ∙ sym one) ∙ sym split

module _ (a b c : Option (List ℕ)) where
  -- a text was written but for its end, of which there is a beginning
  pub then_begun : (first second : List ℕ) → Appends a b first → AppendsBeginning b c second
      → AppendsBeginning a c (first ++ second)
  then_begun first second p q =
      beginning_after a b c first second (first ++ second) []
      (ap (λ l. first ++ l) (sym (append-nil second))) p q

  -- the first part of a text was begun
  pub first_begun : (first second : List ℕ) → AppendsBeginning a b first
      → AppendsBeginning a b (first ++ second)
  first_begun first second (sent, begins, appended) =
      (sent, (begins.0 ++ second, ap (λ l. l ++ second) begins.1 ∙ append_assoc sent begins.0 second), appended)

  pub then_begun_result : (first second : List ℕ) → Appends a b first → {E : Type 0} (r : Result (Unit {0}) E)
      → OnErr r (AppendsBeginning b c second)
      → OnErr r (AppendsBeginning a c (first ++ second))
  then_begun_result first second p (Ok x) h = tt
  then_begun_result first second p (Err x) h = then_begun first second p h

-- the lines of a report were begun
pub begun_report : (quiet : List ℕ) (a b : Option (List ℕ)) (events : List Event) (last : List ℕ)
    → AppendsBeginning a b (flat_map (shown_line quiet) events)
    → AppendsBeginning a b (report_of quiet events last)
begun_report quiet a b events last p =
    first_begun a b b _ (10 ∷ []) (first_begun a b b (flat_map (shown_line quiet) events) last p)

-- the lines of a report were written, and then its last line, or a beginning of it
pub ended_report : (quiet : List ℕ) (a b c : Option (List ℕ)) (events : List Event) (last : List ℕ)
    → Appends a b (flat_map (shown_line quiet) events)
    → {E : Type 0} (r : Result (Unit {0}) E) → OnErr r (AppendsBeginning b c (last ++ 10 ∷ []))
    → OnErr r (AppendsBeginning a c (report_of quiet events last))
ended_report quiet a b c events last p r h =
    rw (append_assoc (flat_map (shown_line quiet) events) last (10 ∷ [])) (then_begun_result a b c (flat_map (shown_line quiet) events) (last ++ 10 ∷ []) p r h)
