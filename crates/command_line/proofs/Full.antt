-- Each row that a walk makes has a value.
use Rattle.command_line.proofs.{Prelude.{◌≡◌, ℕ, zero, suc, ◌<◌, List, [], ◌∷◌, ◌++◌, Option, Some, None, Bool, true, false, refl, length, drop, codes, arith, is_some, find, fold, if◌then◌else◌, encode_utf8, slice_get, unwrap_or, option_map, ◌&&◌, AllByRecursion, option_map_or, bytes_eq, chars, long_of, short_of, explicit_source, unwrap_or_range, Kinds, Row, Rule, Shape, Text, Held, Names, Outcome, Step, Waiting, Walk, action_of, after_flag, after_step, arg_by_id, arg_by_index, arg_by_long, arg_by_short, at_row, attached_value, bundle_met, bundle_step, default_rows, done, has_row, idle, is_pending, long_met, long_or_other, more_values, next, nothing_held, option, option_met, option_word, plain, plain_word, positional, reacted, reading_by, refused, rows_after, settled, settled_rows, short_met, short_or_plain, subcommand, subcommand_met, subcommand_or_other, takes_several, takes_values, to_positional, trailing, used, used_by_id, value, waits, walk, walk_from, walked, walked_from, with_default, with_values, without, word_met, is_given, bundle_fault, bundle_step_fault, check_fault, flag_word_fault, flags_fault, level_fault, long_fault, option_fault, other_fault, positional_fault, react_fault, settle_fault, short_fault, step_fault, stray_fault, turn_fault, use_fault, walk_fault, word_fault, or_else, Set, Append, SetTrue, Help, Reading, ValueSource, files_of}, Verbs.{Executed, Form, Listed, Located, Objects, Placed, Sources, leaf, rules}, Levels.{level_passes_by, kinds_not_empty, none_of_both}}

abbrev IsFull : Row → Type 0
IsFull r = 0 < length r.values

abbrev AllFull : List Row → Type 0
AllFull = AllByRecursion IsFull

full_append : (xs ys : List Row) → AllFull xs → AllFull ys → AllFull (xs ++ ys)
full_append [] ys full others = others
full_append (x ∷ xs) ys full others = (full.0, full_append xs ys full.1 others)

more_text : (xs ys : List Text) → 0 < length xs → 0 < length (xs ++ ys)
more_text [] ys some = absurd (omega arith)
more_text (x ∷ xs) ys some = omega arith

full_at_row : (id : Text) (change : Row → List Row) (missing rows : List Row)
    → ((r : Row) → IsFull r → AllFull (change r)) → AllFull missing → AllFull rows
    → AllFull (at_row id change missing rows)
full_at_row id change missing [] changes gone full = gone
full_at_row id change missing (r ∷ rs) changes gone full =
    go (bytes_eq r.id id) (full_append (change r) rs (changes r full.0) full.1)
    (full.0, full_at_row id change missing rs changes gone full.1)
  where
    go : (t : Bool) → AllFull (change r ++ rs) → AllFull (r ∷ at_row id change missing rs)
        → AllFull (if t then change r ++ rs else r ∷ at_row id change missing rs)
    go true yes_full no_full = yes_full
    go false yes_full no_full = no_full

full_without : (id : Text) (rows : List Row) → AllFull rows → AllFull (without id rows)
full_without id rows full = full_at_row id (λ _. []) [] rows (λ r f. tt) tt full

full_with_values : (id : Text) (how : Reading) (s : ValueSource) (v : Text) (vs : List Text) (rows : List Row)
    → AllFull rows → AllFull (with_values id how s (v ∷ vs) rows)
full_with_values id how s v vs rows full =
    full_at_row id (more_values s (v ∷ vs))
    (record { id = id; values = v ∷ vs; count = None; source = Some s; reading = how } ∷ []) rows
    (λ r f. (more_text r.values (v ∷ vs) f, tt))
    (let some : 0 < length (v ∷ vs) = omega arith in some, tt) full

-- a use of the argument that is no fault leaves each row with a value
record Takes (a : Rule) : Type 0 where
  take : (again : Bool) (values : List Text) (rows : List Row) → use_fault again a values rows ≡ []
      → AllFull rows → AllFull (used a values rows)

set_take : (a : Rule) → action_of a ≡ Set → (unwrap_or_range a.range).start_inclusive ≡ 1
    → (again : Bool) (values : List Text) (rows : List Row) → use_fault again a values rows ≡ []
    → AllFull rows → AllFull (used a values rows)
set_take a is least again [] rows fine full = absurd (kinds_not_empty _ _ (rw least at fine))
set_take a is least again (v ∷ vs) rows fine full =
    rw is (full_with_values a.id (reading_by a) _ v vs (without a.id rows) (full_without a.id rows full))

append_take : (a : Rule) → action_of a ≡ Append → (unwrap_or_range a.range).start_inclusive ≡ 1
    → (again : Bool) (values : List Text) (rows : List Row) → use_fault again a values rows ≡ []
    → AllFull rows → AllFull (used a values rows)
append_take a is least again [] rows fine full = absurd (kinds_not_empty _ _ (rw least at fine))
append_take a is least again (v ∷ vs) rows fine full =
    rw is (full_with_values a.id (reading_by a) _ v vs rows full)

flag_take : (a : Rule) → action_of a ≡ SetTrue → a.missing ≡ codes "true" ∷ []
    → (again : Bool) (values : List Text) (rows : List Row) → use_fault again a values rows ≡ []
    → AllFull rows → AllFull (used a values rows)
flag_take a is missing again [] rows fine full = rw (is, missing) (full_with_values a.id (reading_by a) _ (codes "true") [] (without a.id rows) (full_without a.id rows full))
flag_take a is missing again (v ∷ vs) rows fine full =
    rw is (full_with_values a.id (reading_by a) _ v vs (without a.id rows) (full_without a.id rows full))

help_take : (a : Rule) → action_of a ≡ Help
    → (again : Bool) (values : List Text) (rows : List Row) → use_fault again a values rows ≡ []
    → AllFull rows → AllFull (used a values rows)
help_take a is again values rows fine full = rw is full

set_takes : (a : Rule) → action_of a ≡ Set → (unwrap_or_range a.range).start_inclusive ≡ 1 → Takes a
set_takes a is least = record { take = set_take a is least }

append_takes : (a : Rule) → action_of a ≡ Append → (unwrap_or_range a.range).start_inclusive ≡ 1 → Takes a
append_takes a is least = record { take = append_take a is least }

flag_takes : (a : Rule) → action_of a ≡ SetTrue → a.missing ≡ codes "true" ∷ [] → Takes a
flag_takes a is missing = record { take = flag_take a is missing }

help_takes : (a : Rule) → action_of a ≡ Help → Takes a
help_takes a is = record { take = help_take a is }

abbrev AllTake : List Rule → Type 0
AllTake = AllByRecursion Takes

abbrev IfTakes : Option Rule → Type 0
IfTakes None = Unit {0}
IfTakes (Some a) = Takes a

found_takes : (p : Rule → Bool) (c : List Rule) → AllTake c → IfTakes (find p c)
found_takes p [] all = tt
found_takes p (a ∷ c) all = go (p a) all.0 (found_takes p c all.1)
  where
    go : (t : Bool) → Takes a → IfTakes (find p c) → IfTakes (if t then Some a else find p c)
    go true here there = here
    go false here there = there

used_full : (again : Bool) (found : Option Rule) → IfTakes found → (values : List Text) (rows : List Row)
    → option_map_or (λ a. use_fault again a values rows) found [] ≡ [] → AllFull rows
    → AllFull (used_by_id found values rows)
used_full again None takes values rows fine full = full
used_full again (Some a) takes values rows fine full = takes.take again values rows fine full

settled_full : (again : Bool) (c : List Rule) → AllTake c → (p : Option (Text × List Text)) (rows : List Row)
    → option_map_or (λ q. option_map_or (λ a. use_fault again a q.1 rows) (arg_by_id c q.0) []) p [] ≡ []
    → AllFull rows → AllFull (settled_rows c p rows)
settled_full again c all None rows fine full = full
settled_full again c all (Some (id, values)) rows fine full =
    used_full again (arg_by_id c id) (found_takes (λ a. bytes_eq a.id id) c all) values rows fine full

settle_full : (again : Bool) (c : List Rule) → AllTake c → (h : Held) → settle_fault c again h ≡ []
    → AllFull h.rows → AllFull (settled c h).rows
settle_full again c all h fine full = settled_full again c all h.pending h.rows fine full

react_full : (again : Bool) (c : List Rule) → AllTake c → (a : Rule) → Takes a
    → (values : List Text) (h : Held) → react_fault c again a values h ≡ [] → AllFull h.rows
    → AllFull (reacted c a values h).rows
react_full again c all a takes values h fine full =
    let parts = none_of_both (settle_fault c again h) (use_fault again a values (settled c h).rows) fine in
    takes.take again values (settled c h).rows parts.1 (settle_full again c all h parts.0 full)

option_full : (again : Bool) (c : List Rule) → AllTake c → (a : Rule) → Takes a → (v : Option Text) (h : Held)
    → option_fault c again a v h ≡ [] → AllFull h.rows
    → AllFull (option_met c a v h).0.rows
option_full again c all a takes (Some v) h fine full = react_full again c all a takes (v ∷ []) h fine full
option_full again c all a takes None h fine full = settle_full again c all h fine full

long_full : (again : Bool) (c : List Rule) → AllTake c → (found : Option Rule) → IfTakes found
    → (v : Option Text) (h : Held) → long_fault c again found v h ≡ [] → AllFull h.rows
    → AllFull (long_met c found v h).0.rows
long_full again c all None takes v h fine full = full
long_full again c all (Some a) takes v h fine full = go (takes_values a) refl v fine
  where
    go : (t : Bool) → takes_values a ≡ t → (v : Option Text) → long_fault c again (Some a) v h ≡ []
        → AllFull (long_met c (Some a) v h).0.rows
    go true e v fine = rw e (option_full again c all a takes v h (rw e at fine) full)
    go false e None fine = rw e (react_full again c all a takes [] h (rw e at fine) full)
    go false e (Some v) fine = absurd (kinds_not_empty _ _ (rw e at fine))

short_full : (again : Bool) (c : List Rule) → AllTake c → (found : Option Rule) → IfTakes found
    → (rest : Text) (h : Held) (later : Held → Kinds) (more : Held → Held × Outcome)
    → ((x : Held) → later x ≡ [] → AllFull x.rows → AllFull (more x).0.rows)
    → short_fault c again found rest h later ≡ [] → AllFull h.rows
    → AllFull (short_met c found rest h more).0.rows
short_full again c all None takes rest h later more others fine full = full
short_full again c all (Some a) takes rest h later more others fine full = go (takes_values a) refl
  where
    go : (t : Bool) → takes_values a ≡ t → AllFull (short_met c (Some a) rest h more).0.rows
    go true e = rw e (option_full again c all a takes (attached_value rest) h (rw e at fine) full)
    go false e =
        let parts = none_of_both (react_fault c again a [] h) (later (reacted c a [] h)) (rw e at fine) in
        rw e (others (reacted c a [] h) parts.1 (react_full again c all a takes [] h parts.0 full))

bundle_step_full : (again : Bool) (c : List Rule) → AllTake c
    → (found : Option ℕ) (flags : Text) (skip : ℕ) (so_far : Outcome) (h : Held)
    (later : Text → ℕ → Held → Kinds) (more : Text → ℕ → Outcome → Held → Held × Outcome)
    → ((f : Text) (k : ℕ) (o : Outcome) (x : Held) → later f k x ≡ [] → AllFull x.rows
    → AllFull (more f k o x).0.rows)
    → bundle_step_fault c again found flags skip h later ≡ [] → AllFull h.rows
    → AllFull (bundle_step c found flags skip so_far h more).0.rows
bundle_step_full again c all None flags skip so_far h later more others fine full = full
bundle_step_full again c all (Some x) flags zero so_far h later more others fine full =
    let rest = drop (length (encode_utf8 x)) flags in
    short_full again c all (arg_by_short c x) (found_takes _ c all) rest h (later rest 0) (more rest 0 done)
    (others rest 0 done) fine full
bundle_step_full again c all (Some x) flags (suc skip) so_far h later more others fine full =
    others (drop (length (encode_utf8 x)) flags) skip so_far h fine full

bundle_full : (again : Bool) (c : List Rule) → AllTake c
    → (k : ℕ) (flags : Text) (skip : ℕ) (so_far : Outcome) (h : Held)
    → flags_fault c again k flags skip h ≡ [] → AllFull h.rows
    → AllFull (bundle_met c k flags skip so_far h).0.rows
unfolding flags_fault bundle_met
bundle_full again c all zero flags skip so_far h fine full = full
bundle_full again c all (suc k) flags skip so_far h fine full =
    bundle_step_full again c all (slice_get (chars flags) 0) flags skip so_far h (flags_fault c again k)
    (bundle_met c k) (λ f s o x. bundle_full again c all k f s o x) fine full

plain_full : (c : List Rule) (waiting : Waiting) (word : Text) (h : Held) → AllFull h.rows
    → AllFull (plain_word c waiting word h).0.rows
plain_full c idle word h full = full
plain_full c (option id) word h full = go (arg_by_id c id)
  where
    go : (found : Option Rule) → AllFull (let met = option_word found id word h in met.0).rows
    go None = full
    go (Some a) = full
plain_full c positional word h full = full

flag_full : (c : List Rule) (waiting : Waiting) (word : Text) (h : Held) (o : Outcome) → AllFull h.rows
    → AllFull (after_flag c waiting word h o).0.rows
flag_full c waiting word h done full = full
flag_full c waiting word h (waits id) full = full
flag_full c waiting word h plain full = plain_full c waiting word h full
flag_full c waiting word h refused full = plain_full c waiting word h full

shorts_full : (again : Bool) (c : List Rule) → AllTake c
    → (waiting : Waiting) (word : Text) (s : Option Text) (h : Held)
    → option_map_or (λ flags. bundle_fault c again flags h) s [] ≡ [] → AllFull h.rows
    → AllFull (short_or_plain c waiting word s h).0.rows
shorts_full again c all waiting word None h fine full = plain_full c waiting word h full
shorts_full again c all waiting word (Some flags) h fine full =
    let met = bundle_met c (length flags) flags h.skip plain (record h { skip = 0 }) in
    flag_full c waiting word met.0 met.1
    (bundle_full again c all (length flags) flags h.skip plain (record h { skip = 0 }) fine full)

other_full : (again : Bool) (c : List Rule) → AllTake c
    → (waiting : Waiting) (position : ℕ) (word : Text) (h : Held) (t : Bool) (l : Option (Text × Option Text))
    → (if t then [] else flag_word_fault c again l word h) ≡ [] → AllFull h.rows
    → AllFull
    (let met : Held × Step = if t then (h, trailing position) else long_or_other c waiting word l h in met).0.rows
other_full again c all waiting position word h true l fine full = full
other_full again c all waiting position word h false None fine full =
    shorts_full again c all waiting word (short_of word) h fine full
other_full again c all waiting position word h false (Some (name, v)) fine full =
    let met = long_met c (arg_by_long c name) v h in
    flag_full c waiting word met.0 met.1
    (long_full again c all (arg_by_long c name) (found_takes _ c all) v h fine full)

met_full : (s : Shape) → AllTake s.rules
    → (waiting : Waiting) (position : ℕ) (word : Text) (h : Held) (o : Option Text)
    → other_fault s o word h ≡ [] → AllFull h.rows
    → AllFull (subcommand_or_other s.rules o waiting position word h).0.rows
met_full s all waiting position word h (Some name) fine full = full
met_full s all waiting position word h None fine full =
    other_full s.args_override_self s.rules all waiting position word h (bytes_eq word (45 ∷ 45 ∷ []))
    (long_of word) fine full

word_full : (s : Shape) → AllTake s.rules
    → (names : Names) (t : Bool) (waiting : Waiting) (position : ℕ) (word : Text) (h : Held)
    → word_fault s names t waiting word h ≡ [] → AllFull h.rows
    → AllFull (word_met s.rules names t waiting position word h).0.rows
word_full s all names true waiting position word h fine full = full
word_full s all names false waiting position word h fine full =
    met_full s all waiting position word h (subcommand_met names waiting word) fine full

held_full : (again : Bool) (c : List Rule) → AllTake c → (t : Bool) (h : Held)
    → (if t then [] else settle_fault c again h) ≡ [] → AllFull h.rows
    → AllFull (let held : Held = if t then h else settled c h in held).rows
held_full again c all true h fine full = full
held_full again c all false h fine full = settle_full again c all h fine full

positional_full : (s : Shape) → AllTake s.rules → (found : Option Rule) (word : Text) (w : Walk) (h : Held)
    → option_map_or (λ a. positional_fault s.rules s.args_override_self a h) found (stray_fault s) ≡ []
    → AllFull h.rows
    → AllFull (to_positional s.rules found word w h).held.rows
positional_full s all None word w h fine full = full
positional_full s all (Some a) word w h fine full =
    held_full s.args_override_self s.rules all (is_pending a h.pending && takes_several a) h fine full

step_full : (s : Shape) → AllTake s.rules → (word : Text) (w : Walk) (h : Held) (step : Step)
    → step_fault s w.position h step ≡ [] → AllFull h.rows
    → AllFull (after_step s.rules word w h step).held.rows
step_full s all word w h (next waiting) fine full = full
step_full s all word w h (trailing position) fine full = full
step_full s all word w h (subcommand name) fine full = full
step_full s all word w h value fine full =
    positional_full s all (arg_by_index s.rules w.position) word w h fine full

turn_full : (s : Shape) → AllTake s.rules
    → (names : Names) (o : Option (Text × List Text)) (w : Walk) (word : Text)
    → (let met = word_met s.rules names w.is_trailing w.waiting w.position word w.held in
    if is_some o then [] else or_else (word_fault s names w.is_trailing w.waiting word w.held)
    (step_fault s w.position met.0 met.1)) ≡ []
    → AllFull w.held.rows → AllFull (walked_from s.rules names o w word).held.rows
turn_full s all names (Some p) w word fine full = full
turn_full s all names None w word fine full =
    let met = word_met s.rules names w.is_trailing w.waiting w.position word w.held in
    let parts =
    none_of_both (word_fault s names w.is_trailing w.waiting word w.held)
    (step_fault s w.position met.0 met.1) fine in
    step_full s all word w met.0 met.1 parts.1
    (word_full s all names w.is_trailing w.waiting w.position word w.held parts.0 full)

walked_full : (s : Shape) → AllTake s.rules → (names : Names) (w : Walk) (word : Text)
    → turn_fault s names w word ≡ [] → AllFull w.held.rows
    → AllFull (walked s.rules names w word).held.rows
unfolding walked
walked_full s all names w word fine full = turn_full s all names w.stopped w word fine full

walk_full : (s : Shape) → AllTake s.rules → (names : Names) (words : List Text) (w : Walk)
    → walk_fault s names w words ≡ [] → AllFull w.held.rows
    → AllFull (fold (walked s.rules names) w words).held.rows
unfolding walk_fault
walk_full s all names [] w fine full = full
walk_full s all names (word ∷ rest) w fine full =
    let parts =
    none_of_both (turn_fault s names w word)
    (walk_fault s names (walked s.rules names w word) rest) fine in
    walk_full s all names rest (walked s.rules names w word) parts.1
    (walked_full s all names w word parts.0 full)

default_full : (rows : List Row) (a : Rule) → AllFull rows → AllFull (with_default rows a)
default_full rows a full = go (has_row a.id rows) (given a.defaults)
  where
    given : (values : List Text) → AllFull (default_rows a.id (reading_by a) values rows)
    given [] = full
    given (v ∷ vs) = full_with_values a.id (reading_by a) _ v vs rows full

    go : (t : Bool) → AllFull (default_rows a.id (reading_by a) a.defaults rows)
        → AllFull (if t then rows else default_rows a.id (reading_by a) a.defaults rows)
    go true others = full
    go false others = others

defaults_full : (c : List Rule) (rows : List Row) → AllFull rows → AllFull (fold with_default rows c)
defaults_full [] rows full = full
defaults_full (a ∷ c) rows full = defaults_full c (with_default rows a) (default_full rows a full)

-- a level without a fault leaves each row with a value
level_full : (s : Shape) → AllTake s.rules → (words : List Text)
    → level_fault s [] nothing_held words false [] ≡ [] → AllFull (rows_after s.rules [] words)
level_full s all words fine =
    let passes = level_passes_by s [] nothing_held words false [] fine in
    let end = (walk s.rules [] nothing_held words).held in
    defaults_full s.rules (settled s.rules end).rows
    (settle_full s.args_override_self s.rules all end passes.settle_passes
    (walk_full s all [] words (walk_from nothing_held) passes.words_pass tt))

rules_take : (form : Form) → AllTake (rules form)
rules_take Sources =
    (set_takes _ refl refl, (set_takes _ refl refl, (set_takes _ refl refl, (set_takes _ refl refl, (set_takes _ refl refl, (set_takes _ refl refl, (append_takes _ refl refl, (append_takes _ refl refl, (flag_takes _ refl refl, (flag_takes _ refl refl, (flag_takes _ refl refl, (flag_takes _ refl refl, (set_takes _ refl refl, (set_takes _ refl refl, (append_takes _ refl refl, (help_takes _ refl, tt))))))))))))))))
rules_take Objects = (set_takes _ refl refl, (append_takes _ refl refl, (help_takes _ refl, tt)))
rules_take Placed =
    (set_takes _ refl refl, (set_takes _ refl refl, (set_takes _ refl refl, (set_takes _ refl refl, (set_takes _ refl refl, (append_takes _ refl refl, (help_takes _ refl, tt)))))))
rules_take Listed =
    (set_takes _ refl refl, (set_takes _ refl refl, (set_takes _ refl refl, (set_takes _ refl refl, (append_takes _ refl refl, (help_takes _ refl, tt))))))
rules_take Located =
    (set_takes _ refl refl, (set_takes _ refl refl, (set_takes _ refl refl, (set_takes _ refl refl, (flag_takes _ refl refl, (append_takes _ refl refl, (help_takes _ refl, tt)))))))
rules_take Executed =
    (set_takes _ refl refl, (set_takes _ refl refl, (set_takes _ refl refl, (set_takes _ refl refl, (set_takes _ refl refl, (set_takes _ refl refl, (append_takes _ refl refl, (append_takes _ refl refl, (flag_takes _ refl refl, (flag_takes _ refl refl, (flag_takes _ refl refl, (set_takes _ refl refl, (set_takes _ refl refl, (append_takes _ refl refl, (help_takes _ refl, tt)))))))))))))))

abbrev IfFull : Option Row → Type 0
IfFull None = Unit {0}
IfFull (Some r) = IsFull r

found_full : (p : Row → Bool) (rows : List Row) → AllFull rows → IfFull (find p rows)
found_full p [] all = tt
found_full p (r ∷ rows) all = go (p r) all.0 (found_full p rows all.1)
  where
    go : (t : Bool) → IsFull r → IfFull (find p rows) → IfFull (if t then Some r else find p rows)
    go true here there = here
    go false here there = there

given_full : (o : Option Row) → IfFull o → option_map_or (λ r. explicit_source r.source) o false ≡ true
    → 0 < length (unwrap_or (option_map (λ r. r.values) o) [])
given_full None full given = let bad : false ≡ true = given in cc
given_full (Some r) full given = full

files_given : (form : Form) (name : Text) (rows : List Row) → check_fault (leaf form name) rows false ≡ [] → is_given (codes "FILES") rows ≡ true
files_given Sources name rows fine = go (is_given (codes "FILES") rows) refl
  where
    go : (t : Bool) → is_given (codes "FILES") rows ≡ t → is_given (codes "FILES") rows ≡ true
    go true e = e
    go false e = absurd (kinds_not_empty _ _ (rw e at fine))
files_given Objects name rows fine = go (is_given (codes "FILES") rows) (is_given (codes "out") rows) refl refl
  where
    go : (t u : Bool) → is_given (codes "FILES") rows ≡ t → is_given (codes "out") rows ≡ u → is_given (codes "FILES") rows ≡ true
    go true u e f = e
    go false false e f = absurd (kinds_not_empty _ _ (rw (e, f) at fine))
    go false true e f = absurd (kinds_not_empty _ _ (rw (e, f) at fine))
files_given Placed name rows fine = go (is_given (codes "FILES") rows) refl
  where
    go : (t : Bool) → is_given (codes "FILES") rows ≡ t → is_given (codes "FILES") rows ≡ true
    go true e = e
    go false e = absurd (kinds_not_empty _ _ (rw e at fine))
files_given Listed name rows fine = go (is_given (codes "FILES") rows) refl
  where
    go : (t : Bool) → is_given (codes "FILES") rows ≡ t → is_given (codes "FILES") rows ≡ true
    go true e = e
    go false e = absurd (kinds_not_empty _ _ (rw e at fine))
files_given Located name rows fine = go (is_given (codes "FILES") rows) refl
  where
    go : (t : Bool) → is_given (codes "FILES") rows ≡ t → is_given (codes "FILES") rows ≡ true
    go true e = e
    go false e = absurd (kinds_not_empty _ _ (rw e at fine))
files_given Executed name rows fine = go (is_given (codes "FILES") rows) refl
  where
    go : (t : Bool) → is_given (codes "FILES") rows ≡ t → is_given (codes "FILES") rows ≡ true
    go true e = e
    go false e = absurd (kinds_not_empty _ _ (rw e at fine))

-- a command without a fault has a file
pub some_file : (form : Form) (name : Text) (words : List Text)
    → level_fault (leaf form name) [] nothing_held words false [] ≡ []
    → 0 < length (files_of (rows_after (rules form) [] words))
some_file form name words fine =
    let rows = rows_after (rules form) [] words in
    let passes = level_passes_by (leaf form name) [] nothing_held words false [] fine in
    given_full (find (λ r. bytes_eq r.id (codes "FILES")) rows) (found_full (λ r. bytes_eq r.id (codes "FILES")) rows (level_full (leaf form name) (rules_take form) words fine))
    (files_given form name rows passes.check_passes)
