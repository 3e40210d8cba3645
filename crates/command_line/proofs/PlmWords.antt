-- The words of a whole command line: without a fault they give an order.
use Rattle.command_line.proofs.{Prelude.{◌≡◌, ℕ, List, [], ◌∷◌, Option, Some, None, Bool, true, false, refl, sym, subst, codes, drop, is_some, ap, ◌∙◌, ◌++◌, append_assoc, ◌<◌, length, arith, find, fold, option_and_then, option_map, if◌then◌else◌, not, ◌&&◌, ◌||◌, AllByRecursion, option_map_or, bytes_eq, App, Kinds, Row, Rule, Shape, Text, fault_of, is_simple, Names, rows_after, settled, Waiting, option, positional, waits, done, refused, next, subcommand, plain_word, bundle, long_met, subcommand_or_other, subcommand_met, to_positional, arg_by_index, walked_from, walk, walk_from, nothing_held, answers_to, Held, Walk, Step, Outcome, plain, idle, value, trailing, walked, after_step, word_met, after_flag, short_or_plain, long_or_other, arg_by_long, finished, long_of, short_of, clap_on_literals, built, entered, filled, label_of, names_of, rows_at, built_leaf, help_rule, help_shape, new_shape, version_rule, level_fault, entered_fault, other_fault, is_simple_and_free, step_fault, turn_fault, walk_fault, word_fault, check_fault, defaults_fault, settle_fault, or_else, ErrorKind, Wanted, named_in, files_of, is_set, located_of, need_of, place_of, plm_app, wanted_by, wanted_of_match, wants_need, wants_place, stopped_fault, append-nil, Locate, Hex, Listing, Symbols, bytes_eq-Decides, Run, Interpret}, Full.{some_file}, Verbs.{Executed, Listed, Located, Objects, Placed, Sources, Verb, compile, execute, explain, leaf, leaf_of, link, name_of, place, program, rules, rules_of, wanted_of, convert}, Levels.{level_passes_by, kinds_not_empty, none_of_both}}

pub plm_is_simple : is_simple plm_app ≡ true
plm_is_simple = refl

pub plm_is_free : is_simple_and_free plm_app ≡ true
plm_is_free = refl

-- a step that is no call of the subcommand `help`
abbrev CallsNoHelp : Step → Type 0
CallsNoHelp (subcommand name) = bytes_eq name (codes "help") ≡ false
CallsNoHelp _ = Unit {0}

-- the walk did not stop at the subcommand `help`
abbrev IsNoHelp : Option (Text × List Text) → Type 0
IsNoHelp None = Unit {0}
IsNoHelp (Some p) = bytes_eq p.0 (codes "help") ≡ false

plain_step : (c : List Rule) (waiting : Waiting) (word : Text) (h : Held)
    → CallsNoHelp (plain_word c waiting word h).1
plain_step c idle word h = tt
plain_step c (option id) word h = tt
plain_step c positional word h = tt

flag_step : (c : List Rule) (waiting : Waiting) (word : Text) (h : Held) (o : Outcome)
    → CallsNoHelp (after_flag c waiting word h o).1
flag_step c waiting word h done = tt
flag_step c waiting word h (waits id) = tt
flag_step c waiting word h plain = plain_step c waiting word h
flag_step c waiting word h refused = plain_step c waiting word h

shorts_step : (c : List Rule) (waiting : Waiting) (word : Text) (s : Option Text) (h : Held)
    → CallsNoHelp (short_or_plain c waiting word s h).1
shorts_step c waiting word None h = plain_step c waiting word h
shorts_step c waiting word (Some flags) h = flag_step c waiting word (bundle c flags h).0 (bundle c flags h).1

other_step : (c : List Rule) (waiting : Waiting) (position : ℕ) (word : Text) (h : Held) (t : Bool)
    (l : Option (Text × Option Text))
    → CallsNoHelp (if t then (h, trailing position) else long_or_other c waiting word l h).1
other_step c waiting position word h true l = tt
other_step c waiting position word h false None = shorts_step c waiting word (short_of word) h
other_step c waiting position word h false (Some (name, v)) =
    flag_step c waiting word (long_met c (arg_by_long c name) v h).0 (long_met c (arg_by_long c name) v h).1

help_refused : (t disabled : Bool) (k : ErrorKind) (ks : Kinds) → disabled ≡ false
    → (if t && not disabled then k ∷ ks else []) ≡ [] → t ≡ false
help_refused false disabled k ks e fine = refl
help_refused true false k ks e fine = absurd (kinds_not_empty k ks fine)
help_refused true true k ks e fine = let bad : true ≡ false = e in cc

met_step : (s : Shape) (waiting : Waiting) (position : ℕ) (word : Text) (h : Held) (o : Option Text)
    → s.disable_help_subcommand ≡ false
    → other_fault s o word h ≡ [] → CallsNoHelp (subcommand_or_other s.rules o waiting position word h).1
met_step s waiting position word h None e fine =
    other_step s.rules waiting position word h (bytes_eq word (45 ∷ 45 ∷ [])) (long_of word)
met_step s waiting position word h (Some name) e fine = help_refused (bytes_eq name (codes "help")) s.disable_help_subcommand _ _ e fine

word_step : (s : Shape) (names : Names) (t : Bool) (waiting : Waiting) (position : ℕ) (word : Text) (h : Held)
    → s.disable_help_subcommand ≡ false
    → word_fault s names t waiting word h ≡ []
    → CallsNoHelp (word_met s.rules names t waiting position word h).1
word_step s names true waiting position word h e fine = tt
word_step s names false waiting position word h e fine =
    met_step s waiting position word h (subcommand_met names waiting word) e fine

positional_step : (c : List Rule) (found : Option Rule) (word : Text) (w : Walk) (h : Held)
    → IsNoHelp w.stopped → IsNoHelp (to_positional c found word w h).stopped
positional_step c None word w h before = before
positional_step c (Some a) word w h before = tt

stopped_after : (c : List Rule) (word : Text) (w : Walk) (h : Held) (step : Step) → CallsNoHelp step
    → IsNoHelp w.stopped → IsNoHelp (after_step c word w h step).stopped
stopped_after c word w h (next waiting) called before = before
stopped_after c word w h (trailing position) called before = before
stopped_after c word w h (subcommand name) called before = called
stopped_after c word w h value called before = positional_step c (arg_by_index c w.position) word w h before

stopped_from : (s : Shape) (names : Names) (o : Option (Text × List Text)) (w : Walk) (word : Text)
    → s.disable_help_subcommand ≡ false → IsNoHelp o → IsNoHelp w.stopped
    → (let met = word_met s.rules names w.is_trailing w.waiting w.position word w.held in
    if is_some o then [] else or_else (word_fault s names w.is_trailing w.waiting word w.held)
    (step_fault s w.position met.0 met.1)) ≡ []
    → IsNoHelp (walked_from s.rules names o w word).stopped
stopped_from s names (Some p) w word e here before fine = here
stopped_from s names None w word e here before fine =
    let met = word_met s.rules names w.is_trailing w.waiting w.position word w.held in
    let both =
    none_of_both (word_fault s names w.is_trailing w.waiting word w.held)
    (step_fault s w.position met.0 met.1) fine in
    stopped_after s.rules word w met.0 met.1
    (word_step s names w.is_trailing w.waiting w.position word w.held e both.0) before

stopped_next : (s : Shape) (names : Names) (w : Walk) (word : Text) → s.disable_help_subcommand ≡ false
    → IsNoHelp w.stopped → turn_fault s names w word ≡ []
    → IsNoHelp (walked s.rules names w word).stopped
unfolding walked
stopped_next s names w word e before fine = stopped_from s names w.stopped w word e before before fine

plm_walk : (s : Shape) (names : Names) (words : List Text) (w : Walk) → s.disable_help_subcommand ≡ false
    → IsNoHelp w.stopped → walk_fault s names w words ≡ []
    → IsNoHelp (fold (walked s.rules names) w words).stopped
unfolding walk_fault
plm_walk s names [] w e before fine = before
plm_walk s names (word ∷ rest) w e before fine =
    let both =
    none_of_both (turn_fault s names w word)
    (walk_fault s names (walked s.rules names w word) rest) fine in
    plm_walk s names rest (walked s.rules names w word) e (stopped_next s names w word e before both.0) both.1

abbrev top_built : Shape
top_built = record (new_shape (codes "plm")) {
  rules = filled help_rule ∷ filled version_rule ∷ [];
  is_leaf = false;
  subcommand_required = true;
  has_version = true;
  is_built = true;
}

abbrev help_built : Shape
help_built = built_leaf help_shape

abbrev plm_built : App
plm_built = record {
  top = top_built;
  subs = leaf_of compile ∷ leaf Sources (codes "run") ∷ leaf Sources (codes "interpret") ∷ leaf Objects (codes "link") ∷ leaf Located (codes "locate") ∷ leaf Placed (codes "hex") ∷ leaf Listed (codes "list") ∷ leaf Listed (codes "symbols") ∷ leaf Executed (codes "execute") ∷ leaf_of explain ∷ leaf_of convert ∷ help_built ∷ [];
}

built_is : built plm_app ≡ plm_built
built_is = refl

-- what is found among shapes is one of them
abbrev IfFound : (Shape → Type 0) → Option Shape → Type 0
IfFound P None = Unit {0}
IfFound P (Some s) = P s

found_has : (P : Shape → Type 0) (p : Shape → Bool) (shapes : List Shape)
    → AllByRecursion (λ s. p s ≡ true → P s) shapes → IfFound P (find p shapes)
found_has P p [] all = tt
found_has P p (s ∷ shapes) all = go (p s) all.0 (found_has P p shapes all.1)
  where
    go : (t : Bool) → (t ≡ true → P s) → IfFound P (find p shapes)
        → IfFound P (if t then Some s else find p shapes)
    go true here there = here refl
    go false here there = there

help_named : (name : Text) → (bytes_eq (codes "help") name || false) ≡ true → bytes_eq name (codes "help") ≡ false → ⊥
help_named name e other = go (bytes_eq (codes "help") name) refl e
  where
    go : (t : Bool) → bytes_eq (codes "help") name ≡ t → (t || false) ≡ true → ⊥
    go false is e = let bad : false ≡ true = e in cc
    go true is e =
        let bad : true ≡ false = subst (λ (n : Text). bytes_eq n (codes "help") ≡ false) (sym ((bytes_eq-Decides (codes "help") name).0 is)) other in cc

-- a command of `plm` gives an order
some_is_none : {A : Type 0} (x : A) → Some x ≡ None → ⊥
some_is_none x e = cc

-- the matches of a command give an order
abbrev IsCommand : Shape → Type 0
IsCommand s = (rows : List Row) → wanted_of_match (s.name, rows) ≡ None → ⊥

all_commands : (name : Text) → bytes_eq name (codes "help") ≡ false → AllByRecursion (λ s. answers_to name (label_of s) ≡ true → IsCommand s) plm_built.subs
all_commands name other = (
  λ e rows missing. some_is_none _ missing,
  (
    λ e rows missing. some_is_none _ missing,
    (
      λ e rows missing. some_is_none _ missing,
      (
        λ e rows missing. some_is_none _ missing,
        (
          λ e rows missing. some_is_none _ missing,
          (
            λ e rows missing. some_is_none _ missing,
            (
              λ e rows missing. some_is_none _ missing,
              (
                λ e rows missing. some_is_none _ missing,
                (
                  λ e rows missing. some_is_none _ missing,
                  (
                    λ e rows missing. some_is_none _ missing,
                    (λ e rows missing. some_is_none _ missing, (λ e rows missing. help_named name e other, tt)),
                  ),
                ),
              ),
            ),
          ),
        ),
      ),
    ),
  ),
)

entered_one : (rest : List Text) (rows : List Row) (o : Option Shape) → IfFound IsCommand o
    → check_fault top_built rows (is_some (option_map (λ s. rows_at s rest) o)) ≡ []
    → option_and_then wanted_of_match (option_map (λ s. rows_at s rest) o) ≡ None → ⊥
entered_one rest rows None is check missing = kinds_not_empty _ _ check
entered_one rest rows (Some s) is check missing = is (rows_at s rest).1 missing

entered_order : (rows : List Row) (stop : Option (Text × List Text)) → IsNoHelp stop
    → check_fault top_built rows (is_some (entered plm_built stop)) ≡ []
    → option_and_then wanted_of_match (entered plm_built stop) ≡ None → ⊥
entered_order rows None other check missing = kinds_not_empty _ _ check
entered_order rows (Some (name, rest)) other check missing =
    entered_one rest rows (find (λ s. answers_to name (label_of s)) plm_built.subs)
    (found_has IsCommand (λ s. answers_to name (label_of s)) plm_built.subs (all_commands name other)) check
    missing

pub order_is_there : (words : List Text) → fault_of plm_app words ≡ [] → wanted_by words ≡ None → ⊥
order_is_there words fine missing =
    let given = drop 1 words in
    let end = walk top_built.rules (names_of plm_built) nothing_held given in
    let passes =
    level_passes_by top_built (names_of plm_built) nothing_held given
    (is_some (entered plm_built end.stopped)) (entered_fault plm_built end.stopped) fine in
    entered_order (finished top_built.rules end.held) end.stopped
    (plm_walk top_built (names_of plm_built) given (walk_from nothing_held) refl tt passes.words_pass)
    passes.check_passes missing

-- the words after a command go to it
stopped_walk : (c : List Rule) (names : Names) (w : Walk) (name : Text) (seen rest : List Text)
    → fold (walked c names) (record w { stopped = Some (name, seen) }) rest
    ≡ record w { stopped = Some (name, seen ++ rest) }
unfolding walked
stopped_walk c names w name seen [] = rw (append-nil seen) refl
stopped_walk c names w name seen (word ∷ rest) =
    stopped_walk c names w name (seen ++ word ∷ []) rest ∙ rw (append_assoc seen (word ∷ []) rest) refl

command_met : (verb : Verb) → walked top_built.rules (names_of plm_built) (walk_from nothing_held)
    (name_of verb) ≡ record (walk_from nothing_held) { stopped = Some (name_of verb, []) }
unfolding clap_on_literals
command_met compile = refl
command_met (program Run) = refl
command_met (program Interpret) = refl
command_met link = refl
command_met (place Locate) = refl
command_met (place Hex) = refl
command_met (place Listing) = refl
command_met (place Symbols) = refl
command_met execute = refl
command_met explain = refl
command_met convert = refl

command_walk : (verb : Verb) (rest : List Text)
    → walk top_built.rules (names_of plm_built) nothing_held (name_of verb ∷ rest)
    ≡ record (walk_from nothing_held) { stopped = Some (name_of verb, rest) }
command_walk verb rest =
    ap (λ (w : Walk). fold (walked top_built.rules (names_of plm_built)) w rest) (command_met verb)
    ∙ stopped_walk top_built.rules (names_of plm_built) (walk_from nothing_held) (name_of verb) [] rest

command_turn : (verb : Verb) → turn_fault top_built (names_of plm_built)
    (walk_from nothing_held) (name_of verb) ≡ []
unfolding clap_on_literals
command_turn compile = refl
command_turn (program Run) = refl
command_turn (program Interpret) = refl
command_turn link = refl
command_turn (place Locate) = refl
command_turn (place Hex) = refl
command_turn (place Listing) = refl
command_turn (place Symbols) = refl
command_turn execute = refl
command_turn explain = refl
command_turn convert = refl

command_fault : (verb : Verb) (rest : List Text)
    → walk_fault top_built (names_of plm_built) (walk_from nothing_held) (name_of verb ∷ rest) ≡ []
unfolding walk_fault
command_fault verb rest =
    ap (λ (k : Kinds). or_else k (walk_fault top_built (names_of plm_built)
    (walked top_built.rules (names_of plm_built) (walk_from nothing_held) (name_of verb))
    rest)) (command_turn verb)
    ∙ ap (λ (w : Walk). walk_fault top_built (names_of plm_built) w rest) (command_met verb)
    ∙ stopped_fault top_built (names_of plm_built) (walk_from nothing_held) (name_of verb, []) rest

entered_is : (verb : Verb) (rest : List Text)
    → entered plm_built (Some (name_of verb, rest)) ≡ Some (rows_at (leaf_of verb) rest)
entered_is compile rest = refl
entered_is (program Run) rest = refl
entered_is (program Interpret) rest = refl
entered_is link rest = refl
entered_is (place Locate) rest = refl
entered_is (place Hex) rest = refl
entered_is (place Listing) rest = refl
entered_is (place Symbols) rest = refl
entered_is execute rest = refl
entered_is explain rest = refl
entered_is convert rest = refl

entered_fine : (verb : Verb) (rest : List Text)
    → level_fault (leaf_of verb) [] nothing_held rest false [] ≡ []
    → entered_fault plm_built (Some (name_of verb, rest)) ≡ []
entered_fine compile rest fine = fine
entered_fine (program Run) rest fine = fine
entered_fine (program Interpret) rest fine = fine
entered_fine link rest fine = fine
entered_fine (place Locate) rest fine = fine
entered_fine (place Hex) rest fine = fine
entered_fine (place Listing) rest fine = fine
entered_fine (place Symbols) rest fine = fine
entered_fine execute rest fine = fine
entered_fine explain rest fine = fine
entered_fine convert rest fine = fine

top_level : (s : Shape) (names : Names) (words : List Text) (inside : Option (Text × List Text) → Bool)
    (below : Option (Text × List Text) → Kinds) (end : Walk)
    → walk_fault s names (walk_from nothing_held) words ≡ [] → walk s.rules names nothing_held words ≡ end
    → below end.stopped ≡ [] → settle_fault s.rules s.args_override_self end.held ≡ []
    → defaults_fault (settled s.rules end.held).rows s.rules ≡ []
    → check_fault s (finished s.rules end.held) (inside end.stopped) ≡ []
    → (let stop = (walk s.rules names nothing_held words).stopped in level_fault s names nothing_held words
    (inside stop) (below stop)) ≡ []
top_level s names words inside below end fine is under settle defaults check =
    rw (fine, is, under, settle, defaults) check

pub line_fine : (name : Text) (verb : Verb) (rest : List Text)
    → level_fault (leaf_of verb) [] nothing_held rest false [] ≡ []
    → fault_of plm_app (name ∷ name_of verb ∷ rest) ≡ []
unfolding defaults_fault
line_fine name verb rest fine =
    top_level top_built (names_of plm_built) (name_of verb ∷ rest) (λ stop. is_some (entered plm_built stop))
    (entered_fault plm_built)
    (record (walk_from nothing_held) { stopped = Some (name_of verb, rest) }) (command_fault verb rest)
    (command_walk verb rest) (entered_fine verb rest fine) refl refl
    (rw (entered_is verb rest) refl)

wanted_named : (verb : Verb) (rest : List Text)
    → wanted_of_match (rows_at (leaf_of verb) rest)
    ≡ Some (wanted_of verb (rows_after (rules_of verb) [] rest))
wanted_named compile rest = refl
wanted_named (program Run) rest = refl
wanted_named (program Interpret) rest = refl
wanted_named link rest = refl
wanted_named (place Locate) rest = refl
wanted_named (place Hex) rest = refl
wanted_named (place Listing) rest = refl
wanted_named (place Symbols) rest = refl
wanted_named execute rest = refl
wanted_named explain rest = refl
wanted_named convert rest = refl

pub line_wanted : (name : Text) (verb : Verb) (rest : List Text) (wanted : Wanted)
    → wanted_of verb (rows_after (rules_of verb) [] rest) ≡ wanted
    → wanted_by (name ∷ name_of verb ∷ rest) ≡ Some wanted
line_wanted name verb rest wanted gives =
    ap (λ (w : Walk). option_and_then wanted_of_match (entered plm_built w.stopped)) (command_walk verb rest)
    ∙ ap (option_and_then wanted_of_match) (entered_is verb rest)
    ∙ wanted_named verb rest ∙ ap Some gives

-- a level without a fault gives a file
abbrev HasFile : Shape → Type 0
HasFile s =
    (rest : List Text) (wanted : Wanted) → level_fault s [] nothing_held rest false [] ≡ []
    → wanted_of_match (rows_at s rest) ≡ Some wanted → 0 < length (named_in wanted)

same_wanted : (x y : Wanted) → Some x ≡ Some y → x ≡ y
same_wanted x y e = cc

verb_wants : (verb : Verb) (rest : List Text) (wanted : Wanted)
    → wanted_of_match (rows_at (leaf_of verb) rest) ≡ Some wanted
    → wanted_of verb (rows_after (rules_of verb) [] rest) ≡ wanted
verb_wants verb rest wanted found =
    same_wanted (wanted_of verb (rows_after (rules_of verb) [] rest)) wanted
    (sym (wanted_named verb rest) ∙ found)

-- what `locate` wants has the files of its words
files_located : (rows : List Row) → named_in (located_of rows) ≡ files_of rows
files_located rows = go (is_set (codes "need") rows)
  where
    go : (t : Bool) → named_in (if t then wants_need (need_of rows) else wants_place (place_of Locate rows))
        ≡ files_of rows
    go true = refl
    go false = refl

verb_has_file : (verb : Verb) → HasFile (leaf_of verb)
verb_has_file verb rest wanted fine found =
    subst (λ (w : Wanted). 0 < length (named_in w)) (verb_wants verb rest wanted found) (has_file verb fine)
  where
    has_file : (v : Verb) → level_fault (leaf_of v) [] nothing_held rest false [] ≡ []
        → 0 < length (named_in (wanted_of v (rows_after (rules_of v) [] rest)))
    has_file compile fine = omega arith
    has_file (program action) fine = some_file Sources (name_of (program action)) rest fine
    has_file link fine = some_file Objects (name_of link) rest fine
    has_file (place Locate) fine = rw (files_located (rows_after (rules Located) [] rest)) (some_file Located (codes "locate") rest fine)
    has_file (place Hex) fine = some_file Placed (codes "hex") rest fine
    has_file (place Listing) fine = some_file Listed (codes "list") rest fine
    has_file (place Symbols) fine = some_file Listed (codes "symbols") rest fine
    has_file execute fine = some_file Executed (codes "execute") rest fine
    has_file explain fine = omega arith
    has_file convert fine = omega arith

all_have_files : (name : Text) → bytes_eq name (codes "help") ≡ false → AllByRecursion (λ s. answers_to name (label_of s) ≡ true → HasFile s) plm_built.subs
all_have_files name other = (
  λ e. verb_has_file compile,
  (
    λ e. verb_has_file (program Run),
    (
      λ e. verb_has_file (program Interpret),
      (
        λ e. verb_has_file link,
        (
          λ e. verb_has_file (place Locate),
          (
            λ e. verb_has_file (place Hex),
            (
              λ e. verb_has_file (place Listing),
              (
                λ e. verb_has_file (place Symbols),
                (
                  λ e. verb_has_file execute,
                  (
                    λ e. verb_has_file explain,
                    (λ e. verb_has_file convert, (λ e rest wanted fine found. absurd (help_named name e other), tt)),
                  ),
                ),
              ),
            ),
          ),
        ),
      ),
    ),
  ),
)

files_of_one : (rest : List Text) (wanted : Wanted) (o : Option Shape) → IfFound HasFile o
    → option_map_or (λ s. level_fault s [] nothing_held rest false []) o [] ≡ []
    → option_and_then wanted_of_match (option_map (λ s. rows_at s rest) o) ≡ Some wanted
    → 0 < length (named_in wanted)
files_of_one rest wanted None has below found = cc
files_of_one rest wanted (Some s) has below found = has rest wanted below found

entered_files : (stop : Option (Text × List Text)) (wanted : Wanted) → IsNoHelp stop
    → entered_fault plm_built stop ≡ []
    → option_and_then wanted_of_match (entered plm_built stop) ≡ Some wanted → 0 < length (named_in wanted)
entered_files None wanted other below found = cc
entered_files (Some (name, rest)) wanted other below found =
    files_of_one rest wanted (find (λ s. answers_to name (label_of s)) plm_built.subs)
    (found_has HasFile (λ s. answers_to name (label_of s)) plm_built.subs (all_have_files name other)) below
    found

-- words without a fault give a file
pub some_files : (words : List Text) (wanted : Wanted) → fault_of plm_app words ≡ []
    → wanted_by words ≡ Some wanted → 0 < length (named_in wanted)
some_files words wanted fine found =
    let given = drop 1 words in
    let end = walk top_built.rules (names_of plm_built) nothing_held given in
    let passes =
    level_passes_by top_built (names_of plm_built) nothing_held given
    (is_some (entered plm_built end.stopped)) (entered_fault plm_built end.stopped) fine in
    entered_files end.stopped wanted (plm_walk top_built (names_of plm_built) given (walk_from nothing_held) refl tt passes.words_pass) passes.below_passes found
