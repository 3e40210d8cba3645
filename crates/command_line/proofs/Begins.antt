-- What may come before the files: nothing, an option with its text, or a flag.
use Rattle.command_line.proofs.{Prelude.{◌≡◌, ◌∙◌, List, [], ◌∷◌, ◌++◌, Some, None, false, refl, ap, codes, fold, AllByRecursion, clap_on_literals, Kinds, Row, Shape, Text, Held, Walk, idle, option, has_row, nothing_held, reading_by, settled, walk, walk_from, walked, filled, settle_fault, turn_fault, walk_fault, or_else, CommandLine, PlaceAction, Locate, Hex, Code, DataBase, Input, InputFile, OutputFile, IsBare, Limit, OfPlan, PlanOption, Stack, StackSize, ValueOption, flag_rule, option_name, option_words, plan_option_name, Fill, StartMemory, Listing, Symbols, Count, UntilDry, WatchOption, Where, watch_option_name}, Files.{all_done, bare_fault, bare_word, done_of, files_fault, files_filled, files_row, files_rows, files_walk, last_of, rows_more, state}, Verbs.{Executed, Form, Listed, Located, Objects, Placed, Sources, form_of, leaf, rules}}

then_walk : (form : Form) (w v : Walk) (word : Text) (rest : List Text) → walked (rules form) [] w word ≡ v
    → fold (walked (rules form) []) w (word ∷ rest) ≡ fold (walked (rules form) []) v rest
then_walk form w v word rest e = ap (λ (x : Walk). fold (walked (rules form) []) x rest) e

then_fault : (form : Form) (name : Text) (w v : Walk) (word : Text) (rest : List Text)
    → turn_fault (leaf form name) [] w word ≡ [] → walked (rules form) [] w word ≡ v
    → walk_fault (leaf form name) [] w (word ∷ rest) ≡ walk_fault (leaf form name) [] v rest
unfolding walk_fault
then_fault form name w v word rest fine e =
    ap (λ (k : Kinds). or_else k (walk_fault (leaf form name) [] (walked (rules form) [] w word) rest)) fine
    ∙ ap (λ (x : Walk). walk_fault (leaf form name) [] x rest) e

-- the words before the files: whatever file comes next, the walk stands after it, and nothing has a fault
pub record Begins (form : Form) (name : Text) (first : List Text) (before : List Row) : Type 0 where
  pub no_file : has_row (codes "FILES") before ≡ false
  pub goes_to : (file : Text) → IsBare file → (rest : List Text)
      → fold (walked (rules form) []) (walk_from nothing_held) (first ++ file ∷ rest)
      ≡ fold (walked (rules form) []) (state before [] file) rest
  pub goes_well : (file : Text) → IsBare file → (rest : List Text)
      → walk_fault (leaf form name) [] (walk_from nothing_held) (first ++ file ∷ rest)
      ≡ walk_fault (leaf form name) [] (state before [] file) rest

-- a walk with nothing pending, and what it has found
abbrev pub found_walk : List Row → Walk
found_walk rows = record {
  held = record { rows = rows; pending = None; skip = 0 };
  waiting = idle;
  position = 1;
  is_trailing = false;
  stopped = None;
}

nothing_after : (rows : List Row) → rows ++ files_rows [] ≡ rows
nothing_after [] = refl
nothing_after (r ∷ rs) = ap (λ (x : List Row). r ∷ x) (nothing_after rs)

found_step : (form : Form) (rows : List Row) (file : Text) → IsBare file
    → walked (rules form) [] (found_walk rows) file ≡ state rows [] file
unfolding walked
found_step Sources rows file bare =
    rw (bare_word (rules Sources) idle 1 file (found_walk rows).held bare) (rw (nothing_after rows) refl)
found_step Objects rows file bare =
    rw (bare_word (rules Objects) idle 1 file (found_walk rows).held bare) (rw (nothing_after rows) refl)
found_step Placed rows file bare =
    rw (bare_word (rules Placed) idle 1 file (found_walk rows).held bare) (rw (nothing_after rows) refl)
found_step Listed rows file bare =
    rw (bare_word (rules Listed) idle 1 file (found_walk rows).held bare) (rw (nothing_after rows) refl)
found_step Located rows file bare =
    rw (bare_word (rules Located) idle 1 file (found_walk rows).held bare) (rw (nothing_after rows) refl)
found_step Executed rows file bare =
    rw (bare_word (rules Executed) idle 1 file (found_walk rows).held bare) (rw (nothing_after rows) refl)

found_turn : (form : Form) (name : Text) (rows : List Row) (file : Text) → IsBare file
    → turn_fault (leaf form name) [] (found_walk rows) file ≡ []
found_turn Sources name rows file bare =
    rw (bare_word (rules Sources) idle 1 file (found_walk rows).held bare, bare_fault (leaf Sources name) idle file (found_walk rows).held bare) refl
found_turn Objects name rows file bare =
    rw (bare_word (rules Objects) idle 1 file (found_walk rows).held bare, bare_fault (leaf Objects name) idle file (found_walk rows).held bare) refl
found_turn Placed name rows file bare =
    rw (bare_word (rules Placed) idle 1 file (found_walk rows).held bare, bare_fault (leaf Placed name) idle file (found_walk rows).held bare) refl
found_turn Listed name rows file bare =
    rw (bare_word (rules Listed) idle 1 file (found_walk rows).held bare, bare_fault (leaf Listed name) idle file (found_walk rows).held bare) refl
found_turn Located name rows file bare =
    rw (bare_word (rules Located) idle 1 file (found_walk rows).held bare, bare_fault (leaf Located name) idle file (found_walk rows).held bare) refl
found_turn Executed name rows file bare =
    rw (bare_word (rules Executed) idle 1 file (found_walk rows).held bare, bare_fault (leaf Executed name) idle file (found_walk rows).held bare) refl

pub plain_begins : (form : Form) (name : Text) → Begins form name [] []
plain_begins form name = record {
  no_file = refl;
  goes_to =
      λ file bare rest. then_walk form (found_walk []) (state [] [] file) file rest
      (found_step form [] file bare);
  goes_well =
      λ file bare rest. then_fault form name (found_walk []) (state [] [] file) file rest
      (found_turn form name [] file bare) (found_step form [] file bare);
}

abbrev pub flag_row : Text → Row
flag_row name = record { id = name; values = codes "true" ∷ []; count = None; source = Some CommandLine; reading = reading_by (filled (flag_rule name)) }

-- the flags of commands
pub data Flag : Type 0 where
  map_flag : Flag
  need_flag : Flag
  watch_flag : WatchOption → Flag
  execute_watch_flag : WatchOption → Flag

abbrev pub flag_name : Flag → Text
flag_name map_flag = codes "map"
flag_name need_flag = codes "need"
flag_name (watch_flag o) = watch_option_name o
flag_name (execute_watch_flag o) = watch_option_name o

abbrev pub flag_form : Flag → Form
flag_form map_flag = Sources
flag_form need_flag = Located
flag_form (watch_flag o) = Sources
flag_form (execute_watch_flag o) = Executed

-- the word of a flag
abbrev pub flag_word : Flag → Text
flag_word f = 45 ∷ 45 ∷ flag_name f

abbrev pub rows_of_flag : Flag → List Row
rows_of_flag f = flag_row (flag_name f) ∷ []

flag_step : (f : Flag) → walked (rules (flag_form f)) [] (found_walk []) (flag_word f)
    ≡ found_walk (rows_of_flag f)
unfolding clap_on_literals
flag_step map_flag = refl
flag_step need_flag = refl
flag_step (watch_flag Count) = refl
flag_step (watch_flag UntilDry) = refl
flag_step (watch_flag Where) = refl
flag_step (execute_watch_flag Count) = refl
flag_step (execute_watch_flag UntilDry) = refl
flag_step (execute_watch_flag Where) = refl

flag_turn : (name : Text) (f : Flag)
    → turn_fault (leaf (flag_form f) name) [] (found_walk []) (flag_word f) ≡ []
unfolding clap_on_literals
flag_turn name map_flag = refl
flag_turn name need_flag = refl
flag_turn name (watch_flag Count) = refl
flag_turn name (watch_flag UntilDry) = refl
flag_turn name (watch_flag Where) = refl
flag_turn name (execute_watch_flag Count) = refl
flag_turn name (execute_watch_flag UntilDry) = refl
flag_turn name (execute_watch_flag Where) = refl

no_file_of : (f : Flag) → has_row (codes "FILES") (rows_of_flag f) ≡ false
no_file_of map_flag = refl
no_file_of need_flag = refl
no_file_of (watch_flag Count) = refl
no_file_of (watch_flag UntilDry) = refl
no_file_of (watch_flag Where) = refl
no_file_of (execute_watch_flag Count) = refl
no_file_of (execute_watch_flag UntilDry) = refl
no_file_of (execute_watch_flag Where) = refl

pub flag_begins : (name : Text) (f : Flag) → Begins (flag_form f) name (flag_word f ∷ []) (rows_of_flag f)
flag_begins name f = record {
  no_file = no_file_of f;
  goes_to =
      λ file bare rest. then_walk (flag_form f) (found_walk []) (found_walk (rows_of_flag f)) (flag_word f)
      (file ∷ rest) (flag_step f)
      ∙ then_walk (flag_form f) (found_walk (rows_of_flag f)) (state (rows_of_flag f) [] file) file rest
      (found_step (flag_form f) (rows_of_flag f) file bare);
  goes_well =
      λ file bare rest. then_fault (flag_form f) name (found_walk []) (found_walk (rows_of_flag f))
      (flag_word f) (file ∷ rest) (flag_turn name f) (flag_step f)
      ∙ then_fault (flag_form f) name (found_walk (rows_of_flag f)) (state (rows_of_flag f) [] file) file rest
      (found_turn (flag_form f) name (rows_of_flag f) file bare)
      (found_step (flag_form f) (rows_of_flag f) file bare);
}

-- an option of a command
pub data Choice : Type 0 where
  of_program : ValueOption → Choice
  of_place : PlaceAction → PlanOption → Choice
  out : Choice
  jump : Choice
  of_execute : ValueOption → Choice

abbrev pub form_at : Choice → Form
form_at (of_program o) = Sources
form_at (of_place action o) = form_of action
form_at out = Objects
form_at jump = Placed
form_at (of_execute o) = Executed

abbrev pub name_at : Choice → Text
name_at (of_program o) = option_name o
name_at (of_place action o) = plan_option_name o
name_at out = codes "out"
name_at jump = codes "jump"
name_at (of_execute o) = option_name o

abbrev pub option_row : Choice → Text → Row
option_row o text =
    record { id = name_at o; values = text ∷ []; count = None; source = Some CommandLine; reading = reading_by files_filled }

abbrev waiting_walk : Choice → Walk
waiting_walk o = record {
  held = record { rows = []; pending = Some (name_at o, []); skip = 0 };
  waiting = option (name_at o);
  position = 1;
  is_trailing = false;
  stopped = None;
}

abbrev pending_walk : Choice → Text → Walk
pending_walk o text = record {
  held = record { rows = []; pending = Some (name_at o, text ∷ []); skip = 0 };
  waiting = idle;
  position = 1;
  is_trailing = false;
  stopped = None;
}

option_step : (o : Choice) → walked (rules (form_at o)) [] (found_walk []) (45 ∷ 45 ∷ name_at o)
    ≡ waiting_walk o
unfolding clap_on_literals
option_step (of_program (OfPlan Code)) = refl
option_step (of_program (OfPlan DataBase)) = refl
option_step (of_program (OfPlan Stack)) = refl
option_step (of_program (OfPlan StackSize)) = refl
option_step (of_program Limit) = refl
option_step (of_program Input) = refl
option_step (of_program InputFile) = refl
option_step (of_program OutputFile) = refl
option_step (of_program Fill) = refl
option_step (of_program StartMemory) = refl
option_step (of_place Locate Code) = refl
option_step (of_place Hex Code) = refl
option_step (of_place Listing Code) = refl
option_step (of_place Symbols Code) = refl
option_step (of_place Locate DataBase) = refl
option_step (of_place Hex DataBase) = refl
option_step (of_place Listing DataBase) = refl
option_step (of_place Symbols DataBase) = refl
option_step (of_place Locate Stack) = refl
option_step (of_place Hex Stack) = refl
option_step (of_place Listing Stack) = refl
option_step (of_place Symbols Stack) = refl
option_step (of_place Locate StackSize) = refl
option_step (of_place Hex StackSize) = refl
option_step (of_place Listing StackSize) = refl
option_step (of_place Symbols StackSize) = refl
option_step out = refl
option_step jump = refl
option_step (of_execute (OfPlan Code)) = refl
option_step (of_execute (OfPlan DataBase)) = refl
option_step (of_execute (OfPlan Stack)) = refl
option_step (of_execute (OfPlan StackSize)) = refl
option_step (of_execute Limit) = refl
option_step (of_execute Input) = refl
option_step (of_execute InputFile) = refl
option_step (of_execute OutputFile) = refl
option_step (of_execute Fill) = refl
option_step (of_execute StartMemory) = refl

option_turn : (name : Text) (o : Choice)
    → turn_fault (leaf (form_at o) name) [] (found_walk []) (45 ∷ 45 ∷ name_at o) ≡ []
unfolding clap_on_literals
option_turn name (of_program (OfPlan Code)) = refl
option_turn name (of_program (OfPlan DataBase)) = refl
option_turn name (of_program (OfPlan Stack)) = refl
option_turn name (of_program (OfPlan StackSize)) = refl
option_turn name (of_program Limit) = refl
option_turn name (of_program Input) = refl
option_turn name (of_program InputFile) = refl
option_turn name (of_program OutputFile) = refl
option_turn name (of_program Fill) = refl
option_turn name (of_program StartMemory) = refl
option_turn name (of_place Locate Code) = refl
option_turn name (of_place Hex Code) = refl
option_turn name (of_place Listing Code) = refl
option_turn name (of_place Symbols Code) = refl
option_turn name (of_place Locate DataBase) = refl
option_turn name (of_place Hex DataBase) = refl
option_turn name (of_place Listing DataBase) = refl
option_turn name (of_place Symbols DataBase) = refl
option_turn name (of_place Locate Stack) = refl
option_turn name (of_place Hex Stack) = refl
option_turn name (of_place Listing Stack) = refl
option_turn name (of_place Symbols Stack) = refl
option_turn name (of_place Locate StackSize) = refl
option_turn name (of_place Hex StackSize) = refl
option_turn name (of_place Listing StackSize) = refl
option_turn name (of_place Symbols StackSize) = refl
option_turn name out = refl
option_turn name jump = refl
option_turn name (of_execute (OfPlan Code)) = refl
option_turn name (of_execute (OfPlan DataBase)) = refl
option_turn name (of_execute (OfPlan Stack)) = refl
option_turn name (of_execute (OfPlan StackSize)) = refl
option_turn name (of_execute Limit) = refl
option_turn name (of_execute Input) = refl
option_turn name (of_execute InputFile) = refl
option_turn name (of_execute OutputFile) = refl
option_turn name (of_execute Fill) = refl
option_turn name (of_execute StartMemory) = refl

text_step : (o : Choice) (text : Text) → IsBare text
    → walked (rules (form_at o)) [] (waiting_walk o) text ≡ pending_walk o text
unfolding walked
text_step (of_program (OfPlan Code)) text bare =
    rw (bare_word (rules Sources) (waiting_walk (of_program (OfPlan Code))).waiting 1 text
    (waiting_walk (of_program (OfPlan Code))).held bare) refl
text_step (of_program (OfPlan DataBase)) text bare =
    rw (bare_word (rules Sources) (waiting_walk (of_program (OfPlan DataBase))).waiting 1 text
    (waiting_walk (of_program (OfPlan DataBase))).held bare) refl
text_step (of_program (OfPlan Stack)) text bare =
    rw (bare_word (rules Sources) (waiting_walk (of_program (OfPlan Stack))).waiting 1 text
    (waiting_walk (of_program (OfPlan Stack))).held bare) refl
text_step (of_program (OfPlan StackSize)) text bare =
    rw (bare_word (rules Sources) (waiting_walk (of_program (OfPlan StackSize))).waiting 1 text
    (waiting_walk (of_program (OfPlan StackSize))).held bare) refl
text_step (of_program Limit) text bare =
    rw (bare_word (rules Sources) (waiting_walk (of_program Limit)).waiting 1 text
    (waiting_walk (of_program Limit)).held bare) refl
text_step (of_program Input) text bare =
    rw (bare_word (rules Sources) (waiting_walk (of_program Input)).waiting 1 text
    (waiting_walk (of_program Input)).held bare) refl
text_step (of_program InputFile) text bare =
    rw (bare_word (rules Sources) (waiting_walk (of_program InputFile)).waiting 1 text
    (waiting_walk (of_program InputFile)).held bare) refl
text_step (of_program OutputFile) text bare =
    rw (bare_word (rules Sources) (waiting_walk (of_program OutputFile)).waiting 1 text
    (waiting_walk (of_program OutputFile)).held bare) refl
text_step (of_program Fill) text bare =
    rw (bare_word (rules Sources) (waiting_walk (of_program Fill)).waiting 1 text
    (waiting_walk (of_program Fill)).held bare) refl
text_step (of_program StartMemory) text bare =
    rw (bare_word (rules Sources) (waiting_walk (of_program StartMemory)).waiting 1 text
    (waiting_walk (of_program StartMemory)).held bare) refl
text_step (of_place Locate Code) text bare =
    rw (bare_word (rules Located) (waiting_walk (of_place Locate Code)).waiting 1 text
    (waiting_walk (of_place Locate Code)).held bare) refl
text_step (of_place Hex Code) text bare =
    rw (bare_word (rules Placed) (waiting_walk (of_place Hex Code)).waiting 1 text
    (waiting_walk (of_place Hex Code)).held bare) refl
text_step (of_place Listing Code) text bare =
    rw (bare_word (rules Listed) (waiting_walk (of_place Listing Code)).waiting 1 text
    (waiting_walk (of_place Listing Code)).held bare) refl
text_step (of_place Symbols Code) text bare =
    rw (bare_word (rules Listed) (waiting_walk (of_place Symbols Code)).waiting 1 text
    (waiting_walk (of_place Symbols Code)).held bare) refl
text_step (of_place Locate DataBase) text bare =
    rw (bare_word (rules Located) (waiting_walk (of_place Locate DataBase)).waiting 1 text
    (waiting_walk (of_place Locate DataBase)).held bare) refl
text_step (of_place Hex DataBase) text bare =
    rw (bare_word (rules Placed) (waiting_walk (of_place Hex DataBase)).waiting 1 text
    (waiting_walk (of_place Hex DataBase)).held bare) refl
text_step (of_place Listing DataBase) text bare =
    rw (bare_word (rules Listed) (waiting_walk (of_place Listing DataBase)).waiting 1 text
    (waiting_walk (of_place Listing DataBase)).held bare) refl
text_step (of_place Symbols DataBase) text bare =
    rw (bare_word (rules Listed) (waiting_walk (of_place Symbols DataBase)).waiting 1 text
    (waiting_walk (of_place Symbols DataBase)).held bare) refl
text_step (of_place Locate Stack) text bare =
    rw (bare_word (rules Located) (waiting_walk (of_place Locate Stack)).waiting 1 text
    (waiting_walk (of_place Locate Stack)).held bare) refl
text_step (of_place Hex Stack) text bare =
    rw (bare_word (rules Placed) (waiting_walk (of_place Hex Stack)).waiting 1 text
    (waiting_walk (of_place Hex Stack)).held bare) refl
text_step (of_place Listing Stack) text bare =
    rw (bare_word (rules Listed) (waiting_walk (of_place Listing Stack)).waiting 1 text
    (waiting_walk (of_place Listing Stack)).held bare) refl
text_step (of_place Symbols Stack) text bare =
    rw (bare_word (rules Listed) (waiting_walk (of_place Symbols Stack)).waiting 1 text
    (waiting_walk (of_place Symbols Stack)).held bare) refl
text_step (of_place Locate StackSize) text bare =
    rw (bare_word (rules Located) (waiting_walk (of_place Locate StackSize)).waiting 1 text
    (waiting_walk (of_place Locate StackSize)).held bare) refl
text_step (of_place Hex StackSize) text bare =
    rw (bare_word (rules Placed) (waiting_walk (of_place Hex StackSize)).waiting 1 text
    (waiting_walk (of_place Hex StackSize)).held bare) refl
text_step (of_place Listing StackSize) text bare =
    rw (bare_word (rules Listed) (waiting_walk (of_place Listing StackSize)).waiting 1 text
    (waiting_walk (of_place Listing StackSize)).held bare) refl
text_step (of_place Symbols StackSize) text bare =
    rw (bare_word (rules Listed) (waiting_walk (of_place Symbols StackSize)).waiting 1 text
    (waiting_walk (of_place Symbols StackSize)).held bare) refl
text_step out text bare =
    rw (bare_word (rules Objects) (waiting_walk out).waiting 1 text (waiting_walk out).held bare) refl
text_step jump text bare =
    rw (bare_word (rules Placed) (waiting_walk jump).waiting 1 text (waiting_walk jump).held bare) refl
text_step (of_execute (OfPlan Code)) text bare =
    rw (bare_word (rules Executed) (waiting_walk (of_execute (OfPlan Code))).waiting 1 text
    (waiting_walk (of_execute (OfPlan Code))).held bare) refl
text_step (of_execute (OfPlan DataBase)) text bare =
    rw (bare_word (rules Executed) (waiting_walk (of_execute (OfPlan DataBase))).waiting 1 text
    (waiting_walk (of_execute (OfPlan DataBase))).held bare) refl
text_step (of_execute (OfPlan Stack)) text bare =
    rw (bare_word (rules Executed) (waiting_walk (of_execute (OfPlan Stack))).waiting 1 text
    (waiting_walk (of_execute (OfPlan Stack))).held bare) refl
text_step (of_execute (OfPlan StackSize)) text bare =
    rw (bare_word (rules Executed) (waiting_walk (of_execute (OfPlan StackSize))).waiting 1 text
    (waiting_walk (of_execute (OfPlan StackSize))).held bare) refl
text_step (of_execute Limit) text bare =
    rw (bare_word (rules Executed) (waiting_walk (of_execute Limit)).waiting 1 text
    (waiting_walk (of_execute Limit)).held bare) refl
text_step (of_execute Input) text bare =
    rw (bare_word (rules Executed) (waiting_walk (of_execute Input)).waiting 1 text
    (waiting_walk (of_execute Input)).held bare) refl
text_step (of_execute InputFile) text bare =
    rw (bare_word (rules Executed) (waiting_walk (of_execute InputFile)).waiting 1 text
    (waiting_walk (of_execute InputFile)).held bare) refl
text_step (of_execute OutputFile) text bare =
    rw (bare_word (rules Executed) (waiting_walk (of_execute OutputFile)).waiting 1 text
    (waiting_walk (of_execute OutputFile)).held bare) refl
text_step (of_execute Fill) text bare =
    rw (bare_word (rules Executed) (waiting_walk (of_execute Fill)).waiting 1 text
    (waiting_walk (of_execute Fill)).held bare) refl
text_step (of_execute StartMemory) text bare =
    rw (bare_word (rules Executed) (waiting_walk (of_execute StartMemory)).waiting 1 text
    (waiting_walk (of_execute StartMemory)).held bare) refl

text_turn : (name : Text) (o : Choice) (text : Text) → IsBare text
    → turn_fault (leaf (form_at o) name) [] (waiting_walk o) text ≡ []
text_turn name (of_program (OfPlan Code)) text bare =
    rw (bare_word (rules Sources) (waiting_walk (of_program (OfPlan Code))).waiting 1 text (waiting_walk (of_program (OfPlan Code))).held bare, bare_fault (leaf Sources name) (waiting_walk (of_program (OfPlan Code))).waiting text (waiting_walk (of_program (OfPlan Code))).held bare) refl
text_turn name (of_program (OfPlan DataBase)) text bare =
    rw (bare_word (rules Sources) (waiting_walk (of_program (OfPlan DataBase))).waiting 1 text (waiting_walk (of_program (OfPlan DataBase))).held bare, bare_fault (leaf Sources name) (waiting_walk (of_program (OfPlan DataBase))).waiting text (waiting_walk (of_program (OfPlan DataBase))).held bare) refl
text_turn name (of_program (OfPlan Stack)) text bare =
    rw (bare_word (rules Sources) (waiting_walk (of_program (OfPlan Stack))).waiting 1 text (waiting_walk (of_program (OfPlan Stack))).held bare, bare_fault (leaf Sources name) (waiting_walk (of_program (OfPlan Stack))).waiting text (waiting_walk (of_program (OfPlan Stack))).held bare) refl
text_turn name (of_program (OfPlan StackSize)) text bare =
    rw (bare_word (rules Sources) (waiting_walk (of_program (OfPlan StackSize))).waiting 1 text (waiting_walk (of_program (OfPlan StackSize))).held bare, bare_fault (leaf Sources name) (waiting_walk (of_program (OfPlan StackSize))).waiting text (waiting_walk (of_program (OfPlan StackSize))).held bare) refl
text_turn name (of_program Limit) text bare =
    rw (bare_word (rules Sources) (waiting_walk (of_program Limit)).waiting 1 text (waiting_walk (of_program Limit)).held bare, bare_fault (leaf Sources name) (waiting_walk (of_program Limit)).waiting text (waiting_walk (of_program Limit)).held bare) refl
text_turn name (of_program Input) text bare =
    rw (bare_word (rules Sources) (waiting_walk (of_program Input)).waiting 1 text (waiting_walk (of_program Input)).held bare, bare_fault (leaf Sources name) (waiting_walk (of_program Input)).waiting text (waiting_walk (of_program Input)).held bare) refl
text_turn name (of_program InputFile) text bare =
    rw (bare_word (rules Sources) (waiting_walk (of_program InputFile)).waiting 1 text (waiting_walk (of_program InputFile)).held bare, bare_fault (leaf Sources name) (waiting_walk (of_program InputFile)).waiting text (waiting_walk (of_program InputFile)).held bare) refl
text_turn name (of_program OutputFile) text bare =
    rw (bare_word (rules Sources) (waiting_walk (of_program OutputFile)).waiting 1 text (waiting_walk (of_program OutputFile)).held bare, bare_fault (leaf Sources name) (waiting_walk (of_program OutputFile)).waiting text (waiting_walk (of_program OutputFile)).held bare) refl
text_turn name (of_program Fill) text bare =
    rw (bare_word (rules Sources) (waiting_walk (of_program Fill)).waiting 1 text (waiting_walk (of_program Fill)).held bare, bare_fault (leaf Sources name) (waiting_walk (of_program Fill)).waiting text (waiting_walk (of_program Fill)).held bare) refl
text_turn name (of_program StartMemory) text bare =
    rw (bare_word (rules Sources) (waiting_walk (of_program StartMemory)).waiting 1 text (waiting_walk (of_program StartMemory)).held bare, bare_fault (leaf Sources name) (waiting_walk (of_program StartMemory)).waiting text (waiting_walk (of_program StartMemory)).held bare) refl
text_turn name (of_place Locate Code) text bare =
    rw (bare_word (rules Located) (waiting_walk (of_place Locate Code)).waiting 1 text (waiting_walk (of_place Locate Code)).held bare, bare_fault (leaf Located name) (waiting_walk (of_place Locate Code)).waiting text (waiting_walk (of_place Locate Code)).held bare) refl
text_turn name (of_place Hex Code) text bare =
    rw (bare_word (rules Placed) (waiting_walk (of_place Hex Code)).waiting 1 text (waiting_walk (of_place Hex Code)).held bare, bare_fault (leaf Placed name) (waiting_walk (of_place Hex Code)).waiting text (waiting_walk (of_place Hex Code)).held bare) refl
text_turn name (of_place Listing Code) text bare =
    rw (bare_word (rules Listed) (waiting_walk (of_place Listing Code)).waiting 1 text (waiting_walk (of_place Listing Code)).held bare, bare_fault (leaf Listed name) (waiting_walk (of_place Listing Code)).waiting text (waiting_walk (of_place Listing Code)).held bare) refl
text_turn name (of_place Symbols Code) text bare =
    rw (bare_word (rules Listed) (waiting_walk (of_place Symbols Code)).waiting 1 text (waiting_walk (of_place Symbols Code)).held bare, bare_fault (leaf Listed name) (waiting_walk (of_place Symbols Code)).waiting text (waiting_walk (of_place Symbols Code)).held bare) refl
text_turn name (of_place Locate DataBase) text bare =
    rw (bare_word (rules Located) (waiting_walk (of_place Locate DataBase)).waiting 1 text (waiting_walk (of_place Locate DataBase)).held bare, bare_fault (leaf Located name) (waiting_walk (of_place Locate DataBase)).waiting text (waiting_walk (of_place Locate DataBase)).held bare) refl
text_turn name (of_place Hex DataBase) text bare =
    rw (bare_word (rules Placed) (waiting_walk (of_place Hex DataBase)).waiting 1 text (waiting_walk (of_place Hex DataBase)).held bare, bare_fault (leaf Placed name) (waiting_walk (of_place Hex DataBase)).waiting text (waiting_walk (of_place Hex DataBase)).held bare) refl
text_turn name (of_place Listing DataBase) text bare =
    rw (bare_word (rules Listed) (waiting_walk (of_place Listing DataBase)).waiting 1 text (waiting_walk (of_place Listing DataBase)).held bare, bare_fault (leaf Listed name) (waiting_walk (of_place Listing DataBase)).waiting text (waiting_walk (of_place Listing DataBase)).held bare) refl
text_turn name (of_place Symbols DataBase) text bare =
    rw (bare_word (rules Listed) (waiting_walk (of_place Symbols DataBase)).waiting 1 text (waiting_walk (of_place Symbols DataBase)).held bare, bare_fault (leaf Listed name) (waiting_walk (of_place Symbols DataBase)).waiting text (waiting_walk (of_place Symbols DataBase)).held bare) refl
text_turn name (of_place Locate Stack) text bare =
    rw (bare_word (rules Located) (waiting_walk (of_place Locate Stack)).waiting 1 text (waiting_walk (of_place Locate Stack)).held bare, bare_fault (leaf Located name) (waiting_walk (of_place Locate Stack)).waiting text (waiting_walk (of_place Locate Stack)).held bare) refl
text_turn name (of_place Hex Stack) text bare =
    rw (bare_word (rules Placed) (waiting_walk (of_place Hex Stack)).waiting 1 text (waiting_walk (of_place Hex Stack)).held bare, bare_fault (leaf Placed name) (waiting_walk (of_place Hex Stack)).waiting text (waiting_walk (of_place Hex Stack)).held bare) refl
text_turn name (of_place Listing Stack) text bare =
    rw (bare_word (rules Listed) (waiting_walk (of_place Listing Stack)).waiting 1 text (waiting_walk (of_place Listing Stack)).held bare, bare_fault (leaf Listed name) (waiting_walk (of_place Listing Stack)).waiting text (waiting_walk (of_place Listing Stack)).held bare) refl
text_turn name (of_place Symbols Stack) text bare =
    rw (bare_word (rules Listed) (waiting_walk (of_place Symbols Stack)).waiting 1 text (waiting_walk (of_place Symbols Stack)).held bare, bare_fault (leaf Listed name) (waiting_walk (of_place Symbols Stack)).waiting text (waiting_walk (of_place Symbols Stack)).held bare) refl
text_turn name (of_place Locate StackSize) text bare =
    rw (bare_word (rules Located) (waiting_walk (of_place Locate StackSize)).waiting 1 text (waiting_walk (of_place Locate StackSize)).held bare, bare_fault (leaf Located name) (waiting_walk (of_place Locate StackSize)).waiting text (waiting_walk (of_place Locate StackSize)).held bare) refl
text_turn name (of_place Hex StackSize) text bare =
    rw (bare_word (rules Placed) (waiting_walk (of_place Hex StackSize)).waiting 1 text (waiting_walk (of_place Hex StackSize)).held bare, bare_fault (leaf Placed name) (waiting_walk (of_place Hex StackSize)).waiting text (waiting_walk (of_place Hex StackSize)).held bare) refl
text_turn name (of_place Listing StackSize) text bare =
    rw (bare_word (rules Listed) (waiting_walk (of_place Listing StackSize)).waiting 1 text (waiting_walk (of_place Listing StackSize)).held bare, bare_fault (leaf Listed name) (waiting_walk (of_place Listing StackSize)).waiting text (waiting_walk (of_place Listing StackSize)).held bare) refl
text_turn name (of_place Symbols StackSize) text bare =
    rw (bare_word (rules Listed) (waiting_walk (of_place Symbols StackSize)).waiting 1 text (waiting_walk (of_place Symbols StackSize)).held bare, bare_fault (leaf Listed name) (waiting_walk (of_place Symbols StackSize)).waiting text (waiting_walk (of_place Symbols StackSize)).held bare) refl
text_turn name out text bare =
    rw (bare_word (rules Objects) (waiting_walk out).waiting 1 text (waiting_walk out).held bare, bare_fault (leaf Objects name) (waiting_walk out).waiting text (waiting_walk out).held bare) refl
text_turn name jump text bare =
    rw (bare_word (rules Placed) (waiting_walk jump).waiting 1 text (waiting_walk jump).held bare, bare_fault (leaf Placed name) (waiting_walk jump).waiting text (waiting_walk jump).held bare) refl
text_turn name (of_execute (OfPlan Code)) text bare =
    rw (bare_word (rules Executed) (waiting_walk (of_execute (OfPlan Code))).waiting 1 text (waiting_walk (of_execute (OfPlan Code))).held bare, bare_fault (leaf Executed name) (waiting_walk (of_execute (OfPlan Code))).waiting text (waiting_walk (of_execute (OfPlan Code))).held bare) refl
text_turn name (of_execute (OfPlan DataBase)) text bare =
    rw (bare_word (rules Executed) (waiting_walk (of_execute (OfPlan DataBase))).waiting 1 text (waiting_walk (of_execute (OfPlan DataBase))).held bare, bare_fault (leaf Executed name) (waiting_walk (of_execute (OfPlan DataBase))).waiting text (waiting_walk (of_execute (OfPlan DataBase))).held bare) refl
text_turn name (of_execute (OfPlan Stack)) text bare =
    rw (bare_word (rules Executed) (waiting_walk (of_execute (OfPlan Stack))).waiting 1 text (waiting_walk (of_execute (OfPlan Stack))).held bare, bare_fault (leaf Executed name) (waiting_walk (of_execute (OfPlan Stack))).waiting text (waiting_walk (of_execute (OfPlan Stack))).held bare) refl
text_turn name (of_execute (OfPlan StackSize)) text bare =
    rw (bare_word (rules Executed) (waiting_walk (of_execute (OfPlan StackSize))).waiting 1 text (waiting_walk (of_execute (OfPlan StackSize))).held bare, bare_fault (leaf Executed name) (waiting_walk (of_execute (OfPlan StackSize))).waiting text (waiting_walk (of_execute (OfPlan StackSize))).held bare) refl
text_turn name (of_execute Limit) text bare =
    rw (bare_word (rules Executed) (waiting_walk (of_execute Limit)).waiting 1 text (waiting_walk (of_execute Limit)).held bare, bare_fault (leaf Executed name) (waiting_walk (of_execute Limit)).waiting text (waiting_walk (of_execute Limit)).held bare) refl
text_turn name (of_execute Input) text bare =
    rw (bare_word (rules Executed) (waiting_walk (of_execute Input)).waiting 1 text (waiting_walk (of_execute Input)).held bare, bare_fault (leaf Executed name) (waiting_walk (of_execute Input)).waiting text (waiting_walk (of_execute Input)).held bare) refl
text_turn name (of_execute InputFile) text bare =
    rw (bare_word (rules Executed) (waiting_walk (of_execute InputFile)).waiting 1 text (waiting_walk (of_execute InputFile)).held bare, bare_fault (leaf Executed name) (waiting_walk (of_execute InputFile)).waiting text (waiting_walk (of_execute InputFile)).held bare) refl
text_turn name (of_execute OutputFile) text bare =
    rw (bare_word (rules Executed) (waiting_walk (of_execute OutputFile)).waiting 1 text (waiting_walk (of_execute OutputFile)).held bare, bare_fault (leaf Executed name) (waiting_walk (of_execute OutputFile)).waiting text (waiting_walk (of_execute OutputFile)).held bare) refl
text_turn name (of_execute Fill) text bare =
    rw (bare_word (rules Executed) (waiting_walk (of_execute Fill)).waiting 1 text (waiting_walk (of_execute Fill)).held bare, bare_fault (leaf Executed name) (waiting_walk (of_execute Fill)).waiting text (waiting_walk (of_execute Fill)).held bare) refl
text_turn name (of_execute StartMemory) text bare =
    rw (bare_word (rules Executed) (waiting_walk (of_execute StartMemory)).waiting 1 text (waiting_walk (of_execute StartMemory)).held bare, bare_fault (leaf Executed name) (waiting_walk (of_execute StartMemory)).waiting text (waiting_walk (of_execute StartMemory)).held bare) refl

value_step : (o : Choice) (text file : Text) → IsBare file
    → walked (rules (form_at o)) [] (pending_walk o text) file ≡ state (option_row o text ∷ []) [] file
unfolding walked
value_step (of_program (OfPlan Code)) text file bare =
    rw (bare_word (rules Sources) idle 1 file (pending_walk (of_program (OfPlan Code)) text).held bare) refl
value_step (of_program (OfPlan DataBase)) text file bare =
    rw (bare_word (rules Sources) idle 1 file (pending_walk (of_program (OfPlan DataBase)) text).held bare)
    refl
value_step (of_program (OfPlan Stack)) text file bare =
    rw (bare_word (rules Sources) idle 1 file (pending_walk (of_program (OfPlan Stack)) text).held bare) refl
value_step (of_program (OfPlan StackSize)) text file bare =
    rw (bare_word (rules Sources) idle 1 file (pending_walk (of_program (OfPlan StackSize)) text).held bare)
    refl
value_step (of_program Limit) text file bare =
    rw (bare_word (rules Sources) idle 1 file (pending_walk (of_program Limit) text).held bare) refl
value_step (of_program Input) text file bare =
    rw (bare_word (rules Sources) idle 1 file (pending_walk (of_program Input) text).held bare) refl
value_step (of_program InputFile) text file bare =
    rw (bare_word (rules Sources) idle 1 file (pending_walk (of_program InputFile) text).held bare) refl
value_step (of_program OutputFile) text file bare =
    rw (bare_word (rules Sources) idle 1 file (pending_walk (of_program OutputFile) text).held bare) refl
value_step (of_program Fill) text file bare =
    rw (bare_word (rules Sources) idle 1 file (pending_walk (of_program Fill) text).held bare) refl
value_step (of_program StartMemory) text file bare =
    rw (bare_word (rules Sources) idle 1 file (pending_walk (of_program StartMemory) text).held bare) refl
value_step (of_place Locate Code) text file bare =
    rw (bare_word (rules Located) idle 1 file (pending_walk (of_place Locate Code) text).held bare) refl
value_step (of_place Hex Code) text file bare =
    rw (bare_word (rules Placed) idle 1 file (pending_walk (of_place Hex Code) text).held bare) refl
value_step (of_place Listing Code) text file bare =
    rw (bare_word (rules Listed) idle 1 file (pending_walk (of_place Listing Code) text).held bare) refl
value_step (of_place Symbols Code) text file bare =
    rw (bare_word (rules Listed) idle 1 file (pending_walk (of_place Symbols Code) text).held bare) refl
value_step (of_place Locate DataBase) text file bare =
    rw (bare_word (rules Located) idle 1 file (pending_walk (of_place Locate DataBase) text).held bare) refl
value_step (of_place Hex DataBase) text file bare =
    rw (bare_word (rules Placed) idle 1 file (pending_walk (of_place Hex DataBase) text).held bare) refl
value_step (of_place Listing DataBase) text file bare =
    rw (bare_word (rules Listed) idle 1 file (pending_walk (of_place Listing DataBase) text).held bare) refl
value_step (of_place Symbols DataBase) text file bare =
    rw (bare_word (rules Listed) idle 1 file (pending_walk (of_place Symbols DataBase) text).held bare) refl
value_step (of_place Locate Stack) text file bare =
    rw (bare_word (rules Located) idle 1 file (pending_walk (of_place Locate Stack) text).held bare) refl
value_step (of_place Hex Stack) text file bare =
    rw (bare_word (rules Placed) idle 1 file (pending_walk (of_place Hex Stack) text).held bare) refl
value_step (of_place Listing Stack) text file bare =
    rw (bare_word (rules Listed) idle 1 file (pending_walk (of_place Listing Stack) text).held bare) refl
value_step (of_place Symbols Stack) text file bare =
    rw (bare_word (rules Listed) idle 1 file (pending_walk (of_place Symbols Stack) text).held bare) refl
value_step (of_place Locate StackSize) text file bare =
    rw (bare_word (rules Located) idle 1 file (pending_walk (of_place Locate StackSize) text).held bare) refl
value_step (of_place Hex StackSize) text file bare =
    rw (bare_word (rules Placed) idle 1 file (pending_walk (of_place Hex StackSize) text).held bare) refl
value_step (of_place Listing StackSize) text file bare =
    rw (bare_word (rules Listed) idle 1 file (pending_walk (of_place Listing StackSize) text).held bare) refl
value_step (of_place Symbols StackSize) text file bare =
    rw (bare_word (rules Listed) idle 1 file (pending_walk (of_place Symbols StackSize) text).held bare) refl
value_step out text file bare =
    rw (bare_word (rules Objects) idle 1 file (pending_walk out text).held bare) refl
value_step jump text file bare =
    rw (bare_word (rules Placed) idle 1 file (pending_walk jump text).held bare) refl
value_step (of_execute (OfPlan Code)) text file bare =
    rw (bare_word (rules Executed) idle 1 file (pending_walk (of_execute (OfPlan Code)) text).held bare) refl
value_step (of_execute (OfPlan DataBase)) text file bare =
    rw (bare_word (rules Executed) idle 1 file (pending_walk (of_execute (OfPlan DataBase)) text).held bare)
    refl
value_step (of_execute (OfPlan Stack)) text file bare =
    rw (bare_word (rules Executed) idle 1 file (pending_walk (of_execute (OfPlan Stack)) text).held bare) refl
value_step (of_execute (OfPlan StackSize)) text file bare =
    rw (bare_word (rules Executed) idle 1 file (pending_walk (of_execute (OfPlan StackSize)) text).held bare)
    refl
value_step (of_execute Limit) text file bare =
    rw (bare_word (rules Executed) idle 1 file (pending_walk (of_execute Limit) text).held bare) refl
value_step (of_execute Input) text file bare =
    rw (bare_word (rules Executed) idle 1 file (pending_walk (of_execute Input) text).held bare) refl
value_step (of_execute InputFile) text file bare =
    rw (bare_word (rules Executed) idle 1 file (pending_walk (of_execute InputFile) text).held bare) refl
value_step (of_execute OutputFile) text file bare =
    rw (bare_word (rules Executed) idle 1 file (pending_walk (of_execute OutputFile) text).held bare) refl
value_step (of_execute Fill) text file bare =
    rw (bare_word (rules Executed) idle 1 file (pending_walk (of_execute Fill) text).held bare) refl
value_step (of_execute StartMemory) text file bare =
    rw (bare_word (rules Executed) idle 1 file (pending_walk (of_execute StartMemory) text).held bare) refl

value_turn : (name : Text) (o : Choice) (text file : Text) → IsBare file
    → turn_fault (leaf (form_at o) name) [] (pending_walk o text) file ≡ []
value_turn name (of_program (OfPlan Code)) text file bare =
    rw (bare_word (rules Sources) idle 1 file (pending_walk (of_program (OfPlan Code)) text).held bare, bare_fault (leaf Sources name) idle file (pending_walk (of_program (OfPlan Code)) text).held bare) refl
value_turn name (of_program (OfPlan DataBase)) text file bare =
    rw (bare_word (rules Sources) idle 1 file (pending_walk (of_program (OfPlan DataBase)) text).held bare, bare_fault (leaf Sources name) idle file (pending_walk (of_program (OfPlan DataBase)) text).held bare) refl
value_turn name (of_program (OfPlan Stack)) text file bare =
    rw (bare_word (rules Sources) idle 1 file (pending_walk (of_program (OfPlan Stack)) text).held bare, bare_fault (leaf Sources name) idle file (pending_walk (of_program (OfPlan Stack)) text).held bare) refl
value_turn name (of_program (OfPlan StackSize)) text file bare =
    rw (bare_word (rules Sources) idle 1 file (pending_walk (of_program (OfPlan StackSize)) text).held bare, bare_fault (leaf Sources name) idle file (pending_walk (of_program (OfPlan StackSize)) text).held bare) refl
value_turn name (of_program Limit) text file bare =
    rw (bare_word (rules Sources) idle 1 file (pending_walk (of_program Limit) text).held bare, bare_fault (leaf Sources name) idle file (pending_walk (of_program Limit) text).held bare) refl
value_turn name (of_program Input) text file bare =
    rw (bare_word (rules Sources) idle 1 file (pending_walk (of_program Input) text).held bare, bare_fault (leaf Sources name) idle file (pending_walk (of_program Input) text).held bare) refl
value_turn name (of_program InputFile) text file bare =
    rw (bare_word (rules Sources) idle 1 file (pending_walk (of_program InputFile) text).held bare, bare_fault (leaf Sources name) idle file (pending_walk (of_program InputFile) text).held bare) refl
value_turn name (of_program OutputFile) text file bare =
    rw (bare_word (rules Sources) idle 1 file (pending_walk (of_program OutputFile) text).held bare, bare_fault (leaf Sources name) idle file (pending_walk (of_program OutputFile) text).held bare) refl
value_turn name (of_program Fill) text file bare =
    rw (bare_word (rules Sources) idle 1 file (pending_walk (of_program Fill) text).held bare, bare_fault (leaf Sources name) idle file (pending_walk (of_program Fill) text).held bare) refl
value_turn name (of_program StartMemory) text file bare =
    rw (bare_word (rules Sources) idle 1 file (pending_walk (of_program StartMemory) text).held bare, bare_fault (leaf Sources name) idle file (pending_walk (of_program StartMemory) text).held bare) refl
value_turn name (of_place Locate Code) text file bare =
    rw (bare_word (rules Located) idle 1 file (pending_walk (of_place Locate Code) text).held bare, bare_fault (leaf Located name) idle file (pending_walk (of_place Locate Code) text).held bare) refl
value_turn name (of_place Hex Code) text file bare =
    rw (bare_word (rules Placed) idle 1 file (pending_walk (of_place Hex Code) text).held bare, bare_fault (leaf Placed name) idle file (pending_walk (of_place Hex Code) text).held bare) refl
value_turn name (of_place Listing Code) text file bare =
    rw (bare_word (rules Listed) idle 1 file (pending_walk (of_place Listing Code) text).held bare, bare_fault (leaf Listed name) idle file (pending_walk (of_place Listing Code) text).held bare) refl
value_turn name (of_place Symbols Code) text file bare =
    rw (bare_word (rules Listed) idle 1 file (pending_walk (of_place Symbols Code) text).held bare, bare_fault (leaf Listed name) idle file (pending_walk (of_place Symbols Code) text).held bare) refl
value_turn name (of_place Locate DataBase) text file bare =
    rw (bare_word (rules Located) idle 1 file (pending_walk (of_place Locate DataBase) text).held bare, bare_fault (leaf Located name) idle file (pending_walk (of_place Locate DataBase) text).held bare) refl
value_turn name (of_place Hex DataBase) text file bare =
    rw (bare_word (rules Placed) idle 1 file (pending_walk (of_place Hex DataBase) text).held bare, bare_fault (leaf Placed name) idle file (pending_walk (of_place Hex DataBase) text).held bare) refl
value_turn name (of_place Listing DataBase) text file bare =
    rw (bare_word (rules Listed) idle 1 file (pending_walk (of_place Listing DataBase) text).held bare, bare_fault (leaf Listed name) idle file (pending_walk (of_place Listing DataBase) text).held bare) refl
value_turn name (of_place Symbols DataBase) text file bare =
    rw (bare_word (rules Listed) idle 1 file (pending_walk (of_place Symbols DataBase) text).held bare, bare_fault (leaf Listed name) idle file (pending_walk (of_place Symbols DataBase) text).held bare) refl
value_turn name (of_place Locate Stack) text file bare =
    rw (bare_word (rules Located) idle 1 file (pending_walk (of_place Locate Stack) text).held bare, bare_fault (leaf Located name) idle file (pending_walk (of_place Locate Stack) text).held bare) refl
value_turn name (of_place Hex Stack) text file bare =
    rw (bare_word (rules Placed) idle 1 file (pending_walk (of_place Hex Stack) text).held bare, bare_fault (leaf Placed name) idle file (pending_walk (of_place Hex Stack) text).held bare) refl
value_turn name (of_place Listing Stack) text file bare =
    rw (bare_word (rules Listed) idle 1 file (pending_walk (of_place Listing Stack) text).held bare, bare_fault (leaf Listed name) idle file (pending_walk (of_place Listing Stack) text).held bare) refl
value_turn name (of_place Symbols Stack) text file bare =
    rw (bare_word (rules Listed) idle 1 file (pending_walk (of_place Symbols Stack) text).held bare, bare_fault (leaf Listed name) idle file (pending_walk (of_place Symbols Stack) text).held bare) refl
value_turn name (of_place Locate StackSize) text file bare =
    rw (bare_word (rules Located) idle 1 file (pending_walk (of_place Locate StackSize) text).held bare, bare_fault (leaf Located name) idle file (pending_walk (of_place Locate StackSize) text).held bare) refl
value_turn name (of_place Hex StackSize) text file bare =
    rw (bare_word (rules Placed) idle 1 file (pending_walk (of_place Hex StackSize) text).held bare, bare_fault (leaf Placed name) idle file (pending_walk (of_place Hex StackSize) text).held bare) refl
value_turn name (of_place Listing StackSize) text file bare =
    rw (bare_word (rules Listed) idle 1 file (pending_walk (of_place Listing StackSize) text).held bare, bare_fault (leaf Listed name) idle file (pending_walk (of_place Listing StackSize) text).held bare) refl
value_turn name (of_place Symbols StackSize) text file bare =
    rw (bare_word (rules Listed) idle 1 file (pending_walk (of_place Symbols StackSize) text).held bare, bare_fault (leaf Listed name) idle file (pending_walk (of_place Symbols StackSize) text).held bare) refl
value_turn name out text file bare =
    rw (bare_word (rules Objects) idle 1 file (pending_walk out text).held bare, bare_fault (leaf Objects name) idle file (pending_walk out text).held bare) refl
value_turn name jump text file bare =
    rw (bare_word (rules Placed) idle 1 file (pending_walk jump text).held bare, bare_fault (leaf Placed name) idle file (pending_walk jump text).held bare) refl
value_turn name (of_execute (OfPlan Code)) text file bare =
    rw (bare_word (rules Executed) idle 1 file (pending_walk (of_execute (OfPlan Code)) text).held bare, bare_fault (leaf Executed name) idle file (pending_walk (of_execute (OfPlan Code)) text).held bare) refl
value_turn name (of_execute (OfPlan DataBase)) text file bare =
    rw (bare_word (rules Executed) idle 1 file (pending_walk (of_execute (OfPlan DataBase)) text).held bare, bare_fault (leaf Executed name) idle file (pending_walk (of_execute (OfPlan DataBase)) text).held bare) refl
value_turn name (of_execute (OfPlan Stack)) text file bare =
    rw (bare_word (rules Executed) idle 1 file (pending_walk (of_execute (OfPlan Stack)) text).held bare, bare_fault (leaf Executed name) idle file (pending_walk (of_execute (OfPlan Stack)) text).held bare) refl
value_turn name (of_execute (OfPlan StackSize)) text file bare =
    rw (bare_word (rules Executed) idle 1 file (pending_walk (of_execute (OfPlan StackSize)) text).held bare, bare_fault (leaf Executed name) idle file (pending_walk (of_execute (OfPlan StackSize)) text).held bare) refl
value_turn name (of_execute Limit) text file bare =
    rw (bare_word (rules Executed) idle 1 file (pending_walk (of_execute Limit) text).held bare, bare_fault (leaf Executed name) idle file (pending_walk (of_execute Limit) text).held bare) refl
value_turn name (of_execute Input) text file bare =
    rw (bare_word (rules Executed) idle 1 file (pending_walk (of_execute Input) text).held bare, bare_fault (leaf Executed name) idle file (pending_walk (of_execute Input) text).held bare) refl
value_turn name (of_execute InputFile) text file bare =
    rw (bare_word (rules Executed) idle 1 file (pending_walk (of_execute InputFile) text).held bare, bare_fault (leaf Executed name) idle file (pending_walk (of_execute InputFile) text).held bare) refl
value_turn name (of_execute OutputFile) text file bare =
    rw (bare_word (rules Executed) idle 1 file (pending_walk (of_execute OutputFile) text).held bare, bare_fault (leaf Executed name) idle file (pending_walk (of_execute OutputFile) text).held bare) refl
value_turn name (of_execute Fill) text file bare =
    rw (bare_word (rules Executed) idle 1 file (pending_walk (of_execute Fill) text).held bare, bare_fault (leaf Executed name) idle file (pending_walk (of_execute Fill) text).held bare) refl
value_turn name (of_execute StartMemory) text file bare =
    rw (bare_word (rules Executed) idle 1 file (pending_walk (of_execute StartMemory) text).held bare, bare_fault (leaf Executed name) idle file (pending_walk (of_execute StartMemory) text).held bare) refl

no_file_in : (o : Choice) (text : Text) → has_row (codes "FILES") (option_row o text ∷ []) ≡ false
no_file_in (of_program (OfPlan Code)) text = refl
no_file_in (of_program (OfPlan DataBase)) text = refl
no_file_in (of_program (OfPlan Stack)) text = refl
no_file_in (of_program (OfPlan StackSize)) text = refl
no_file_in (of_program Limit) text = refl
no_file_in (of_program Input) text = refl
no_file_in (of_program InputFile) text = refl
no_file_in (of_program OutputFile) text = refl
no_file_in (of_program Fill) text = refl
no_file_in (of_program StartMemory) text = refl
no_file_in (of_place Locate Code) text = refl
no_file_in (of_place Hex Code) text = refl
no_file_in (of_place Listing Code) text = refl
no_file_in (of_place Symbols Code) text = refl
no_file_in (of_place Locate DataBase) text = refl
no_file_in (of_place Hex DataBase) text = refl
no_file_in (of_place Listing DataBase) text = refl
no_file_in (of_place Symbols DataBase) text = refl
no_file_in (of_place Locate Stack) text = refl
no_file_in (of_place Hex Stack) text = refl
no_file_in (of_place Listing Stack) text = refl
no_file_in (of_place Symbols Stack) text = refl
no_file_in (of_place Locate StackSize) text = refl
no_file_in (of_place Hex StackSize) text = refl
no_file_in (of_place Listing StackSize) text = refl
no_file_in (of_place Symbols StackSize) text = refl
no_file_in out text = refl
no_file_in jump text = refl
no_file_in (of_execute (OfPlan Code)) text = refl
no_file_in (of_execute (OfPlan DataBase)) text = refl
no_file_in (of_execute (OfPlan Stack)) text = refl
no_file_in (of_execute (OfPlan StackSize)) text = refl
no_file_in (of_execute Limit) text = refl
no_file_in (of_execute Input) text = refl
no_file_in (of_execute InputFile) text = refl
no_file_in (of_execute OutputFile) text = refl
no_file_in (of_execute Fill) text = refl
no_file_in (of_execute StartMemory) text = refl

pub option_begins : (name : Text) (o : Choice) (text : Text) → IsBare text
    → Begins (form_at o) name (option_words (name_at o) text) (option_row o text ∷ [])
option_begins name o text fits = record {
  no_file = no_file_in o text;
  goes_to =
      λ file bare rest. then_walk (form_at o) (found_walk []) (waiting_walk o) (45 ∷ 45 ∷ name_at o)
      (text ∷ file ∷ rest) (option_step o)
      ∙ then_walk (form_at o) (waiting_walk o) (pending_walk o text) text (file ∷ rest)
      (text_step o text fits)
      ∙ then_walk (form_at o) (pending_walk o text) (state (option_row o text ∷ []) [] file) file rest
      (value_step o text file bare);
  goes_well =
      λ file bare rest. then_fault (form_at o) name (found_walk []) (waiting_walk o) (45 ∷ 45 ∷ name_at o)
      (text ∷ file ∷ rest) (option_turn name o) (option_step o)
      ∙ then_fault (form_at o) name (waiting_walk o) (pending_walk o text) text (file ∷ rest)
      (text_turn name o text fits) (text_step o text fits)
      ∙ then_fault (form_at o) name (pending_walk o text) (state (option_row o text ∷ []) [] file) file rest
      (value_turn name o text file bare) (value_step o text file bare);
}

-- where the walk over such words ends
pub record Ends (s : Shape) (words : List Text) (rows : List Row) : Type 0 where
  pub held : Held
  pub fine : walk_fault s [] (walk_from nothing_held) words ≡ []
  pub is : (walk s.rules [] nothing_held words).held ≡ held
  pub settle : settle_fault s.rules false held ≡ []
  pub settles : (settled s.rules held).rows ≡ rows

settle_by : (form : Form) (before : List Row) (done : List Text) (last : Text)
    → settle_fault (rules form) false (state before done last).held ≡ []
settle_by Sources before done last = refl
settle_by Objects before done last = refl
settle_by Placed before done last = refl
settle_by Listed before done last = refl
settle_by Located before done last = refl
settle_by Executed before done last = refl

settles_by : (form : Form) (before : List Row) (done : List Text) (last : Text) → has_row (codes "FILES") before ≡ false
    → (settled (rules form) (state before done last).held).rows ≡ before ++ files_rows (done ++ last ∷ [])
settles_by Sources before done last none = rows_more before done last none
settles_by Objects before done last none = rows_more before done last none
settles_by Placed before done last none = rows_more before done last none
settles_by Listed before done last none = rows_more before done last none
settles_by Located before done last none = rows_more before done last none
settles_by Executed before done last none = rows_more before done last none

pub ends_by : (form : Form) (name : Text) (first : List Text) (before : List Row)
    → Begins form name first before → (file : Text) (files : List Text) → IsBare file
    → AllByRecursion IsBare files → Ends (leaf form name) (first ++ file ∷ files)
    (before ++ files_row (file ∷ files) ∷ [])
ends_by form name first before b file files bare others = record {
  held = (state before (done_of [] file files) (last_of file files)).held;
  fine = b.goes_well file bare files ∙ files_fault form name before b.no_file [] file files others;
  is = ap (λ (w : Walk). w.held)
      (b.goes_to file bare files ∙ files_walk form before b.no_file [] file files others);
  settle = settle_by form before (done_of [] file files) (last_of file files);
  settles = settles_by form before (done_of [] file files) (last_of file files) b.no_file ∙ ap (λ (fs : List Text). before ++ files_rows fs) (all_done [] file files);
}
