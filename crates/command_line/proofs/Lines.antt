-- Words of one option at most, after a command: they have no fault, and give what is wanted.
use Rattle.command_line.proofs.{Prelude.{◌≡◌, ◌∙◌, List, [], ◌∷◌, ◌++◌, Some, true, false, refl, ap, codes, fold, Row, Text, nothing_held, rows_after, with_default, check_fault, defaults_fault, level_fault, Action, PlaceAction, Locate, Hex, Code, DataBase, Input, InputFile, OutputFile, Limit, OfPlan, PlanOption, Stack, StackSize, ValueOption, usual_execute, wants_execute, with_execute_text, Wanted, option_words, plan_option_name, option_name, usual, usual_place, usual_plan, wants_link, wants_need, wants_place, wants_program, with_plan_text, with_text, Fill, StartMemory, Listing, Symbols, Count, UntilDry, WatchOption, Where, watching}, Files.{files_row, level_of, rows_of_level}, Begins.{Ends, execute_watch_flag, flag_word, jump, map_flag, need_flag, of_execute, of_place, of_program, option_row, out, rows_of_flag, watch_flag}, Verbs.{Executed, Located, Objects, Placed, Sources, Verb, execute, form_of, leaf, leaf_of, link, name_of, place, program, rules_of, wanted_of}}

-- such words have no fault, and give what is wanted
pub record Line (verb : Verb) (words : List Text) (wanted : Wanted) : Type 0 where
  pub level : level_fault (leaf_of verb) [] nothing_held words false [] ≡ []
  pub gives : wanted_of verb (rows_after (rules_of verb) [] words) ≡ wanted

pub line_of : (verb : Verb) (words : List Text) (rows : List Row) (wanted : Wanted)
    (e : Ends (leaf_of verb) words rows) → defaults_fault rows (rules_of verb) ≡ []
    → check_fault (leaf_of verb) (fold with_default rows (rules_of verb)) false ≡ []
    → wanted_of verb (fold with_default rows (rules_of verb)) ≡ wanted → Line verb words wanted
line_of verb words rows wanted e defaults check gives = record {
  level = level_of (leaf_of verb) words e.held rows e.fine e.is e.settle e.settles defaults check;
  gives = ap (wanted_of verb) (rows_of_level (rules_of verb) words e.held rows e.is e.settles) ∙ gives;
}

pub plain_line : (action : Action) (file : Text) (files : List Text)
    → Ends (leaf Sources (name_of (program action))) (file ∷ files) (files_row (file ∷ files) ∷ [])
    → Line (program action) (file ∷ files) (wants_program (usual action (file ∷ files)))
unfolding defaults_fault
plain_line action file files e =
    line_of (program action) (file ∷ files) (files_row (file ∷ files) ∷ [])
    (wants_program (usual action (file ∷ files))) e refl refl refl

pub map_line : (action : Action) (file : Text) (files : List Text) → Ends (leaf Sources (name_of (program action))) (codes "--map" ∷ file ∷ files) (rows_of_flag map_flag ++ files_row (file ∷ files) ∷ [])
    → Line (program action) (codes "--map" ∷ file ∷ files) (wants_program (record (usual action (file ∷ files)) { map = true }))
unfolding defaults_fault
map_line action file files e =
    line_of (program action) (codes "--map" ∷ file ∷ files) (rows_of_flag map_flag ++ files_row (file ∷ files) ∷ []) (wants_program (record (usual action (file ∷ files)) { map = true })) e refl refl refl

pub watch_line : (action : Action) (o : WatchOption) (file : Text) (files : List Text)
    → Ends (leaf Sources (name_of (program action))) (flag_word (watch_flag o) ∷ file ∷ files)
    (rows_of_flag (watch_flag o) ++ files_row (file ∷ files) ∷ [])
    → Line (program action) (flag_word (watch_flag o) ∷ file ∷ files)
    (wants_program (record (usual action (file ∷ files)) { watch = watching o }))
unfolding defaults_fault
watch_line action Count file files e =
    line_of (program action) (flag_word (watch_flag Count) ∷ file ∷ files)
    (rows_of_flag (watch_flag Count) ++ files_row (file ∷ files) ∷ [])
    (wants_program (record (usual action (file ∷ files)) { watch = watching Count })) e refl refl refl
watch_line action UntilDry file files e =
    line_of (program action) (flag_word (watch_flag UntilDry) ∷ file ∷ files)
    (rows_of_flag (watch_flag UntilDry) ++ files_row (file ∷ files) ∷ [])
    (wants_program (record (usual action (file ∷ files)) { watch = watching UntilDry })) e refl refl refl
watch_line action Where file files e =
    line_of (program action) (flag_word (watch_flag Where) ∷ file ∷ files)
    (rows_of_flag (watch_flag Where) ++ files_row (file ∷ files) ∷ [])
    (wants_program (record (usual action (file ∷ files)) { watch = watching Where })) e refl refl refl

pub option_line : (action : Action) (o : ValueOption) (text file : Text) (files : List Text)
    → Ends (leaf Sources (name_of (program action))) (option_words (option_name o) text ++ file ∷ files)
    (option_row (of_program o) text ∷ files_row (file ∷ files) ∷ [])
    → Line (program action) (option_words (option_name o) text ++ file ∷ files)
    (wants_program (with_text o text (usual action (file ∷ files))))
unfolding defaults_fault
option_line action (OfPlan Code) text file files e =
    line_of (program action) (option_words (option_name (OfPlan Code)) text ++ file ∷ files)
    (option_row (of_program (OfPlan Code)) text ∷ files_row (file ∷ files) ∷ [])
    (wants_program (with_text (OfPlan Code) text (usual action (file ∷ files)))) e refl refl refl
option_line action (OfPlan DataBase) text file files e =
    line_of (program action) (option_words (option_name (OfPlan DataBase)) text ++ file ∷ files)
    (option_row (of_program (OfPlan DataBase)) text ∷ files_row (file ∷ files) ∷ [])
    (wants_program (with_text (OfPlan DataBase) text (usual action (file ∷ files)))) e refl refl refl
option_line action (OfPlan Stack) text file files e =
    line_of (program action) (option_words (option_name (OfPlan Stack)) text ++ file ∷ files)
    (option_row (of_program (OfPlan Stack)) text ∷ files_row (file ∷ files) ∷ [])
    (wants_program (with_text (OfPlan Stack) text (usual action (file ∷ files)))) e refl refl refl
option_line action (OfPlan StackSize) text file files e =
    line_of (program action) (option_words (option_name (OfPlan StackSize)) text ++ file ∷ files)
    (option_row (of_program (OfPlan StackSize)) text ∷ files_row (file ∷ files) ∷ [])
    (wants_program (with_text (OfPlan StackSize) text (usual action (file ∷ files)))) e refl refl refl
option_line action Limit text file files e =
    line_of (program action) (option_words (option_name Limit) text ++ file ∷ files)
    (option_row (of_program Limit) text ∷ files_row (file ∷ files) ∷ [])
    (wants_program (with_text Limit text (usual action (file ∷ files)))) e refl refl refl
option_line action Input text file files e =
    line_of (program action) (option_words (option_name Input) text ++ file ∷ files)
    (option_row (of_program Input) text ∷ files_row (file ∷ files) ∷ [])
    (wants_program (with_text Input text (usual action (file ∷ files)))) e refl refl refl
option_line action InputFile text file files e =
    line_of (program action) (option_words (option_name InputFile) text ++ file ∷ files)
    (option_row (of_program InputFile) text ∷ files_row (file ∷ files) ∷ [])
    (wants_program (with_text InputFile text (usual action (file ∷ files)))) e refl refl refl
option_line action OutputFile text file files e =
    line_of (program action) (option_words (option_name OutputFile) text ++ file ∷ files)
    (option_row (of_program OutputFile) text ∷ files_row (file ∷ files) ∷ [])
    (wants_program (with_text OutputFile text (usual action (file ∷ files)))) e refl refl refl
option_line action Fill text file files e =
    line_of (program action) (option_words (option_name Fill) text ++ file ∷ files)
    (option_row (of_program Fill) text ∷ files_row (file ∷ files) ∷ [])
    (wants_program (with_text Fill text (usual action (file ∷ files)))) e refl refl refl
option_line action StartMemory text file files e =
    line_of (program action) (option_words (option_name StartMemory) text ++ file ∷ files)
    (option_row (of_program StartMemory) text ∷ files_row (file ∷ files) ∷ [])
    (wants_program (with_text StartMemory text (usual action (file ∷ files)))) e refl refl refl

pub link_line : (name file : Text) (files : List Text) → Ends (leaf Objects (codes "link")) (option_words (codes "out") name ++ file ∷ files) (option_row out name ∷ files_row (file ∷ files) ∷ [])
    → Line link (option_words (codes "out") name ++ file ∷ files) (wants_link (record { out = name; objects = file ∷ files }))
unfolding defaults_fault
link_line name file files e =
    line_of link (option_words (codes "out") name ++ file ∷ files) (option_row out name ∷ files_row (file ∷ files) ∷ []) (wants_link (record { out = name; objects = file ∷ files })) e refl refl refl

pub jump_line : (text file : Text) (files : List Text) → Ends (leaf Placed (codes "hex")) (option_words (codes "jump") text ++ file ∷ files) (option_row jump text ∷ files_row (file ∷ files) ∷ [])
    → Line (place Hex) (option_words (codes "jump") text ++ file ∷ files) (wants_place (record (usual_place Hex (file ∷ files)) { jump = Some text }))
unfolding defaults_fault
jump_line text file files e =
    line_of (place Hex) (option_words (codes "jump") text ++ file ∷ files) (option_row jump text ∷ files_row (file ∷ files) ∷ [])
    (wants_place (record (usual_place Hex (file ∷ files)) { jump = Some text })) e refl refl refl

pub need_line : (file : Text) (files : List Text)
    → Ends (leaf Located (codes "locate")) (codes "--need" ∷ file ∷ files) (rows_of_flag need_flag ++ files_row (file ∷ files) ∷ [])
    → Line (place Locate) (codes "--need" ∷ file ∷ files) (wants_need (record { files = file ∷ files; plan = usual_plan }))
unfolding defaults_fault
need_line file files e =
    line_of (place Locate) (codes "--need" ∷ file ∷ files) (rows_of_flag need_flag ++ files_row (file ∷ files) ∷ []) (wants_need (record { files = file ∷ files; plan = usual_plan })) e refl refl refl

pub place_line : (action : PlaceAction) (file : Text) (files : List Text)
    → Ends (leaf (form_of action) (name_of (place action))) (file ∷ files) (files_row (file ∷ files) ∷ [])
    → Line (place action) (file ∷ files) (wants_place (usual_place action (file ∷ files)))
unfolding defaults_fault
place_line Locate file files e =
    line_of (place Locate) (file ∷ files) (files_row (file ∷ files) ∷ [])
    (wants_place (usual_place Locate (file ∷ files))) e refl refl refl
place_line Hex file files e =
    line_of (place Hex) (file ∷ files) (files_row (file ∷ files) ∷ [])
    (wants_place (usual_place Hex (file ∷ files))) e refl refl refl
place_line Listing file files e =
    line_of (place Listing) (file ∷ files) (files_row (file ∷ files) ∷ [])
    (wants_place (usual_place Listing (file ∷ files))) e refl refl refl
place_line Symbols file files e =
    line_of (place Symbols) (file ∷ files) (files_row (file ∷ files) ∷ [])
    (wants_place (usual_place Symbols (file ∷ files))) e refl refl refl

pub place_option_line : (action : PlaceAction) (o : PlanOption) (text file : Text) (files : List Text)
    → Ends (leaf (form_of action) (name_of (place action)))
    (option_words (plan_option_name o) text ++ file ∷ files)
    (option_row (of_place action o) text ∷ files_row (file ∷ files) ∷ [])
    → Line (place action) (option_words (plan_option_name o) text ++ file ∷ files)
    (wants_place (record (usual_place action (file ∷ files)) { plan = with_plan_text o text usual_plan }))
unfolding defaults_fault
place_option_line Locate Code text file files e =
    line_of (place Locate) (option_words (plan_option_name Code) text ++ file ∷ files)
    (option_row (of_place Locate Code) text ∷ files_row (file ∷ files) ∷ [])
    (wants_place (record (usual_place Locate (file ∷ files)) { plan = with_plan_text Code text usual_plan }))
    e refl refl refl
place_option_line Hex Code text file files e =
    line_of (place Hex) (option_words (plan_option_name Code) text ++ file ∷ files)
    (option_row (of_place Hex Code) text ∷ files_row (file ∷ files) ∷ [])
    (wants_place (record (usual_place Hex (file ∷ files)) { plan = with_plan_text Code text usual_plan })) e
    refl refl refl
place_option_line Listing Code text file files e =
    line_of (place Listing) (option_words (plan_option_name Code) text ++ file ∷ files)
    (option_row (of_place Listing Code) text ∷ files_row (file ∷ files) ∷ [])
    (wants_place (record (usual_place Listing (file ∷ files)) { plan = with_plan_text Code text usual_plan }))
    e refl refl refl
place_option_line Symbols Code text file files e =
    line_of (place Symbols) (option_words (plan_option_name Code) text ++ file ∷ files)
    (option_row (of_place Symbols Code) text ∷ files_row (file ∷ files) ∷ [])
    (wants_place (record (usual_place Symbols (file ∷ files)) { plan = with_plan_text Code text usual_plan }))
    e refl refl refl
place_option_line Locate DataBase text file files e =
    line_of (place Locate) (option_words (plan_option_name DataBase) text ++ file ∷ files)
    (option_row (of_place Locate DataBase) text ∷ files_row (file ∷ files) ∷ [])
    (wants_place (record (usual_place Locate
    (file ∷ files)) { plan = with_plan_text DataBase text usual_plan })) e refl refl refl
place_option_line Hex DataBase text file files e =
    line_of (place Hex) (option_words (plan_option_name DataBase) text ++ file ∷ files)
    (option_row (of_place Hex DataBase) text ∷ files_row (file ∷ files) ∷ [])
    (wants_place (record (usual_place Hex (file ∷ files)) { plan = with_plan_text DataBase text usual_plan }))
    e refl refl refl
place_option_line Listing DataBase text file files e =
    line_of (place Listing) (option_words (plan_option_name DataBase) text ++ file ∷ files)
    (option_row (of_place Listing DataBase) text ∷ files_row (file ∷ files) ∷ [])
    (wants_place (record (usual_place Listing
    (file ∷ files)) { plan = with_plan_text DataBase text usual_plan })) e refl refl refl
place_option_line Symbols DataBase text file files e =
    line_of (place Symbols) (option_words (plan_option_name DataBase) text ++ file ∷ files)
    (option_row (of_place Symbols DataBase) text ∷ files_row (file ∷ files) ∷ [])
    (wants_place (record (usual_place Symbols
    (file ∷ files)) { plan = with_plan_text DataBase text usual_plan })) e refl refl refl
place_option_line Locate Stack text file files e =
    line_of (place Locate) (option_words (plan_option_name Stack) text ++ file ∷ files)
    (option_row (of_place Locate Stack) text ∷ files_row (file ∷ files) ∷ [])
    (wants_place (record (usual_place Locate (file ∷ files)) { plan = with_plan_text Stack text usual_plan }))
    e refl refl refl
place_option_line Hex Stack text file files e =
    line_of (place Hex) (option_words (plan_option_name Stack) text ++ file ∷ files)
    (option_row (of_place Hex Stack) text ∷ files_row (file ∷ files) ∷ [])
    (wants_place (record (usual_place Hex (file ∷ files)) { plan = with_plan_text Stack text usual_plan })) e
    refl refl refl
place_option_line Listing Stack text file files e =
    line_of (place Listing) (option_words (plan_option_name Stack) text ++ file ∷ files)
    (option_row (of_place Listing Stack) text ∷ files_row (file ∷ files) ∷ [])
    (wants_place (record (usual_place Listing
    (file ∷ files)) { plan = with_plan_text Stack text usual_plan })) e refl refl refl
place_option_line Symbols Stack text file files e =
    line_of (place Symbols) (option_words (plan_option_name Stack) text ++ file ∷ files)
    (option_row (of_place Symbols Stack) text ∷ files_row (file ∷ files) ∷ [])
    (wants_place (record (usual_place Symbols
    (file ∷ files)) { plan = with_plan_text Stack text usual_plan })) e refl refl refl
place_option_line Locate StackSize text file files e =
    line_of (place Locate) (option_words (plan_option_name StackSize) text ++ file ∷ files)
    (option_row (of_place Locate StackSize) text ∷ files_row (file ∷ files) ∷ [])
    (wants_place (record (usual_place Locate
    (file ∷ files)) { plan = with_plan_text StackSize text usual_plan })) e refl refl refl
place_option_line Hex StackSize text file files e =
    line_of (place Hex) (option_words (plan_option_name StackSize) text ++ file ∷ files)
    (option_row (of_place Hex StackSize) text ∷ files_row (file ∷ files) ∷ [])
    (wants_place (record (usual_place Hex
    (file ∷ files)) { plan = with_plan_text StackSize text usual_plan })) e refl refl refl
place_option_line Listing StackSize text file files e =
    line_of (place Listing) (option_words (plan_option_name StackSize) text ++ file ∷ files)
    (option_row (of_place Listing StackSize) text ∷ files_row (file ∷ files) ∷ [])
    (wants_place (record (usual_place Listing
    (file ∷ files)) { plan = with_plan_text StackSize text usual_plan })) e refl refl refl
place_option_line Symbols StackSize text file files e =
    line_of (place Symbols) (option_words (plan_option_name StackSize) text ++ file ∷ files)
    (option_row (of_place Symbols StackSize) text ∷ files_row (file ∷ files) ∷ [])
    (wants_place (record (usual_place Symbols
    (file ∷ files)) { plan = with_plan_text StackSize text usual_plan })) e refl refl refl

pub execute_line : (file : Text) (files : List Text) → Ends (leaf Executed (codes "execute")) (file ∷ files) (files_row (file ∷ files) ∷ [])
    → Line execute (file ∷ files) (wants_execute (usual_execute (file ∷ files)))
unfolding defaults_fault
execute_line file files e =
    line_of execute (file ∷ files) (files_row (file ∷ files) ∷ [])
    (wants_execute (usual_execute (file ∷ files))) e refl refl refl

pub execute_watch_line : (o : WatchOption) (file : Text) (files : List Text) → Ends (leaf Executed (codes "execute")) (flag_word (execute_watch_flag o) ∷ file ∷ files) (rows_of_flag (execute_watch_flag o) ++ files_row (file ∷ files) ∷ [])
    → Line execute (flag_word (execute_watch_flag o) ∷ file ∷ files)
    (wants_execute (record (usual_execute (file ∷ files)) { watch = watching o }))
unfolding defaults_fault
execute_watch_line Count file files e =
    line_of execute (flag_word (execute_watch_flag Count) ∷ file ∷ files)
    (rows_of_flag (execute_watch_flag Count) ++ files_row (file ∷ files) ∷ [])
    (wants_execute (record (usual_execute (file ∷ files)) { watch = watching Count })) e refl refl refl
execute_watch_line UntilDry file files e =
    line_of execute (flag_word (execute_watch_flag UntilDry) ∷ file ∷ files)
    (rows_of_flag (execute_watch_flag UntilDry) ++ files_row (file ∷ files) ∷ [])
    (wants_execute (record (usual_execute (file ∷ files)) { watch = watching UntilDry })) e refl refl refl
execute_watch_line Where file files e =
    line_of execute (flag_word (execute_watch_flag Where) ∷ file ∷ files)
    (rows_of_flag (execute_watch_flag Where) ++ files_row (file ∷ files) ∷ [])
    (wants_execute (record (usual_execute (file ∷ files)) { watch = watching Where })) e refl refl refl

pub execute_option_line : (o : ValueOption) (text file : Text) (files : List Text)
    → Ends (leaf Executed (codes "execute")) (option_words (option_name o) text ++ file ∷ files) (option_row (of_execute o) text ∷ files_row (file ∷ files) ∷ [])
    → Line execute (option_words (option_name o) text ++ file ∷ files)
    (wants_execute (with_execute_text o text (usual_execute (file ∷ files))))
unfolding defaults_fault
execute_option_line (OfPlan Code) text file files e =
    line_of execute (option_words (option_name (OfPlan Code)) text ++ file ∷ files)
    (option_row (of_execute (OfPlan Code)) text ∷ files_row (file ∷ files) ∷ [])
    (wants_execute (with_execute_text (OfPlan Code) text (usual_execute (file ∷ files)))) e refl refl refl
execute_option_line (OfPlan DataBase) text file files e =
    line_of execute (option_words (option_name (OfPlan DataBase)) text ++ file ∷ files)
    (option_row (of_execute (OfPlan DataBase)) text ∷ files_row (file ∷ files) ∷ [])
    (wants_execute (with_execute_text (OfPlan DataBase) text (usual_execute (file ∷ files)))) e refl refl refl
execute_option_line (OfPlan Stack) text file files e =
    line_of execute (option_words (option_name (OfPlan Stack)) text ++ file ∷ files)
    (option_row (of_execute (OfPlan Stack)) text ∷ files_row (file ∷ files) ∷ [])
    (wants_execute (with_execute_text (OfPlan Stack) text (usual_execute (file ∷ files)))) e refl refl refl
execute_option_line (OfPlan StackSize) text file files e =
    line_of execute (option_words (option_name (OfPlan StackSize)) text ++ file ∷ files)
    (option_row (of_execute (OfPlan StackSize)) text ∷ files_row (file ∷ files) ∷ [])
    (wants_execute (with_execute_text (OfPlan StackSize) text (usual_execute (file ∷ files)))) e refl refl
    refl
execute_option_line Limit text file files e =
    line_of execute (option_words (option_name Limit) text ++ file ∷ files)
    (option_row (of_execute Limit) text ∷ files_row (file ∷ files) ∷ [])
    (wants_execute (with_execute_text Limit text (usual_execute (file ∷ files)))) e refl refl refl
execute_option_line Input text file files e =
    line_of execute (option_words (option_name Input) text ++ file ∷ files)
    (option_row (of_execute Input) text ∷ files_row (file ∷ files) ∷ [])
    (wants_execute (with_execute_text Input text (usual_execute (file ∷ files)))) e refl refl refl
execute_option_line InputFile text file files e =
    line_of execute (option_words (option_name InputFile) text ++ file ∷ files)
    (option_row (of_execute InputFile) text ∷ files_row (file ∷ files) ∷ [])
    (wants_execute (with_execute_text InputFile text (usual_execute (file ∷ files)))) e refl refl refl
execute_option_line OutputFile text file files e =
    line_of execute (option_words (option_name OutputFile) text ++ file ∷ files)
    (option_row (of_execute OutputFile) text ∷ files_row (file ∷ files) ∷ [])
    (wants_execute (with_execute_text OutputFile text (usual_execute (file ∷ files)))) e refl refl refl
execute_option_line Fill text file files e =
    line_of execute (option_words (option_name Fill) text ++ file ∷ files)
    (option_row (of_execute Fill) text ∷ files_row (file ∷ files) ∷ [])
    (wants_execute (with_execute_text Fill text (usual_execute (file ∷ files)))) e refl refl refl
execute_option_line StartMemory text file files e =
    line_of execute (option_words (option_name StartMemory) text ++ file ∷ files)
    (option_row (of_execute StartMemory) text ∷ files_row (file ∷ files) ∷ [])
    (wants_execute (with_execute_text StartMemory text (usual_execute (file ∷ files)))) e refl refl refl
