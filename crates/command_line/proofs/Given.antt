-- Command lines of one option at most: they have no fault, and give what is wanted.
use Rattle.command_line.proofs.{Prelude.{◌≡◌, ◌∙◌, List, [], ◌∷◌, ◌++◌, Some, Ok, Err, codes, sym, arith, Bool, true, HasKind, Text, fault_of, Error, Failure, Action, Order, PlaceAction, Hex, Locate, LineFault, IsFailureFor, Gives, IsBare, Orders, OrdersCompile, OrdersConvert, OrdersExecute, OrdersExecuteText, OrdersExplain, OrdersFiles, OrdersJump, OrdersLink, OrdersMap, OrdersNeed, OrdersPlace, OrdersPlaceText, OrdersText, PlanOption, ValueOption, usual_execute, wants_execute, with_execute_text, Wanted, name_of_action, name_of_place_action, option_name, option_words, plan_option_name, plm_app, usual, usual_convert, usual_place, usual_plan, medium_words, wanted_by, wanted_in, wants_compile, wants_convert, wants_explain, wants_link, wants_need, wants_place, wants_program, with_plan_text, with_text, OrdersExecuteWatch, OrdersWatch, WatchOption, watching}, Begins.{ends_by, flag_begins, jump, map_flag, need_flag, of_execute, of_place, of_program, option_begins, option_row, out, plain_begins, rows_of_flag, execute_watch_flag, flag_word, watch_flag}, Lines.{Line, execute_line, execute_option_line, jump_line, link_line, map_line, need_line, option_line, place_line, place_option_line, plain_line, execute_watch_line, watch_line}, Verbs.{Executed, Located, Objects, Placed, Sources, Verb, compile, convert, execute, explain, form_of, link, name_of, place, program}, Compiles.{compile_line}, Explains.{explain_line}, Converts.{convert_line}, CommandLemmas.{only_memory}, PlmWords.{line_fine, line_wanted}}

-- the words have no fault, and give this
record Wants (words : List Text) (wanted : Wanted) : Type 0 where
  fine : fault_of plm_app words ≡ []
  gives : wanted_by words ≡ Some wanted

wants_by : (words rest : List Text) (name : Text) (verb : Verb) (wanted : Wanted)
    → words ≡ name ∷ name_of verb ∷ rest → Line verb rest wanted → Wants words wanted
wants_by words rest name verb wanted e line =
    rw e (record { fine = line_fine name verb rest line.level; gives = line_wanted name verb rest wanted line.gives })

files_wanted : (words : List Text) (name : Text) (action : Action) (files : List Text)
    → Gives words name (name_of_action action) [] files → Wants words (wants_program (usual action files))
files_wanted words name action [] g = absurd (let none = g.some in omega arith)
files_wanted words name action (file ∷ files) g =
    wants_by words (file ∷ files) name (program action)
    (wants_program (usual action (file ∷ files))) g.words_are
    (plain_line action file files
    (ends_by Sources (name_of (program action)) [] [] (plain_begins Sources (name_of (program action))) file
    files g.bare.0 g.bare.1))

map_wanted : (words : List Text) (name : Text) (action : Action) (files : List Text)
    → Gives words name (name_of_action action) (codes "--map" ∷ []) files → Wants words (wants_program (record (usual action files) { map = true }))
map_wanted words name action [] g = absurd (let none = g.some in omega arith)
map_wanted words name action (file ∷ files) g =
    wants_by words (codes "--map" ∷ file ∷ files) name (program action) (wants_program (record (usual action (file ∷ files)) { map = true })) g.words_are
    (map_line action file files
    (ends_by Sources (name_of (program action)) (codes "--map" ∷ []) (rows_of_flag map_flag) (flag_begins (name_of (program action)) map_flag) file files g.bare.0 g.bare.1))

watch_wanted : (words : List Text) (name : Text) (action : Action) (files : List Text) (option : WatchOption)
    → Gives words name (name_of_action action) (flag_word (watch_flag option) ∷ []) files
    → Wants words (wants_program (record (usual action files) { watch = watching option }))
watch_wanted words name action [] option g = absurd (let none = g.some in omega arith)
watch_wanted words name action (file ∷ files) option g =
    wants_by words (flag_word (watch_flag option) ∷ file ∷ files) name (program action)
    (wants_program (record (usual action (file ∷ files)) { watch = watching option })) g.words_are
    (watch_line action option file files
    (ends_by Sources (name_of (program action)) (flag_word (watch_flag option) ∷ [])
    (rows_of_flag (watch_flag option)) (flag_begins (name_of (program action)) (watch_flag option)) file
    files g.bare.0 g.bare.1))

text_wanted : (words : List Text) (name : Text) (action : Action) (files : List Text) (option : ValueOption)
    (text : Text) → IsBare text
    → Gives words name (name_of_action action) (option_words (option_name option) text) files
    → Wants words (wants_program (with_text option text (usual action files)))
text_wanted words name action [] option text bare g = absurd (let none = g.some in omega arith)
text_wanted words name action (file ∷ files) option text bare g =
    wants_by words (option_words (option_name option) text ++ file ∷ files) name (program action)
    (wants_program (with_text option text (usual action (file ∷ files)))) g.words_are
    (option_line action option text file files
    (ends_by Sources (name_of (program action)) (option_words (option_name option) text)
    (option_row (of_program option) text ∷ [])
    (option_begins (name_of (program action)) (of_program option) text bare) file
    files g.bare.0 g.bare.1))

compile_wanted : (words : List Text) (name source object : Text) → IsBare source
    → Gives words name (codes "compile") (source ∷ []) (object ∷ []) → Wants words (wants_compile (record { source = source; object = object }))
compile_wanted words name source object bare g =
    wants_by words (source ∷ object ∷ []) name compile
    (wants_compile (record { source = source; object = object })) g.words_are
    (compile_line source object bare g.bare.0)

explain_wanted : (words : List Text) (name number : Text) → Gives words name (codes "explain") [] (number ∷ []) → Wants words (wants_explain (record { number = number }))
explain_wanted words name number g =
    wants_by words (number ∷ []) name explain (wants_explain (record { number = number })) g.words_are
    (explain_line number g.bare.0)

convert_wanted : (words : List Text) (name file : Text) (listing cards : Bool) → Gives words name (codes "convert") (medium_words listing cards) (file ∷ [])
    → Wants words (wants_convert (usual_convert file listing cards))
convert_wanted words name file listing cards g =
    wants_by words (medium_words listing cards ++ file ∷ []) name convert
    (wants_convert (usual_convert file listing cards)) g.words_are
    (convert_line listing cards file g.bare.0)

link_wanted : (words : List Text) (name : Text) (target : Text) (files : List Text) → IsBare target
    → Gives words name (codes "link") (option_words (codes "out") target) files → Wants words (wants_link (record { out = target; objects = files }))
link_wanted words name target [] bare g = absurd (let none = g.some in omega arith)
link_wanted words name target (file ∷ files) bare g =
    wants_by words (option_words (codes "out") target ++ file ∷ files) name (link) (wants_link (record { out = target; objects = (file ∷ files) })) g.words_are
    (link_line target file files
    (ends_by Objects (name_of (link)) (option_words (codes "out") target) (option_row out target ∷ []) (option_begins (name_of (link)) out target bare) file files g.bare.0 g.bare.1))

place_wanted : (words : List Text) (name : Text) (action : PlaceAction) (files : List Text)
    → Gives words name (name_of_place_action action) [] files
    → Wants words (wants_place (usual_place action files))
place_wanted words name action [] g = absurd (let none = g.some in omega arith)
place_wanted words name action (file ∷ files) g =
    wants_by words (file ∷ files) name (place action)
    (wants_place (usual_place action (file ∷ files))) g.words_are
    (place_line action file files
    (ends_by (form_of action) (name_of (place action)) [] []
    (plain_begins (form_of action) (name_of (place action))) file files g.bare.0 g.bare.1))

place_text_wanted : (words : List Text) (name : Text) (action : PlaceAction) (files : List Text)
    (option : PlanOption) (text : Text) → IsBare text
    → Gives words name (name_of_place_action action) (option_words (plan_option_name option) text) files
    → Wants words
    (wants_place (record (usual_place action files) { plan = with_plan_text option text usual_plan }))
place_text_wanted words name action [] option text bare g = absurd (let none = g.some in omega arith)
place_text_wanted words name action (file ∷ files) option text bare g =
    wants_by words (option_words (plan_option_name option) text ++ file ∷ files) name (place action)
    (wants_place (record (usual_place action
    (file ∷ files)) { plan = with_plan_text option text usual_plan })) g.words_are
    (place_option_line action option text file files
    (ends_by (form_of action) (name_of (place action)) (option_words (plan_option_name option) text)
    (option_row (of_place action option) text ∷ [])
    (option_begins (name_of (place action)) (of_place action option) text bare) file
    files g.bare.0 g.bare.1))

jump_wanted : (words : List Text) (name : Text) (files : List Text) (text : Text) → IsBare text
    → Gives words name (codes "hex") (option_words (codes "jump") text) files → Wants words (wants_place (record (usual_place Hex files) { jump = Some text }))
jump_wanted words name [] text bare g = absurd (let none = g.some in omega arith)
jump_wanted words name (file ∷ files) text bare g =
    wants_by words (option_words (codes "jump") text ++ file ∷ files) name (place Hex) (wants_place (record (usual_place Hex (file ∷ files)) { jump = Some text })) g.words_are
    (jump_line text file files
    (ends_by Placed (codes "hex") (option_words (codes "jump") text) (option_row jump text ∷ []) (option_begins (codes "hex") jump text bare) file files g.bare.0 g.bare.1))

need_wanted : (words : List Text) (name : Text) (files : List Text)
    → Gives words name (codes "locate") (codes "--need" ∷ []) files → Wants words (wants_need (record { files = files; plan = usual_plan }))
need_wanted words name [] g = absurd (let none = g.some in omega arith)
need_wanted words name (file ∷ files) g =
    wants_by words (codes "--need" ∷ file ∷ files) name (place Locate) (wants_need (record { files = file ∷ files; plan = usual_plan })) g.words_are
    (need_line file files
    (ends_by Located (codes "locate") (codes "--need" ∷ []) (rows_of_flag need_flag) (flag_begins (codes "locate") need_flag) file files g.bare.0 g.bare.1))

execute_wanted : (words : List Text) (name : Text) (files : List Text)
    → Gives words name (codes "execute") [] files → Wants words (wants_execute (usual_execute files))
execute_wanted words name [] g = absurd (let none = g.some in omega arith)
execute_wanted words name (file ∷ files) g =
    wants_by words (file ∷ files) name execute (wants_execute (usual_execute (file ∷ files))) g.words_are
    (execute_line file files (ends_by Executed (codes "execute") [] [] (plain_begins Executed (codes "execute")) file files g.bare.0 g.bare.1))

execute_text_wanted : (words : List Text) (name : Text) (files : List Text) (option : ValueOption)
    (text : Text) → IsBare text
    → Gives words name (codes "execute") (option_words (option_name option) text) files → Wants words (wants_execute (with_execute_text option text (usual_execute files)))
execute_text_wanted words name [] option text bare g = absurd (let none = g.some in omega arith)
execute_text_wanted words name (file ∷ files) option text bare g =
    wants_by words (option_words (option_name option) text ++ file ∷ files) name execute
    (wants_execute (with_execute_text option text (usual_execute (file ∷ files)))) g.words_are
    (execute_option_line option text file files
    (ends_by Executed (codes "execute") (option_words (option_name option) text) (option_row (of_execute option) text ∷ []) (option_begins (codes "execute") (of_execute option) text bare) file files g.bare.0 g.bare.1))

execute_watch_wanted : (words : List Text) (name : Text) (files : List Text) (option : WatchOption)
    → Gives words name (codes "execute") (flag_word (execute_watch_flag option) ∷ []) files → Wants words (wants_execute (record (usual_execute files) { watch = watching option }))
execute_watch_wanted words name [] option g = absurd (let none = g.some in omega arith)
execute_watch_wanted words name (file ∷ files) option g =
    wants_by words (flag_word (execute_watch_flag option) ∷ file ∷ files) name execute
    (wants_execute (record (usual_execute (file ∷ files)) { watch = watching option })) g.words_are
    (execute_watch_line option file files
    (ends_by Executed (codes "execute") (flag_word (execute_watch_flag option) ∷ []) (rows_of_flag (execute_watch_flag option)) (flag_begins (codes "execute") (execute_watch_flag option)) file files g.bare.0 g.bare.1))

order_is : (words : List Text) (order : Order) (wanted : Wanted) → Orders words order → Wants words wanted
    → wanted_in order ≡ wanted
order_is words order wanted found wants =
    let same : Some (wanted_in order) ≡ Some wanted = sym found ∙ wants.gives in cc

-- an order that the words give is the one that is wanted
pub files_ordered : (words : List Text) (order : Order) → Orders words order → OrdersFiles words (Ok order)
files_ordered words order found =
    λ name action files g. order_is words order (wants_program (usual action files)) found
    (files_wanted words name action files g)

pub map_ordered : (words : List Text) (order : Order) → Orders words order → OrdersMap words (Ok order)
map_ordered words order found =
    λ name action files g. order_is words order (wants_program (record (usual action files) { map = true }))
    found (map_wanted words name action files g)

pub watch_ordered : (words : List Text) (order : Order) → Orders words order → OrdersWatch words (Ok order)
watch_ordered words order found =
    λ name action files option g. order_is words order
    (wants_program (record (usual action files) { watch = watching option })) found
    (watch_wanted words name action files option g)

pub text_ordered : (words : List Text) (order : Order) → Orders words order → OrdersText words (Ok order)
text_ordered words order found =
    λ name action files option text bare g. order_is words order
    (wants_program (with_text option text (usual action files))) found
    (text_wanted words name action files option text bare g)

pub compile_ordered : (words : List Text) (order : Order) → Orders words order
    → OrdersCompile words (Ok order)
compile_ordered words order found =
    λ name source object bare g. order_is words order
    (wants_compile (record { source = source; object = object })) found
    (compile_wanted words name source object bare g)

pub link_ordered : (words : List Text) (order : Order) → Orders words order → OrdersLink words (Ok order)
link_ordered words order found =
    λ name target files bare g. order_is words order (wants_link (record { out = target; objects = files }))
    found (link_wanted words name target files bare g)

pub place_ordered : (words : List Text) (order : Order) → Orders words order → OrdersPlace words (Ok order)
place_ordered words order found =
    λ name action files g. order_is words order (wants_place (usual_place action files)) found
    (place_wanted words name action files g)

pub place_text_ordered : (words : List Text) (order : Order) → Orders words order
    → OrdersPlaceText words (Ok order)
place_text_ordered words order found =
    λ name action files option text bare g. order_is words order
    (wants_place (record (usual_place action files) { plan = with_plan_text option text usual_plan })) found
    (place_text_wanted words name action files option text bare g)

pub jump_ordered : (words : List Text) (order : Order) → Orders words order → OrdersJump words (Ok order)
jump_ordered words order found =
    λ name files text bare g. order_is words order
    (wants_place (record (usual_place Hex files) { jump = Some text })) found
    (jump_wanted words name files text bare g)

pub need_ordered : (words : List Text) (order : Order) → Orders words order → OrdersNeed words (Ok order)
need_ordered words order found =
    λ name files g. order_is words order (wants_need (record { files = files; plan = usual_plan })) found
    (need_wanted words name files g)

pub execute_ordered : (words : List Text) (order : Order) → Orders words order
    → OrdersExecute words (Ok order)
execute_ordered words order found =
    λ name files g. order_is words order (wants_execute (usual_execute files)) found
    (execute_wanted words name files g)

pub execute_text_ordered : (words : List Text) (order : Order) → Orders words order
    → OrdersExecuteText words (Ok order)
execute_text_ordered words order found =
    λ name files option text bare g. order_is words order
    (wants_execute (with_execute_text option text (usual_execute files))) found
    (execute_text_wanted words name files option text bare g)

pub execute_watch_ordered : (words : List Text) (order : Order) → Orders words order
    → OrdersExecuteWatch words (Ok order)
execute_watch_ordered words order found =
    λ name files option g. order_is words order
    (wants_execute (record (usual_execute files) { watch = watching option })) found
    (execute_watch_wanted words name files option g)

pub explain_ordered : (words : List Text) (order : Order) → Orders words order
    → OrdersExplain words (Ok order)
explain_ordered words order found =
    λ name number g. order_is words order (wants_explain (record { number = number })) found
    (explain_wanted words name number g)

pub convert_ordered : (words : List Text) (order : Order) → Orders words order
    → OrdersConvert words (Ok order)
convert_ordered words order found = λ name file listing cards g.
    order_is words order (wants_convert (usual_convert file listing cards)) found
    (convert_wanted words name file listing cards g)

-- where they have none, only memory can fail
pub files_failed : (words : List Text) (error : Error) (failure : Failure LineFault)
    → HasKind (fault_of plm_app words) error → IsFailureFor error failure
    → OrdersFiles words (Err failure)
files_failed words error failure has is =
    λ name action files g. only_memory error failure (fault_of plm_app words)
    (files_wanted words name action files g).fine has is

pub map_failed : (words : List Text) (error : Error) (failure : Failure LineFault)
    → HasKind (fault_of plm_app words) error → IsFailureFor error failure
    → OrdersMap words (Err failure)
map_failed words error failure has is =
    λ name action files g. only_memory error failure (fault_of plm_app words)
    (map_wanted words name action files g).fine has is

pub watch_failed : (words : List Text) (error : Error) (failure : Failure LineFault)
    → HasKind (fault_of plm_app words) error → IsFailureFor error failure
    → OrdersWatch words (Err failure)
watch_failed words error failure has is =
    λ name action files option g. only_memory error failure (fault_of plm_app words)
    (watch_wanted words name action files option g).fine has is

pub text_failed : (words : List Text) (error : Error) (failure : Failure LineFault)
    → HasKind (fault_of plm_app words) error → IsFailureFor error failure
    → OrdersText words (Err failure)
text_failed words error failure has is =
    λ name action files option text bare g. only_memory error failure (fault_of plm_app words)
    (text_wanted words name action files option text bare g).fine has is

pub compile_failed : (words : List Text) (error : Error) (failure : Failure LineFault)
    → HasKind (fault_of plm_app words) error → IsFailureFor error failure
    → OrdersCompile words (Err failure)
compile_failed words error failure has is =
    λ name source object bare g. only_memory error failure (fault_of plm_app words)
    (compile_wanted words name source object bare g).fine has is

pub link_failed : (words : List Text) (error : Error) (failure : Failure LineFault)
    → HasKind (fault_of plm_app words) error → IsFailureFor error failure
    → OrdersLink words (Err failure)
link_failed words error failure has is =
    λ name target files bare g. only_memory error failure (fault_of plm_app words)
    (link_wanted words name target files bare g).fine has is

pub place_failed : (words : List Text) (error : Error) (failure : Failure LineFault)
    → HasKind (fault_of plm_app words) error → IsFailureFor error failure
    → OrdersPlace words (Err failure)
place_failed words error failure has is =
    λ name action files g. only_memory error failure (fault_of plm_app words)
    (place_wanted words name action files g).fine has is

pub place_text_failed : (words : List Text) (error : Error) (failure : Failure LineFault)
    → HasKind (fault_of plm_app words) error → IsFailureFor error failure
    → OrdersPlaceText words (Err failure)
place_text_failed words error failure has is =
    λ name action files option text bare g. only_memory error failure (fault_of plm_app words)
    (place_text_wanted words name action files option text bare g).fine has is

pub jump_failed : (words : List Text) (error : Error) (failure : Failure LineFault)
    → HasKind (fault_of plm_app words) error → IsFailureFor error failure
    → OrdersJump words (Err failure)
jump_failed words error failure has is =
    λ name files text bare g. only_memory error failure (fault_of plm_app words)
    (jump_wanted words name files text bare g).fine has is

pub need_failed : (words : List Text) (error : Error) (failure : Failure LineFault)
    → HasKind (fault_of plm_app words) error → IsFailureFor error failure
    → OrdersNeed words (Err failure)
need_failed words error failure has is =
    λ name files g. only_memory error failure (fault_of plm_app words)
    (need_wanted words name files g).fine has is

pub execute_failed : (words : List Text) (error : Error) (failure : Failure LineFault)
    → HasKind (fault_of plm_app words) error → IsFailureFor error failure
    → OrdersExecute words (Err failure)
execute_failed words error failure has is =
    λ name files g. only_memory error failure (fault_of plm_app words)
    (execute_wanted words name files g).fine has is

pub execute_text_failed : (words : List Text) (error : Error) (failure : Failure LineFault)
    → HasKind (fault_of plm_app words) error → IsFailureFor error failure
    → OrdersExecuteText words (Err failure)
execute_text_failed words error failure has is =
    λ name files option text bare g. only_memory error failure (fault_of plm_app words)
    (execute_text_wanted words name files option text bare g).fine has is

pub execute_watch_failed : (words : List Text) (error : Error) (failure : Failure LineFault)
    → HasKind (fault_of plm_app words) error → IsFailureFor error failure
    → OrdersExecuteWatch words (Err failure)
execute_watch_failed words error failure has is =
    λ name files option g. only_memory error failure (fault_of plm_app words)
    (execute_watch_wanted words name files option g).fine has is

pub explain_failed : (words : List Text) (error : Error) (failure : Failure LineFault)
    → HasKind (fault_of plm_app words) error → IsFailureFor error failure
    → OrdersExplain words (Err failure)
explain_failed words error failure has is =
    λ name number g. only_memory error failure (fault_of plm_app words)
    (explain_wanted words name number g).fine has is

pub convert_failed : (words : List Text) (error : Error) (failure : Failure LineFault)
    → HasKind (fault_of plm_app words) error → IsFailureFor error failure
    → OrdersConvert words (Err failure)
convert_failed words error failure has is = λ name file listing cards g.
    only_memory error failure (fault_of plm_app words) (convert_wanted words name file listing cards g).fine has is
