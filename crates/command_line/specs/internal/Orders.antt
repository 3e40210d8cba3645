-- What orders hold, and which words give them.
use Rattle.std.specs.Prelude.{◌≡◌, ◌≢◌, ◌<◌, ◌++◌, Bool, List, []}
use Rattle.std.specs.Prelude.{◌∷◌, length, Some, None, codes, false, true}
use Rattle.std.specs.Prelude.{option_map, if◌then◌else◌, MatchResult, Result}
use Rattle.std.specs.List.{AllByRecursion}
use Rattle.clap.specs.Lexer.{strip_byte}
use Rattle.clap.specs.Walk.{texts}
use Rattle.clap.specs.Words.{IsAmong, Kinds, Text, kind_of}
use Rattle.clap.specs.declared.error.ErrorKind.TheVariants.{DisplayHelp, DisplayVersion}
use Rattle.failure.specs.declared.Failure.{Failure}
use Rattle.failure.specs.declared.Failure.TheVariants.{Memory}
use Rattle.command_line.specs.declared.orders.Action.{Action}
use Rattle.command_line.specs.declared.orders.Action.TheVariants.{Run, Interpret}
use Rattle.command_line.specs.declared.orders.PlaceAction.{PlaceAction}
use Rattle.command_line.specs.declared.orders.PlaceAction.TheVariants.{Locate, Hex, Listing, Symbols}
use Rattle.command_line.specs.declared.orders.CompileOrder.{CompileOrder}
use Rattle.command_line.specs.declared.orders.ConvertOrder.{ConvertOrder}
use Rattle.command_line.specs.declared.orders.ExecuteOrder.{ExecuteOrder}
use Rattle.command_line.specs.declared.orders.ExplainOrder.{ExplainOrder}
use Rattle.command_line.specs.declared.orders.LinkOrder.{LinkOrder}
use Rattle.command_line.specs.declared.orders.NeedOrder.{NeedOrder}
use Rattle.command_line.specs.declared.orders.Order.{Order}
use Rattle.command_line.specs.declared.orders.Order.TheVariants.{Compile, Convert, Execute, Explain, Link, Need, Place, Program}
use Rattle.command_line.specs.declared.orders.PlaceOrder.{PlaceOrder}
use Rattle.command_line.specs.declared.orders.PlanTexts.{PlanTexts}
use Rattle.command_line.specs.declared.orders.ProgramOrder.{ProgramOrder}
use Rattle.command_line.specs.declared.orders.Watch.{Watch}
use Rattle.command_line.specs.declared.reading.LineFault.{LineFault}
use Rattle.command_line.specs.declared.reading.LineFault.TheVariants.{Help, Version, Wrong}
use Rattle.command_line.specs.Command.{CompileWanted, ConvertWanted, ExecuteWanted, ExplainWanted, LinkWanted, NeedWanted, PlaceWanted, PlanWanted, ProgramWanted, Wanted}
use Rattle.command_line.specs.Command.{wanted_by, wants_compile, wants_convert, wants_execute, wants_explain, wants_link, wants_need, wants_place, wants_program}

-- what orders hold
abbrev pub plan_in : PlanTexts → PlanWanted
plan_in plan = record {
  code = plan.code.now;
  data_base = plan.data_base.now;
  stack = plan.stack.now;
  stack_size = plan.stack_size.now;
}

abbrev pub program_in : ProgramOrder → ProgramWanted
program_in order = record {
  action = order.action;
  files = texts order.files.items;
  plan = plan_in order.plan;
  limit = order.limit.now;
  input = option_map (λ text. text.now) order.input;
  input_files = texts order.input_files.items;
  output_files = texts order.output_files.items;
  watch = order.watch;
  map = order.map;
  fill = order.fill.now;
  memory = option_map (λ text. text.now) order.memory;
}

abbrev pub compile_in : CompileOrder → CompileWanted
compile_in order = record { source = order.source.now; object = order.object.now }

abbrev pub link_in : LinkOrder → LinkWanted
link_in order = record { out = order.out.now; objects = texts order.objects.items }

abbrev pub place_in : PlaceOrder → PlaceWanted
place_in order = record {
  action = order.action;
  files = texts order.files.items;
  plan = plan_in order.plan;
  jump = option_map (λ text. text.now) order.jump;
}

abbrev pub need_in : NeedOrder → NeedWanted
need_in order = record { files = texts order.files.items; plan = plan_in order.plan }

abbrev pub execute_in : ExecuteOrder → ExecuteWanted
execute_in order = record {
  objects = texts order.objects.items;
  plan = plan_in order.plan;
  limit = order.limit.now;
  input = option_map (λ text. text.now) order.input;
  input_files = texts order.input_files.items;
  output_files = texts order.output_files.items;
  watch = order.watch;
  fill = order.fill.now;
  memory = option_map (λ text. text.now) order.memory;
}

abbrev pub explain_in : ExplainOrder → ExplainWanted
explain_in order = record { number = order.number.now }

abbrev pub convert_in : ConvertOrder → ConvertWanted
convert_in order = record {
  file = order.file.now;
  listing = order.listing;
  cards = order.cards;
  folders = texts order.folders.items;
  sets = texts order.sets.items;
  lines = option_map (λ text. text.now) order.lines;
}

abbrev pub wanted_in : Order → Wanted
wanted_in (Compile order) = wants_compile (compile_in order)
wanted_in (Program order) = wants_program (program_in order)
wanted_in (Link order) = wants_link (link_in order)
wanted_in (Place order) = wants_place (place_in order)
wanted_in (Need order) = wants_need (need_in order)
wanted_in (Execute order) = wants_execute (execute_in order)
wanted_in (Explain order) = wants_explain (explain_in order)
wanted_in (Convert order) = wants_convert (convert_in order)

-- the words give this order
abbrev pub Orders : List Text → Order → Type 0
Orders words order = wanted_by words ≡ Some (wanted_in order)

-- the name of a command
abbrev pub name_of_action : Action → Text
name_of_action Run = codes "run"
name_of_action Interpret = codes "interpret"

abbrev pub name_of_place_action : PlaceAction → Text
name_of_place_action Locate = codes "locate"
name_of_place_action Hex = codes "hex"
name_of_place_action Listing = codes "list"
name_of_place_action Symbols = codes "symbols"

-- a word that is no option: it doesn't begin with a hyphen (45)
abbrev pub IsBare : Text → Type 0
IsBare word = strip_byte 45 word ≡ None

-- the plan where no option is given
abbrev pub usual_plan : PlanWanted
usual_plan = record {
  code = codes "256";
  data_base = codes "16384";
  stack = codes "61440";
  stack_size = codes "1024";
}

-- what is watched where no option is given
abbrev pub nothing_watched : Watch
nothing_watched = record { count = false; until_dry = false; place = false }

-- what a command wants with these files, where no option is given
abbrev pub usual : Action → List Text → ProgramWanted
usual action files = record {
  action = action;
  files = files;
  plan = usual_plan;
  limit = codes "10000000";
  input = None;
  input_files = [];
  output_files = [];
  watch = nothing_watched;
  map = false;
  fill = codes "00";
  memory = None;
}

abbrev pub usual_place : PlaceAction → List Text → PlaceWanted
usual_place action files = record { action = action; files = files; plan = usual_plan; jump = None }

abbrev pub usual_execute : List Text → ExecuteWanted
usual_execute objects = record {
  objects = objects;
  plan = usual_plan;
  limit = codes "10000000";
  input = None;
  input_files = [];
  output_files = [];
  watch = nothing_watched;
  fill = codes "00";
  memory = None;
}

-- the options of a plan
pub data PlanOption : Type 0 where
  Code : PlanOption
  DataBase : PlanOption
  Stack : PlanOption
  StackSize : PlanOption

-- the options of a run with a value
pub data ValueOption : Type 0 where
  OfPlan : PlanOption → ValueOption
  Limit : ValueOption
  Input : ValueOption
  InputFile : ValueOption
  OutputFile : ValueOption
  Fill : ValueOption
  StartMemory : ValueOption

-- the options of what is watched
pub data WatchOption : Type 0 where
  Count : WatchOption
  UntilDry : WatchOption
  Where : WatchOption

-- the name of an option
abbrev pub plan_option_name : PlanOption → Text
plan_option_name Code = codes "code"
plan_option_name DataBase = codes "data"
plan_option_name Stack = codes "stack"
plan_option_name StackSize = codes "stack-size"

abbrev pub option_name : ValueOption → Text
option_name (OfPlan option) = plan_option_name option
option_name Limit = codes "limit"
option_name Input = codes "input"
option_name InputFile = codes "input-file"
option_name OutputFile = codes "output-file"
option_name Fill = codes "fill"
option_name StartMemory = codes "memory"

abbrev pub watch_option_name : WatchOption → Text
watch_option_name Count = codes "count"
watch_option_name UntilDry = codes "until-dry"
watch_option_name Where = codes "where"

-- what is watched where one option is given
abbrev pub watching : WatchOption → Watch
watching Count = record { count = true; until_dry = false; place = false }
watching UntilDry = record { count = false; until_dry = true; place = false }
watching Where = record { count = false; until_dry = false; place = true }

-- what is wanted, with the text of an option
abbrev pub with_plan_text : PlanOption → Text → PlanWanted → PlanWanted
with_plan_text Code text plan = record plan { code = text }
with_plan_text DataBase text plan = record plan { data_base = text }
with_plan_text Stack text plan = record plan { stack = text }
with_plan_text StackSize text plan = record plan { stack_size = text }

abbrev pub with_text : ValueOption → Text → ProgramWanted → ProgramWanted
with_text (OfPlan option) text wanted = record wanted { plan = with_plan_text option text wanted.plan }
with_text Limit text wanted = record wanted { limit = text }
with_text Input text wanted = record wanted { input = Some text }
with_text InputFile text wanted = record wanted { input_files = text ∷ [] }
with_text OutputFile text wanted = record wanted { output_files = text ∷ [] }
with_text Fill text wanted = record wanted { fill = text }
with_text StartMemory text wanted = record wanted { memory = Some text }

-- the same of objects, which have these options too
abbrev pub with_execute_text : ValueOption → Text → ExecuteWanted → ExecuteWanted
with_execute_text (OfPlan option) text wanted =
    record wanted { plan = with_plan_text option text wanted.plan }
with_execute_text Limit text wanted = record wanted { limit = text }
with_execute_text Input text wanted = record wanted { input = Some text }
with_execute_text InputFile text wanted = record wanted { input_files = text ∷ [] }
with_execute_text OutputFile text wanted = record wanted { output_files = text ∷ [] }
with_execute_text Fill text wanted = record wanted { fill = text }
with_execute_text StartMemory text wanted = record wanted { memory = Some text }

-- the words are a program's name, a command, and then these words and bare files, one at least
pub record Gives (words : List Text) (name command : Text) (first files : List Text) : Type 0 where
  pub words_are : words ≡ name ∷ command ∷ (first ++ files)
  pub bare : AllByRecursion IsBare files
  pub some : 0 < length files

-- an option with its text, as two words
abbrev pub option_words : Text → Text → List Text
option_words option text = (45 ∷ 45 ∷ option) ∷ text ∷ []

-- the answer is the order that is wanted, unless memory ran out
abbrev pub IsOrderOf : Wanted → Result Order (Failure LineFault) → Type 0
IsOrderOf wanted answer = MatchResult answer (λ order. wanted_in order ≡ wanted) (λ failure. failure ≡ Memory)

-- a command with bare files alone wants these
abbrev pub OrdersFiles : List Text → Result Order (Failure LineFault) → Type 0
OrdersFiles words answer = (name : Text) (action : Action) (files : List Text)
    → Gives words name (name_of_action action) [] files
    → IsOrderOf (wants_program (usual action files)) answer

-- with an option before them, it wants its text too
abbrev pub OrdersText : List Text → Result Order (Failure LineFault) → Type 0
OrdersText words answer = (name : Text) (action : Action) (files : List Text) (option : ValueOption) (text : Text)
    → IsBare text
    → Gives words name (name_of_action action) (option_words (option_name option) text) files
    → IsOrderOf (wants_program (with_text option text (usual action files))) answer

-- with the flag before them, it wants a map too
abbrev pub OrdersMap : List Text → Result Order (Failure LineFault) → Type 0
OrdersMap words answer = (name : Text) (action : Action) (files : List Text)
    → Gives words name (name_of_action action) (codes "--map" ∷ []) files
    → IsOrderOf (wants_program (record (usual action files) { map = true })) answer

-- with an option of what is watched before them, it wants that watched
abbrev pub OrdersWatch : List Text → Result Order (Failure LineFault) → Type 0
OrdersWatch words answer = (name : Text) (action : Action) (files : List Text) (option : WatchOption)
    → Gives words name (name_of_action action) ((45 ∷ 45 ∷ watch_option_name option) ∷ []) files
    → IsOrderOf (wants_program (record (usual action files) { watch = watching option })) answer

-- `compile` with two bare files wants the first compiled to the second
abbrev pub OrdersCompile : List Text → Result Order (Failure LineFault) → Type 0
OrdersCompile words answer = (name source object : Text)
    → IsBare source
    → Gives words name (codes "compile") (source ∷ []) (object ∷ [])
    → IsOrderOf (wants_compile (record { source = source; object = object })) answer

-- `link --out FILE` with bare files wants their merge in that file
abbrev pub OrdersLink : List Text → Result Order (Failure LineFault) → Type 0
OrdersLink words answer = (name out : Text) (files : List Text)
    → IsBare out
    → Gives words name (codes "link") (option_words (codes "out") out) files
    → IsOrderOf (wants_link (record { out = out; objects = files })) answer

-- a command that places an object or sources, with bare files alone
abbrev pub OrdersPlace : List Text → Result Order (Failure LineFault) → Type 0
OrdersPlace words answer = (name : Text) (action : PlaceAction) (files : List Text)
    → Gives words name (name_of_place_action action) [] files
    → IsOrderOf (wants_place (usual_place action files)) answer

-- with an option before them, it wants its text too
abbrev pub OrdersPlaceText : List Text → Result Order (Failure LineFault) → Type 0
OrdersPlaceText words answer =
    (name : Text) (action : PlaceAction) (files : List Text) (option : PlanOption) (text : Text)
    → IsBare text
    → Gives words name (name_of_place_action action) (option_words (plan_option_name option) text) files
    → IsOrderOf (wants_place (record (usual_place action files) {
      plan = with_plan_text option text usual_plan;
    })) answer

-- `hex --jump` with bare files wants a jump too
abbrev pub OrdersJump : List Text → Result Order (Failure LineFault) → Type 0
OrdersJump words answer = (name : Text) (files : List Text) (text : Text)
    → IsBare text
    → Gives words name (codes "hex") (option_words (codes "jump") text) files
    → IsOrderOf (wants_place (record (usual_place Hex files) { jump = Some text })) answer

-- `locate --need` with bare files wants the need of these sources
abbrev pub OrdersNeed : List Text → Result Order (Failure LineFault) → Type 0
OrdersNeed words answer = (name : Text) (files : List Text)
    → Gives words name (codes "locate") (codes "--need" ∷ []) files
    → IsOrderOf (wants_need (record { files = files; plan = usual_plan })) answer

-- `execute` with bare files alone wants their merge run
abbrev pub OrdersExecute : List Text → Result Order (Failure LineFault) → Type 0
OrdersExecute words answer = (name : Text) (files : List Text)
    → Gives words name (codes "execute") [] files
    → IsOrderOf (wants_execute (usual_execute files)) answer

-- with an option before them, it wants its text too
abbrev pub OrdersExecuteText : List Text → Result Order (Failure LineFault) → Type 0
OrdersExecuteText words answer = (name : Text) (files : List Text) (option : ValueOption) (text : Text)
    → IsBare text
    → Gives words name (codes "execute") (option_words (option_name option) text) files
    → IsOrderOf (wants_execute (with_execute_text option text (usual_execute files))) answer

-- with an option of what is watched before them, it wants that watched
abbrev pub OrdersExecuteWatch : List Text → Result Order (Failure LineFault) → Type 0
OrdersExecuteWatch words answer = (name : Text) (files : List Text) (option : WatchOption)
    → Gives words name (codes "execute") ((45 ∷ 45 ∷ watch_option_name option) ∷ []) files
    → IsOrderOf (wants_execute (record (usual_execute files) { watch = watching option })) answer

-- `explain` with a bare word wants that number explained
abbrev pub OrdersExplain : List Text → Result Order (Failure LineFault) → Type 0
OrdersExplain words answer = (name number : Text)
    → Gives words name (codes "explain") [] (number ∷ [])
    → IsOrderOf (wants_explain (record { number = number })) answer

-- the flags of a listing and of cards
abbrev pub medium_words : (listing cards : Bool) → List Text
medium_words listing cards =
    (if listing then codes "--listing" ∷ [] else []) ++ (if cards then codes "--cards" ∷ [] else [])

-- what `convert` wants with this file and these flags, where no other option is given
abbrev pub usual_convert : Text → (listing cards : Bool) → ConvertWanted
usual_convert file listing cards =
    record { file = file; listing = listing; cards = cards; folders = []; sets = []; lines = None }

-- `convert` with a bare word, after these flags or none, wants that file converted
abbrev pub OrdersConvert : List Text → Result Order (Failure LineFault) → Type 0
OrdersConvert words answer = (name file : Text) (listing cards : Bool)
    → Gives words name (codes "convert") (medium_words listing cards) (file ∷ [])
    → IsOrderOf (wants_convert (usual_convert file listing cards)) answer

-- a fault has one of the kinds that `clap` finds in the words, where Help stands for that of help alone, and Version for
-- that of the version
abbrev pub IsFaultOf : Kinds → LineFault → Type 0
IsFaultOf kinds (Help error) = (kind_of error ≡ DisplayHelp) × IsAmong DisplayHelp kinds
IsFaultOf kinds (Version error) = (kind_of error ≡ DisplayVersion) × IsAmong DisplayVersion kinds
IsFaultOf kinds (Wrong error) =
    (kind_of error ≢ DisplayHelp) × (kind_of error ≢ DisplayVersion) × IsAmong (kind_of error) kinds
