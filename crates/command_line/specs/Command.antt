-- The command line: what `clap` reads of `plm`, and which order the words give.
use Rattle.std.specs.Prelude.{Bool, List, []}
use Rattle.std.specs.Prelude.{◌∷◌, Option, Some, None, codes, false, true}
use Rattle.std.specs.Prelude.{option_and_then, unwrap_or, if◌then◌else◌}
use Rattle.std.specs.Option.{option_map_or}
use Rattle.std.specs.Str.{bytes_eq}
use Rattle.clap.specs.Walk.{texts}
use Rattle.clap.specs.Words.{App, Row, Rule, Text, all_of, first_of, new_app}
use Rattle.clap.specs.Words.{new_rule, subcommand_of, with_rule, with_subcommand}
use Rattle.clap.specs.declared.builder.action.ArgAction.TheVariants.{Append, SetTrue}
use Rattle.command_line.specs.declared.orders.Action.{Action}
use Rattle.command_line.specs.declared.orders.Action.TheVariants.{Run, Interpret}
use Rattle.command_line.specs.declared.orders.PlaceAction.{PlaceAction}
use Rattle.command_line.specs.declared.orders.PlaceAction.TheVariants.{Locate, Hex, Listing, Symbols}
use Rattle.command_line.specs.declared.orders.Watch.{Watch}

-- the option `--name VALUE`
abbrev pub option_rule : Text → Rule
option_rule name = record (new_rule name) { long = Some name; value_names = 1 }

-- the option `--name VALUE` with the text that stands for it where it is left out
abbrev pub default_rule : Text → Text → Rule
default_rule name text = record (option_rule name) { defaults = text ∷ [] }

-- the same option, which may be given several times
abbrev pub many_rule : Text → Rule
many_rule name = record (option_rule name) { action = Some Append }

-- the flag `--name`
abbrev pub flag_rule : Text → Rule
flag_rule name = record (new_rule name) { long = Some name; action = Some SetTrue }

-- the option `--out FILE`, which has to be there
abbrev pub out_rule : Rule
out_rule = record (option_rule (codes "out")) { required = true }

-- the files: at least one
abbrev pub files_rule : Rule
files_rule = record (new_rule (codes "FILES")) { required = true; action = Some Append; value_names = 1 }

-- a file, or another text, that has to be there
abbrev pub file_rule : Text → Rule
file_rule name = record (new_rule name) { required = true; value_names = 1 }

-- a command with the options of a plan
abbrev pub with_plan : App → App
with_plan app =
    with_rule (with_rule (with_rule (with_rule app
    (default_rule (codes "code") (codes "256")))
    (default_rule (codes "data") (codes "16384")))
    (default_rule (codes "stack") (codes "61440")))
    (default_rule (codes "stack-size") (codes "1024"))

-- a command with the options of the memory at the start
abbrev pub with_memory : App → App
with_memory app =
    with_rule (with_rule app
    (default_rule (codes "fill") (codes "00")))
    (option_rule (codes "memory"))

-- a command with the options of what is watched while a program runs
abbrev pub with_watch : App → App
with_watch app =
    with_rule (with_rule (with_rule app
    (flag_rule (codes "until-dry")))
    (flag_rule (codes "count")))
    (flag_rule (codes "where"))

-- a command with the options of a limit, of an input, and of what is watched
abbrev pub with_limit_and_input : App → App
with_limit_and_input app =
    with_watch (with_rule (with_rule (with_rule (with_rule app
    (default_rule (codes "limit") (codes "10000000")))
    (option_rule (codes "input")))
    (many_rule (codes "input-file")))
    (many_rule (codes "output-file")))

-- a command with the options of a run
abbrev pub with_run : App → App
with_run app = with_memory (with_rule (with_limit_and_input app) (flag_rule (codes "map")))

-- the command `name [plan] [--limit N] [--input T] [--input-file T]... [--output-file T]... [--until-dry] [--count]
-- [--where] [--map] [--fill T] [--memory T] SOURCE...`
abbrev pub program_app : Text → App
program_app name = with_rule (with_run (with_plan (new_app name))) files_rule

-- the command `name SOURCE OBJECT`
abbrev pub compile_app : Text → App
compile_app name =
    with_rule (with_rule (new_app name) (file_rule (codes "SOURCE"))) (file_rule (codes "OBJECT"))

-- the command `name --out FILE OBJECT...`
abbrev pub link_app : Text → App
link_app name = with_rule (with_rule (new_app name) out_rule) files_rule

-- the command `name [plan] [--jump ADDRESS] FILE...`, which asks for one file when it is carried out
abbrev pub hex_app : Text → App
hex_app name = with_rule (with_rule (with_plan (new_app name)) (option_rule (codes "jump"))) files_rule

-- the command `name [plan] FILE...`
abbrev pub list_app : Text → App
list_app name = with_rule (with_plan (new_app name)) files_rule

-- the command `name [plan] [--need] FILE...`, which asks for one file when it is carried out without the flag
abbrev pub locate_app : Text → App
locate_app name = with_rule (with_rule (with_plan (new_app name)) (flag_rule (codes "need"))) files_rule

-- the command `name [plan] [--limit N] [--input T] [--input-file T]... [--output-file T]... [--until-dry] [--count]
-- [--where] [--fill T] [--memory T] OBJECT...`
abbrev pub execute_app : Text → App
execute_app name =
    with_rule (with_memory (with_limit_and_input (with_plan (new_app name)))) files_rule

-- the command `name NUMBER`
abbrev pub explain_app : Text → App
explain_app name = with_rule (new_app name) (file_rule (codes "NUMBER"))

-- the command `name [--listing] [--cards] [--folder DIR]... [--set NAME]... [--lines TABLE] FILE`
abbrev pub convert_app : Text → App
convert_app name =
    with_rule (with_rule (with_rule (with_rule (with_rule (with_rule (new_app name)
    (flag_rule (codes "listing")))
    (flag_rule (codes "cards")))
    (many_rule (codes "folder")))
    (many_rule (codes "set")))
    (option_rule (codes "lines")))
    (file_rule (codes "FILE"))

-- the program, which has to have a command, and which knows its version
abbrev pub bare_app : App
bare_app = record {
  top = record (new_app (codes "plm")).top { subcommand_required = true; has_version = true };
  subs = [];
}

-- the program with the commands that take sources
abbrev pub programs_app : App
programs_app =
    with_subcommand (with_subcommand (with_subcommand bare_app (compile_app (codes "compile")).top)
    (program_app (codes "run")).top)
    (program_app (codes "interpret")).top

-- the program `plm` with its commands
abbrev pub plm_app : App
plm_app =
    with_subcommand (with_subcommand (with_subcommand (with_subcommand (with_subcommand (with_subcommand
    (with_subcommand (with_subcommand programs_app
    (link_app (codes "link")).top)
    (locate_app (codes "locate")).top)
    (hex_app (codes "hex")).top)
    (list_app (codes "list")).top)
    (list_app (codes "symbols")).top)
    (execute_app (codes "execute")).top)
    (explain_app (codes "explain")).top)
    (convert_app (codes "convert")).top

-- the texts of the options of a plan
pub record PlanWanted : Type 0 where
  pub code : Text
  pub data_base : Text
  pub stack : Text
  pub stack_size : Text

-- what is wanted of sources
pub record ProgramWanted : Type 0 where
  pub action : Action
  pub files : List Text
  pub plan : PlanWanted
  pub limit : Text
  pub input : Option Text
  pub input_files : List Text
  pub output_files : List Text
  pub watch : Watch
  pub map : Bool
  pub fill : Text
  pub memory : Option Text

-- the source to be compiled, and the file to which its object module goes
pub record CompileWanted : Type 0 where
  pub source : Text
  pub object : Text

-- the objects to be linked, and the file to which the merge goes
pub record LinkWanted : Type 0 where
  pub out : Text
  pub objects : List Text

-- what is wanted of an object or of sources that are placed, with the address of a jump to the start, which `hex` alone takes
pub record PlaceWanted : Type 0 where
  pub action : PlaceAction
  pub files : List Text
  pub plan : PlanWanted
  pub jump : Option Text

-- the objects whose merge is placed and run, and how
pub record ExecuteWanted : Type 0 where
  pub objects : List Text
  pub plan : PlanWanted
  pub limit : Text
  pub input : Option Text
  pub input_files : List Text
  pub output_files : List Text
  pub watch : Watch
  pub fill : Text
  pub memory : Option Text

-- what is wanted of sources whose need is told
pub record NeedWanted : Type 0 where
  pub files : List Text
  pub plan : PlanWanted

-- the number of a fault that is explained
pub record ExplainWanted : Type 0 where
  pub number : Text

-- the source that is converted; whether it is a listing, and on cards; the folders of the files that it includes; the
-- switches that are set; and the file to which the table of lines goes, where one is wanted
pub record ConvertWanted : Type 0 where
  pub file : Text
  pub listing : Bool
  pub cards : Bool
  pub folders : List Text
  pub sets : List Text
  pub lines : Option Text

-- what the words want, as texts
pub data Wanted : Type 0 where
  wants_compile : CompileWanted → Wanted
  wants_program : ProgramWanted → Wanted
  wants_link : LinkWanted → Wanted
  wants_place : PlaceWanted → Wanted
  wants_need : NeedWanted → Wanted
  wants_execute : ExecuteWanted → Wanted
  wants_explain : ExplainWanted → Wanted
  wants_convert : ConvertWanted → Wanted

-- the files that are read, or the number that is explained
abbrev pub named_in : Wanted → List Text
named_in (wants_compile wanted) = wanted.source ∷ []
named_in (wants_program wanted) = wanted.files
named_in (wants_link wanted) = wanted.objects
named_in (wants_place wanted) = wanted.files
named_in (wants_need wanted) = wanted.files
named_in (wants_execute wanted) = wanted.objects
named_in (wants_explain wanted) = wanted.number ∷ []
named_in (wants_convert wanted) = wanted.file ∷ []

-- the text of an option that has a default
abbrev pub text_of : Text → List Row → Text
text_of name rows = unwrap_or (first_of name rows) []

-- the flag was given
abbrev pub is_set : Text → List Row → Bool
is_set name rows = option_map_or (λ text. bytes_eq text (codes "true")) (first_of name rows) false

-- the texts of an argument that may be given several times
abbrev pub texts_of : Text → List Row → List Text
texts_of name rows = unwrap_or (all_of name rows) []

-- the files of a command
abbrev pub files_of : List Row → List Text
files_of rows = texts_of (codes "FILES") rows

-- the plan of a command
abbrev pub plan_of : List Row → PlanWanted
plan_of rows = record {
  code = text_of (codes "code") rows;
  data_base = text_of (codes "data") rows;
  stack = text_of (codes "stack") rows;
  stack_size = text_of (codes "stack-size") rows;
}

-- what is to be watched
abbrev pub watch_of : List Row → Watch
watch_of rows = record {
  count = is_set (codes "count") rows;
  until_dry = is_set (codes "until-dry") rows;
  place = is_set (codes "where") rows;
}

-- what a command with these matches wants
abbrev pub program_of : Action → List Row → ProgramWanted
program_of action rows = record {
  action = action;
  files = files_of rows;
  plan = plan_of rows;
  limit = text_of (codes "limit") rows;
  input = first_of (codes "input") rows;
  input_files = texts_of (codes "input-file") rows;
  output_files = texts_of (codes "output-file") rows;
  watch = watch_of rows;
  map = is_set (codes "map") rows;
  fill = text_of (codes "fill") rows;
  memory = first_of (codes "memory") rows;
}

abbrev pub compile_of : List Row → CompileWanted
compile_of rows = record { source = text_of (codes "SOURCE") rows; object = text_of (codes "OBJECT") rows }

abbrev pub link_of : List Row → LinkWanted
link_of rows = record { out = text_of (codes "out") rows; objects = files_of rows }

abbrev pub place_of : PlaceAction → List Row → PlaceWanted
place_of action rows = record {
  action = action;
  files = files_of rows;
  plan = plan_of rows;
  jump = first_of (codes "jump") rows;
}

abbrev pub need_of : List Row → NeedWanted
need_of rows = record { files = files_of rows; plan = plan_of rows }

abbrev pub execute_of : List Row → ExecuteWanted
execute_of rows = record {
  objects = files_of rows;
  plan = plan_of rows;
  limit = text_of (codes "limit") rows;
  input = first_of (codes "input") rows;
  input_files = texts_of (codes "input-file") rows;
  output_files = texts_of (codes "output-file") rows;
  watch = watch_of rows;
  fill = text_of (codes "fill") rows;
  memory = first_of (codes "memory") rows;
}

abbrev pub explain_of : List Row → ExplainWanted
explain_of rows = record { number = text_of (codes "NUMBER") rows }

abbrev pub convert_of : List Row → ConvertWanted
convert_of rows = record {
  file = text_of (codes "FILE") rows;
  listing = is_set (codes "listing") rows;
  cards = is_set (codes "cards") rows;
  folders = texts_of (codes "folder") rows;
  sets = texts_of (codes "set") rows;
  lines = first_of (codes "lines") rows;
}

-- what `locate` wants: the places of an object or, with its flag, the need of sources
abbrev pub located_of : List Row → Wanted
located_of rows =
    if is_set (codes "need") rows then wants_need (need_of rows) else wants_place (place_of Locate rows)

-- the same of a command's name and matches
abbrev pub wanted_of_match : Text × List Row → Option Wanted
wanted_of_match (name, rows) =
    if bytes_eq name (codes "compile") then Some (wants_compile (compile_of rows))
    else (if bytes_eq name (codes "run") then Some (wants_program (program_of Run rows))
    else (if bytes_eq name (codes "interpret") then Some (wants_program (program_of Interpret rows))
    else (if bytes_eq name (codes "link") then Some (wants_link (link_of rows))
    else (if bytes_eq name (codes "locate") then Some (located_of rows)
    else (if bytes_eq name (codes "hex") then Some (wants_place (place_of Hex rows))
    else (if bytes_eq name (codes "list") then Some (wants_place (place_of Listing rows))
    else (if bytes_eq name (codes "symbols") then Some (wants_place (place_of Symbols rows))
    else (if bytes_eq name (codes "execute") then Some (wants_execute (execute_of rows))
    else (if bytes_eq name (codes "explain") then Some (wants_explain (explain_of rows))
    else (if bytes_eq name (codes "convert") then Some (wants_convert (convert_of rows)) else None))))))))))

-- what the words, with the program's name in front, want
abbrev pub wanted_by : List Text → Option Wanted
wanted_by words = option_and_then wanted_of_match (subcommand_of plm_app words)
