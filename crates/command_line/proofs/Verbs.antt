-- The commands, by the form of their arguments.
use Rattle.command_line.proofs.Prelude.{List, [], codes, Row, Rule, Shape, Text, built_leaf, new_shape, Action, PlaceAction, Locate, Hex, Listing, Symbols, Wanted, compile_app, compile_of, execute_app, execute_of, explain_app, explain_of, link_app, link_of, list_app, locate_app, located_of, name_of_action, name_of_place_action, hex_app, place_of, program_app, program_of, wants_compile, wants_execute, wants_explain, wants_link, wants_place, wants_program, convert_app, convert_of, wants_convert}

-- what the files of a command are
pub data Form : Type 0 where
  Sources : Form
  Objects : Form
  Placed : Form
  Listed : Form
  Located : Form
  Executed : Form

-- the arguments of a command
abbrev pub rules : Form → List Rule
rules Sources = (built_leaf (program_app []).top).rules
rules Objects = (built_leaf (link_app []).top).rules
rules Placed = (built_leaf (hex_app []).top).rules
rules Listed = (built_leaf (list_app []).top).rules
rules Located = (built_leaf (locate_app []).top).rules
rules Executed = (built_leaf (execute_app []).top).rules

-- that of a command on an object
abbrev pub form_of : PlaceAction → Form
form_of Locate = Located
form_of Hex = Placed
form_of Listing = Listed
form_of Symbols = Listed

-- a command that was built
abbrev pub leaf : Form → Text → Shape
leaf form name = record (built_leaf (new_shape name)) { rules = rules form }

-- the arguments of the command that compiles, which has no list of files
abbrev pub compile_rules : List Rule
compile_rules = (built_leaf (compile_app []).top).rules

-- those of the command that explains a number
abbrev pub explain_rules : List Rule
explain_rules = (built_leaf (explain_app []).top).rules

-- those of the command that converts
abbrev pub convert_rules : List Rule
convert_rules = (built_leaf (convert_app []).top).rules

pub data Verb : Type 0 where
  compile : Verb
  program : Action → Verb
  link : Verb
  place : PlaceAction → Verb
  execute : Verb
  explain : Verb
  convert : Verb

abbrev pub name_of : Verb → Text
name_of compile = codes "compile"
name_of (program action) = name_of_action action
name_of link = codes "link"
name_of (place action) = name_of_place_action action
name_of execute = codes "execute"
name_of explain = codes "explain"
name_of convert = codes "convert"

abbrev pub rules_of : Verb → List Rule
rules_of compile = compile_rules
rules_of (program action) = rules Sources
rules_of link = rules Objects
rules_of (place action) = rules (form_of action)
rules_of execute = rules Executed
rules_of explain = explain_rules
rules_of convert = convert_rules

-- the command that was built
abbrev pub leaf_of : Verb → Shape
leaf_of verb = record (built_leaf (new_shape (name_of verb))) { rules = rules_of verb }

-- what a command with these matches wants
abbrev pub wanted_of : Verb → List Row → Wanted
wanted_of compile rows = wants_compile (compile_of rows)
wanted_of (program action) rows = wants_program (program_of action rows)
wanted_of link rows = wants_link (link_of rows)
wanted_of (place Locate) rows = located_of rows
wanted_of (place Hex) rows = wants_place (place_of Hex rows)
wanted_of (place Listing) rows = wants_place (place_of Listing rows)
wanted_of (place Symbols) rows = wants_place (place_of Symbols rows)
wanted_of execute rows = wants_execute (execute_of rows)
wanted_of explain rows = wants_explain (explain_of rows)
wanted_of convert rows = wants_convert (convert_of rows)
