-- Commands while they are built, and what `clap` reads of the tables of arguments.
use Rattle.std.specs.Prelude.{◌≡◌, IfOk, List, Result, Some, false, fold, true}
use Rattle.std.specs.Borrow.{Bor}
use Rattle.clap.specs.Words.{App, Rule, Text, app_of, with_rule, with_subcommand}
use Rattle.clap.specs.declared.builder.action.ArgAction.TheVariants.{Append}
use Rattle.clap.specs.declared.builder.command.Command.{Command}
use Rattle.clap.specs.declared.builder.command.Command.TheViews.{out-Command}
use Rattle.command_line.specs.Command.{compile_app, convert_app, default_rule, execute_app, explain_app, file_rule, flag_rule, hex_app}
use Rattle.command_line.specs.Command.{link_app, list_app, locate_app, many_rule, option_rule, program_app}
use Rattle.command_line.specs.declared.arguments.Argument.{Argument}
use Rattle.command_line.specs.declared.arguments.Kind.{Kind}
use Rattle.command_line.specs.declared.arguments.Kind.TheVariants.{Again, File, Files, Flag, Needed, Or, Plain}
use Rattle.command_line.specs.declared.names.CommandName.{CommandName}
use Rattle.command_line.specs.declared.names.CommandName.TheVariants.{Compile, Convert, Execute, Explain, Hex, Interpret, Link, List as Listing, Locate, Run, Symbols}
use Rattle.command_line.specs.internal.Names.{word_of}

-- none of the arguments of the command is global
abbrev pub IsLocal : Command → Type 0
IsLocal command = (out-Command command).has_globals ≡ false

-- what `clap` reads of the command is this, and none of its arguments is global
abbrev pub IsBuilt : App → Command → Type 0
IsBuilt app command = (app_of command ≡ app) × IsLocal command

-- the same, unless memory ran out
abbrev pub Builds : {E : Type 0} → App → Result Command E → Type 0
Builds app built = IfOk built (IsBuilt app)

-- the rule of an argument of a kind, by its name
abbrev pub rule_of_kind : Kind → Text → Rule
rule_of_kind Plain name = option_rule name
rule_of_kind (Or text) name = default_rule name text.now
rule_of_kind Again name = many_rule name
rule_of_kind Needed name = record (option_rule name) { required = true }
rule_of_kind Flag name = flag_rule name
rule_of_kind File name = file_rule name
rule_of_kind Files name = record (file_rule name) { action = Some Append }

-- a command with one more argument
abbrev pub with_argument : App → Argument → App
with_argument app argument = with_rule app (rule_of_kind argument.kind argument.name.now)

-- a command with these arguments more
abbrev pub with_arguments : App → List Argument → App
with_arguments app arguments = fold with_argument app arguments

-- a command with groups of arguments more
abbrev pub with_groups : App → List (Bor (List Argument)) → App
with_groups app groups = fold (λ before group. with_arguments before group.now) app groups

-- what `clap` reads of a command
abbrev pub app_of_command : CommandName → App
app_of_command Compile = compile_app (word_of Compile)
app_of_command Run = program_app (word_of Run)
app_of_command Interpret = program_app (word_of Interpret)
app_of_command Link = link_app (word_of Link)
app_of_command Locate = locate_app (word_of Locate)
app_of_command Hex = hex_app (word_of Hex)
app_of_command Listing = list_app (word_of Listing)
app_of_command Symbols = list_app (word_of Symbols)
app_of_command Execute = execute_app (word_of Execute)
app_of_command Explain = explain_app (word_of Explain)
app_of_command Convert = convert_app (word_of Convert)

-- the program with one more command
abbrev pub with_command : App → CommandName → App
with_command app command = with_subcommand app (app_of_command command).top

-- the program with these commands more
abbrev pub with_commands : App → List CommandName → App
with_commands app commands = fold with_command app commands
