-- The commands of `plm`, and the word that calls each.
use Rattle.std.specs.Prelude.{List, [], ◌∷◌, Option, Some, None, codes, if◌then◌else◌}
use Rattle.std.specs.Str.{bytes_eq}
use Rattle.clap.specs.Words.{Row, Text}
use Rattle.command_line.specs.Command.{Wanted, compile_of, convert_of, execute_of, explain_of, link_of, located_of, place_of, program_of}
use Rattle.command_line.specs.Command.{wants_compile, wants_convert, wants_execute, wants_explain, wants_link, wants_place, wants_program}
use Rattle.command_line.specs.declared.orders.Action.TheVariants as action
use Rattle.command_line.specs.declared.orders.PlaceAction.TheVariants as placed
use Rattle.command_line.specs.declared.names.CommandName.{CommandName}
use Rattle.command_line.specs.declared.names.CommandName.TheVariants.{Compile, Convert, Execute, Explain, Hex, Interpret, Link, List as Listing, Locate, Run, Symbols}

-- the word that calls a command
abbrev pub word_of : CommandName → Text
word_of Compile = codes "compile"
word_of Run = codes "run"
word_of Interpret = codes "interpret"
word_of Link = codes "link"
word_of Locate = codes "locate"
word_of Hex = codes "hex"
word_of Listing = codes "list"
word_of Symbols = codes "symbols"
word_of Execute = codes "execute"
word_of Explain = codes "explain"
word_of Convert = codes "convert"

-- the first of these commands that the word calls
abbrev pub command_in : List CommandName → Text → Option CommandName
command_in [] word = None
command_in (command ∷ more) word =
    if bytes_eq word (word_of command) then Some command else command_in more word

-- what a command with these matches wants
abbrev pub wanted_of_command : CommandName → List Row → Wanted
wanted_of_command Compile rows = wants_compile (compile_of rows)
wanted_of_command Run rows = wants_program (program_of action.Run rows)
wanted_of_command Interpret rows = wants_program (program_of action.Interpret rows)
wanted_of_command Link rows = wants_link (link_of rows)
wanted_of_command Locate rows = located_of rows
wanted_of_command Hex rows = wants_place (place_of placed.Hex rows)
wanted_of_command Listing rows = wants_place (place_of placed.Listing rows)
wanted_of_command Symbols rows = wants_place (place_of placed.Symbols rows)
wanted_of_command Execute rows = wants_execute (execute_of rows)
wanted_of_command Explain rows = wants_explain (explain_of rows)
wanted_of_command Convert rows = wants_convert (convert_of rows)
