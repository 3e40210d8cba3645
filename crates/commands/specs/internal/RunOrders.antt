-- Orders to run sources or objects, and what is printed for them with the values of their options.
use Rattle.std.specs.Prelude.{ℕ, List, ◌++◌, Option}
use Rattle.clap.specs.Words.{Text}
use Rattle.host.specs.Files.{Directory}
use Rattle.command_line.specs.Command.{Wanted, wants_execute, wants_program}
use Rattle.command_line.specs.internal.Orders.{execute_in, program_in}
use Rattle.command_line.specs.Settings.{Read, Values, execute_read, values_read}
use Rattle.commands.specs.declared.runs.RunOrder.{RunOrder}
use Rattle.commands.specs.declared.runs.RunOrder.TheVariants.{Objects, Sources}
use Rattle.commands.specs.Executing.{PrintsMerge, RefusesObjects}
use Rattle.commands.specs.InputFiles.{input_names}
use Rattle.commands.specs.Refusing.{RefusesFiles, RefusesFor}
use Rattle.commands.specs.Running.{PrintsFiles}

-- what an order wants
abbrev pub wanted_run : RunOrder → Wanted
wanted_run (Sources order) = wants_program (program_in order.now)
wanted_run (Objects order) = wants_execute (execute_in order.now)

-- the values that its texts write
abbrev pub values_wanted : RunOrder → Read Values
values_wanted (Sources order) = values_read (program_in order.now)
values_wanted (Objects order) = execute_read (execute_in order.now)

-- the texts of its files of ports
abbrev pub input_texts : RunOrder → List Text
input_texts (Sources order) = (program_in order.now).input_files
input_texts (Objects order) = (execute_in order.now).input_files

abbrev pub output_texts : RunOrder → List Text
output_texts (Sources order) = (program_in order.now).output_files
output_texts (Objects order) = (execute_in order.now).output_files

-- the names of the files that are read before those of ports
abbrev pub first_names : RunOrder → List (List ℕ)
first_names (Sources order) = (program_in order.now).files
first_names (Objects order) = (execute_in order.now).objects

-- what is printed with these values
abbrev pub PrintsWith :
    RunOrder → Values → (files : Option Directory) → (status : ℕ) → (outputs : List (List ℕ))
    → (old new : Option (List ℕ)) → Type 0
PrintsWith (Sources order) values files status outputs old new =
    PrintsFiles (program_in order.now) values files status outputs old new
PrintsWith (Objects order) values files status outputs old new =
    PrintsMerge (execute_in order.now) values files status outputs old new

-- and why nothing was run with them, or not whole
abbrev pub RefusesWith :
    RunOrder → Values → (files : Option Directory) → (before after : ℕ)
    → (err_old err_new out_old out_new : Option (List ℕ)) → Type 0
RefusesWith (Sources order) values files before after err_old err_new out_old out_new =
    RefusesFor (RefusesFiles (program_in order.now) values files err_old err_new out_old out_new)
    files ((program_in order.now).files ++ input_names values) before after err_old err_new out_old out_new
RefusesWith (Objects order) values files before after err_old err_new out_old out_new =
    RefusesObjects (execute_in order.now) values files before after err_old err_new out_old out_new
