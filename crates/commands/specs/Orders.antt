-- What orders make of files, what they print, and why they are refused.
use Rattle.std.specs.Prelude.{◌≡◌, ◌⊎◌, ℕ, List, [], ◌∷◌, ◌++◌, Err, Ok, Option, None, Some, codes}
use Rattle.std.specs.Io.KnownBytes.{Keeps}
use Rattle.clap.specs.Words.{IsAmong, Kinds, Text}
use Rattle.clap.specs.declared.error.ErrorKind.{ErrorKind}
use Rattle.clap.specs.declared.error.ErrorKind.TheVariants.{DisplayHelp, DisplayVersion}
use Rattle.host.specs.Files.{Directory, KeepsFiles}
use Rattle.host.specs.Refusals.{Tells, TellsRefusal, refusal_line}
use Rattle.command_line.specs.Command.{NeedWanted, PlaceWanted, Wanted, wants_compile, wants_convert, wants_execute, wants_explain}
use Rattle.command_line.specs.Command.{wants_link, wants_need, wants_place, wants_program}
use Rattle.command_line.specs.Settings.{Read, ◌>>=◌, execute_read, jump_read, names_in, only_file, outputs_in, page_read}
use Rattle.command_line.specs.Settings.{plan_read, values_read}
use Rattle.command_line.specs.declared.orders.PlaceAction.{PlaceAction}
use Rattle.command_line.specs.declared.orders.PlaceAction.TheVariants.{Hex, Listing, Symbols}
use Rattle.object_commands.specs.Linking.{KeepsOthers, LinksFiles, StopsLinking}
use Rattle.object_commands.specs.Placing.{PrintsHex, PrintsPlaces, StopsHex, StopsPlaces}
use Rattle.commands.specs.Compiling.{CompilesFile, StopsCompiling}
use Rattle.commands.specs.Executing.{PrintsExecution, RefusesExecution}
use Rattle.commands.specs.Explaining.{PrintsPage, RefusesPage}
use Rattle.commands.specs.OutputFiles.{ByOutputs, ChangesOutputs, DeliversRun}
use Rattle.commands.specs.RefusedRuns.{RefusesRun}
use Rattle.commands.specs.Refusing.{RefusesCompiling, RefusesFor, RefusesProgram, RunsOut}
use Rattle.commands.specs.Running.{PrintsProgram}
use Rattle.commands.specs.Showing.{PrintsShown, RefusesShown}
use Rattle.commands.specs.Needing.{PrintsNeedOf, RefusesNeedOf}
use Rattle.commands.specs.Tables.{KeepsAllBut}
use Rattle.mem80.specs.declared.plan.Plan.{Plan}

-- an order to compile or to link changes no file but the one that it names, one to run or to interpret none but those of
-- ports that it names, and one to convert none but that of the table that it names, if it does; others change none
abbrev pub ChangesAsWanted : Wanted → Option Directory → Option Directory → Type 0
ChangesAsWanted (wants_compile compile) old new = KeepsOthers old new compile.object
ChangesAsWanted (wants_link link) old new = KeepsOthers old new link.out
ChangesAsWanted (wants_program program) old new = ChangesOutputs (outputs_in program.output_files) old new
ChangesAsWanted (wants_place place) old new = KeepsFiles old new
ChangesAsWanted (wants_need need) old new = KeepsFiles old new
ChangesAsWanted (wants_execute execute) old new = ChangesOutputs (outputs_in execute.output_files) old new
ChangesAsWanted (wants_explain explain) old new = KeepsFiles old new
ChangesAsWanted (wants_convert convert) old new = KeepsAllBut convert.lines old new

-- the objects that an order to link names are merged in its file, and the source of an order to compile is
-- compiled to its object; of the table of an order to convert Converting says all
abbrev pub WritesAsWanted : Wanted → Option Directory → Option Directory → Type 0
WritesAsWanted (wants_compile compile) old new = CompilesFile old new compile.source compile.object
WritesAsWanted (wants_link link) old new = LinksFiles old new link.objects link.out
WritesAsWanted (wants_program program) old new = Unit {0}
WritesAsWanted (wants_place place) old new = Unit {0}
WritesAsWanted (wants_need need) old new = Unit {0}
WritesAsWanted (wants_execute execute) old new = Unit {0}
WritesAsWanted (wants_explain explain) old new = Unit {0}
WritesAsWanted (wants_convert convert) old new = Unit {0}

-- If an order ends with another status than 0, no file changes, with three exceptions. The file of an order to compile
-- or to link may have a beginning of its object. Files of ports may change; more is said of them below. The file
-- of a table may change; Converting says all of that.
abbrev pub StopsAsWanted : Wanted → Option Directory → Option Directory → Type 0
StopsAsWanted (wants_compile compile) old new = StopsCompiling old new compile.source compile.object
StopsAsWanted (wants_link link) old new = StopsLinking old new link.objects link.out
StopsAsWanted (wants_program program) old new = ChangesOutputs (outputs_in program.output_files) old new
StopsAsWanted (wants_place place) old new = KeepsFiles old new
StopsAsWanted (wants_need need) old new = KeepsFiles old new
StopsAsWanted (wants_execute execute) old new = ChangesOutputs (outputs_in execute.output_files) old new
StopsAsWanted (wants_explain explain) old new = KeepsFiles old new
StopsAsWanted (wants_convert convert) old new = KeepsAllBut convert.lines old new

-- what a command on an object file prints of the file of this name, placed by this plan, where a jump may be wanted
abbrev pub PrintsPlaced :
    PlaceAction → Option Directory → (name : List ℕ) → Plan → (jump : Option ℕ)
    → (old new : Option (List ℕ)) → Type 0
PrintsPlaced Hex files name plan jump old new = PrintsHex files name plan jump old new
PrintsPlaced action files name plan jump old new = PrintsPlaces files name plan old new

-- the one file that is wanted, placed by the plan that the texts write, was printed
pub record PrintsObject (place : PlaceWanted) (files : Option Directory)
    (old new : Option (List ℕ)) : Type 0 where
  pub name : List ℕ
  pub plan : Plan
  pub jump : Option ℕ
  pub only : only_file place.files ≡ Ok name
  pub planned : plan_read place.plan ≡ Ok plan
  pub jumping : jump_read place.jump ≡ Ok jump
  pub printed : PrintsPlaced place.action files name plan jump old new

-- what is wanted of the files, placed by the plan that the texts write, was printed
pub record PrintsFilesShown (place : PlaceWanted) (files : Option Directory) (old new : Option (List ℕ)) : Type 0 where
  pub plan : Plan
  pub planned : plan_read place.plan ≡ Ok plan
  pub printed : PrintsShown place.action files place.files plan old new

-- what is wanted of an object, or of files that are listed or whose symbols are wanted, was printed
abbrev pub PrintsByAction : PlaceAction → PlaceWanted → Option Directory → (old new : Option (List ℕ)) → Type 0
PrintsByAction Listing place files old new = PrintsFilesShown place files old new
PrintsByAction Symbols place files old new = PrintsFilesShown place files old new
PrintsByAction action place files old new = PrintsObject place files old new

abbrev pub PrintsWanted : PlaceWanted → Option Directory → (old new : Option (List ℕ)) → Type 0
PrintsWanted place files old new = PrintsByAction place.action place files old new

-- of that of an object a beginning was printed, or nothing
abbrev pub StopsPlaced :
    PlaceAction → Option Directory → (name : List ℕ) → Plan → (jump : Option ℕ)
    → (old new : Option (List ℕ)) → Type 0
StopsPlaced Hex files name plan jump old new = StopsHex files name plan jump old new
StopsPlaced action files name plan jump old new = StopsPlaces files name plan old new

-- the need of the sources that are wanted, beside texts that write a plan, was printed
pub record PrintsNeedWanted (need : NeedWanted) (files : Option Directory)
    (old new : Option (List ℕ)) : Type 0 where
  pub plan : Plan
  pub planned : plan_read need.plan ≡ Ok plan
  pub printed : PrintsNeedOf files need.files old new

-- What an order that places prints, one that tells a need, and one to explain a number; one to compile or to link prints
-- nothing. What one to run sources or objects or to interpret prints is said below, and of one to convert in Converting.
abbrev pub PrintsAsWanted : Wanted → Option Directory → (old new : Option (List ℕ)) → Type 0
PrintsAsWanted (wants_place place) files old new = PrintsWanted place files old new
PrintsAsWanted (wants_need need) files old new = PrintsNeedWanted need files old new
PrintsAsWanted (wants_compile compile) files old new = Keeps old new
PrintsAsWanted (wants_link link) files old new = Keeps old new
PrintsAsWanted (wants_program program) files old new = Unit {0}
PrintsAsWanted (wants_execute execute) files old new = Unit {0}
PrintsAsWanted (wants_explain explain) files old new = PrintsPage explain old new
PrintsAsWanted (wants_convert convert) files old new = Unit {0}

-- what an order to run or to interpret sources, or to run objects, prints where it is not refused, the status that it
-- ends with, and the bytes of the files of ports; any other order ends with status 0 then
abbrev pub RunsAsWanted :
    Wanted → (files new : Option Directory) → (status : ℕ) → (err_old err_new out_old out_new : Option (List ℕ))
    → Type 0
RunsAsWanted (wants_program program) files new status err_old err_new out_old out_new =
    ByOutputs program.output_files
    (PrintsProgram program files status [] out_old out_new)
    (DeliversRun (PrintsProgram program files status) (outputs_in program.output_files)
    files new err_old err_new out_old out_new)
RunsAsWanted (wants_compile compile) files new status err_old err_new out_old out_new = status ≡ 0
RunsAsWanted (wants_link link) files new status err_old err_new out_old out_new = status ≡ 0
RunsAsWanted (wants_place place) files new status err_old err_new out_old out_new = status ≡ 0
RunsAsWanted (wants_need need) files new status err_old err_new out_old out_new = status ≡ 0
RunsAsWanted (wants_execute execute) files new status err_old err_new out_old out_new =
    ByOutputs execute.output_files
    (PrintsExecution execute files status [] out_old out_new)
    (DeliversRun (PrintsExecution execute files status) (outputs_in execute.output_files)
    files new err_old err_new out_old out_new)
RunsAsWanted (wants_explain explain) files new status err_old err_new out_old out_new = status ≡ 0
RunsAsWanted (wants_convert convert) files new status err_old err_new out_old out_new = status ≡ 0

-- nothing goes to standard error where an order is not refused, but what is said above of a run with files of ports
abbrev pub QuietAsWanted : Wanted → (err_old err_new : Option (List ℕ)) → Type 0
QuietAsWanted (wants_program program) err_old err_new =
    ByOutputs program.output_files (err_new ≡ err_old) (Unit {0})
QuietAsWanted (wants_compile compile) err_old err_new = err_new ≡ err_old
QuietAsWanted (wants_link link) err_old err_new = err_new ≡ err_old
QuietAsWanted (wants_place place) err_old err_new = err_new ≡ err_old
QuietAsWanted (wants_need need) err_old err_new = err_new ≡ err_old
QuietAsWanted (wants_execute execute) err_old err_new =
    ByOutputs execute.output_files (err_new ≡ err_old) (Unit {0})
QuietAsWanted (wants_explain explain) err_old err_new = err_new ≡ err_old
QuietAsWanted (wants_convert convert) err_old err_new = err_new ≡ err_old

-- Why an order on one object file is refused. Its plan is one, its jump has an address, and it has one file. What is told
-- is the line of that file, if its failure was counted, or the line of another fault, whose cause is not said. By then
-- nothing was printed, or a beginning of what is printed of the file.
pub record RefusesObject (place : PlaceWanted) (files : Option Directory) (before after : ℕ)
    (err_old err_new out_old out_new : Option (List ℕ)) : Type 0 where
  pub name : List ℕ
  pub plan : Plan
  pub jump : Option ℕ
  pub only : only_file place.files ≡ Ok name
  pub planned : plan_read place.plan ≡ Ok plan
  pub jumping : jump_read place.jump ≡ Ok jump
  pub told : TellsRefusal files (name ∷ []) before after err_old err_new
  pub printed : StopsPlaced place.action files name plan jump out_old out_new

-- why files that are listed, or whose symbols are wanted, are refused; their plan is one
pub record RefusesFilesShown (place : PlaceWanted) (files : Option Directory) (before after : ℕ)
    (err_old err_new out_old out_new : Option (List ℕ)) : Type 0 where
  pub plan : Plan
  pub planned : plan_read place.plan ≡ Ok plan
  pub refused :
      RefusesFor (RefusesShown place.action files place.files plan err_old err_new out_old out_new)
      files place.files before after err_old err_new out_old out_new

-- why an order on an object, or on files that are listed or whose symbols are wanted, is refused
abbrev pub RefusesByAction :
    PlaceAction → PlaceWanted → Option Directory → (before after : ℕ)
    → (err_old err_new out_old out_new : Option (List ℕ)) → Type 0
RefusesByAction Listing place files before after err_old err_new out_old out_new =
    RefusesFilesShown place files before after err_old err_new out_old out_new
RefusesByAction Symbols place files before after err_old err_new out_old out_new =
    RefusesFilesShown place files before after err_old err_new out_old out_new
RefusesByAction action place files before after err_old err_new out_old out_new =
    RefusesObject place files before after err_old err_new out_old out_new

abbrev pub RefusesPlaced :
    PlaceWanted → Option Directory → (before after : ℕ)
    → (err_old err_new out_old out_new : Option (List ℕ)) → Type 0
RefusesPlaced place files before after err_old err_new out_old out_new =
    RefusesByAction place.action place files before after err_old err_new out_old out_new

-- why an order to tell a need is refused: its plan is one
pub record RefusesNeed (need : NeedWanted) (files : Option Directory) (before after : ℕ)
    (err_old err_new out_old out_new : Option (List ℕ)) : Type 0 where
  pub plan : Plan
  pub planned : plan_read need.plan ≡ Ok plan
  pub refused : RefusesFor (RefusesNeedOf files need.files err_old err_new out_old out_new)
      files need.files before after err_old err_new out_old out_new

-- why an order is refused, what was told of it, and what was printed by then, and of a run with files of ports also
-- what these have; of an order to link it is only said that nothing was printed, and of one to convert Converting says
-- all
abbrev pub RefusesAsWanted :
    Wanted → (files new : Option Directory) → (before after : ℕ)
    → (err_old err_new out_old out_new : Option (List ℕ)) → Type 0
RefusesAsWanted (wants_program program) files new before after err_old err_new out_old out_new =
    ByOutputs program.output_files
    (RefusesProgram program files before after err_old err_new out_old out_new)
    (RefusesRun (RefusesProgram program files before after err_old err_new) (PrintsProgram program files)
    (outputs_in program.output_files) files new before after err_old err_new out_old out_new)
RefusesAsWanted (wants_compile compile) files new before after err_old err_new out_old out_new =
    RefusesCompiling compile files before after err_old err_new × Keeps out_old out_new
RefusesAsWanted (wants_link link) files new before after err_old err_new out_old out_new = Keeps out_old out_new
RefusesAsWanted (wants_place place) files new before after err_old err_new out_old out_new =
    RefusesPlaced place files before after err_old err_new out_old out_new
RefusesAsWanted (wants_need need) files new before after err_old err_new out_old out_new =
    RefusesNeed need files before after err_old err_new out_old out_new
RefusesAsWanted (wants_execute execute) files new before after err_old err_new out_old out_new =
    ByOutputs execute.output_files
    (RefusesExecution execute files before after err_old err_new out_old out_new)
    (RefusesRun (RefusesExecution execute files before after err_old err_new) (PrintsExecution execute files)
    (outputs_in execute.output_files) files new before after err_old err_new out_old out_new)
RefusesAsWanted (wants_explain explain) files new before after err_old err_new out_old out_new =
    (after ≡ before) × RefusesPage explain err_old err_new out_old out_new
RefusesAsWanted (wants_convert convert) files new before after err_old err_new out_old out_new = Unit {0}

-- The files that an order reads, in their order, and then the one that it writes. Not among these are files that it
-- writes for ports, and a table of lines: more is said where they can't be written.
abbrev pub names_of : Wanted → List (List ℕ)
names_of (wants_compile compile) = compile.source ∷ compile.object ∷ []
names_of (wants_program program) = program.files ++ names_in program.input_files
names_of (wants_link link) = link.objects ++ link.out ∷ []
names_of (wants_place place) = place.files
names_of (wants_need need) = need.files
names_of (wants_execute execute) = execute.objects ++ names_in execute.input_files
names_of (wants_explain explain) = []
names_of (wants_convert convert) = convert.file ∷ []

-- the same of what words want; those that give no order change no file
abbrev pub ChangesByWords : Option Wanted → Option Directory → Option Directory → Type 0
ChangesByWords None old new = KeepsFiles old new
ChangesByWords (Some wanted) old new = ChangesAsWanted wanted old new

abbrev pub names_by_words : Option Wanted → List (List ℕ)
names_by_words None = []
names_by_words (Some wanted) = names_of wanted

abbrev pub WritesByWords : Option Wanted → Option Directory → Option Directory → Type 0
WritesByWords None old new = Unit {0}
WritesByWords (Some wanted) old new = WritesAsWanted wanted old new

abbrev pub StopsByWords : Option Wanted → Option Directory → Option Directory → Type 0
StopsByWords None old new = KeepsFiles old new
StopsByWords (Some wanted) old new = StopsAsWanted wanted old new

abbrev pub PrintsByWords : Option Wanted → Option Directory → (old new : Option (List ℕ)) → Type 0
PrintsByWords None files old new = Unit {0}
PrintsByWords (Some wanted) files old new = PrintsAsWanted wanted files old new

-- words without a fault give an order, where they are not refused
abbrev pub RunsByWords :
    Option Wanted → (files new : Option Directory) → (status : ℕ)
    → (err_old err_new out_old out_new : Option (List ℕ)) → Type 0
RunsByWords None files new status err_old err_new out_old out_new = ⊥
RunsByWords (Some wanted) files new status err_old err_new out_old out_new =
    RunsAsWanted wanted files new status err_old err_new out_old out_new

abbrev pub QuietByWords : Option Wanted → (err_old err_new : Option (List ℕ)) → Type 0
QuietByWords None err_old err_new = err_new ≡ err_old
QuietByWords (Some wanted) err_old err_new = QuietAsWanted wanted err_old err_new

-- why words without a fault are refused: memory ran out before their order was known, with no file changed, or the order
-- is refused
unfoldable pub RefusesByWords :
    Option Wanted → (files new : Option Directory) → (before after : ℕ)
    → (err_old err_new out_old out_new : Option (List ℕ)) → Type 0
RefusesByWords None files new before after err_old err_new out_old out_new =
    RunsOut before after err_old err_new out_old out_new
RefusesByWords (Some wanted) files new before after err_old err_new out_old out_new =
    (KeepsFiles files new × RunsOut before after err_old err_new out_old out_new)
    ⊎ RefusesAsWanted wanted files new before after err_old err_new out_old out_new

-- the one file of an order on an object, or the first text that is refused: the texts of the plan come first,
-- then that of a jump, then the name of a second file
abbrev pub file_read : PlaceWanted → Read Text
file_read place = do
  plan ← plan_read place.plan
  jump ← jump_read place.jump
  only_file place.files

-- this text of an order that places is the first that is refused: the name of a second file is one of an object alone
abbrev pub RefusesPlaceText : PlaceAction → PlaceWanted → (text : List ℕ) → Type 0
RefusesPlaceText Listing place text = plan_read place.plan ≡ Err text
RefusesPlaceText Symbols place text = plan_read place.plan ≡ Err text
RefusesPlaceText action place text = file_read place ≡ Err text

-- this text of what is wanted is the first that is refused: it is not a value of its option, it is the name of
-- a second file, or it is not the number of a fault
abbrev pub RefusesText : Wanted → (text : List ℕ) → Type 0
RefusesText (wants_program program) text = values_read program ≡ Err text
RefusesText (wants_place place) text = RefusesPlaceText place.action place text
RefusesText (wants_need need) text = plan_read need.plan ≡ Err text
RefusesText (wants_compile compile) text = ⊥
RefusesText (wants_link link) text = ⊥
RefusesText (wants_execute execute) text = execute_read execute ≡ Err text
RefusesText (wants_explain explain) text = page_read explain ≡ Err text
RefusesText (wants_convert convert) text = ⊥

-- the line of a text that is refused was printed, or a beginning of it, which may be nothing
pub record TellsText (wanted : Wanted) (old new : Option (List ℕ)) : Type 0 where
  pub text : List ℕ
  pub refused : RefusesText wanted text
  pub told : Tells (refusal_line (codes "U4") text 0) old new

-- the line of the first text of an order on one object was printed that is refused, or a beginning of it
pub record TellsObjectText (place : PlaceWanted) (old new : Option (List ℕ)) : Type 0 where
  pub text : List ℕ
  pub refused : file_read place ≡ Err text
  pub told : Tells (refusal_line (codes "U4") text 0) old new

-- the same of what words want; those that give no order have no such text
abbrev pub TellsTextByWords : Option Wanted → (old new : Option (List ℕ)) → Type 0
TellsTextByWords None old new = ⊥
TellsTextByWords (Some wanted) old new = TellsText wanted old new

-- no text of what words want is refused
abbrev pub RefusesNoText : Option Wanted → Type 0
RefusesNoText None = Unit {0}
RefusesNoText (Some wanted) = (text : List ℕ) → RefusesText wanted text → ⊥

-- `clap` does not find that the words ask for help or for the version
abbrev pub AsksNoHelp : Kinds → Type 0
AsksNoHelp kinds = (IsAmong DisplayHelp kinds → ⊥) × (IsAmong DisplayVersion kinds → ⊥)

-- `clap` finds no fault in the words, or only that they ask for help or for the version
abbrev pub AsksHelpAtMost : Kinds → Type 0
AsksHelpAtMost kinds =
    (kind : ErrorKind) → IsAmong kind kinds → (kind ≡ DisplayHelp) ⊎ (kind ≡ DisplayVersion)
