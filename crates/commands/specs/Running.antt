-- What is printed of a program that is run or interpreted.
use Rattle.std.specs.Prelude.{◌≡◌, ◌⊎◌, ℕ, ◌≤◌, Bool, true, List, [], ◌++◌, length}
use Rattle.std.specs.Prelude.{Ok, Option}
use Rattle.std.specs.Io.KnownBytes.{Appends}
use Rattle.host.specs.Writing.{AppendsBeginning}
use Rattle.ports.specs.declared.event.Event.{Event}
use Rattle.host.specs.Files.{Directory}
use Rattle.host.specs.Reading.{HasFiles}
use Rattle.printing.specs.Report.{report_of}
use Rattle.cpu8080.specs.declared.machine.End.{End}
use Rattle.locate.specs.Locating.{Absolute}
use Rattle.meaning.specs.Outcomes.{Stop}
use Rattle.command_line.specs.Command.{ProgramWanted}
use Rattle.command_line.specs.Settings.{Values, values_read}
use Rattle.command_line.specs.declared.orders.Action.{Action}
use Rattle.command_line.specs.declared.orders.Action.TheVariants as actions
use Rattle.sources.specs.declared.sources.TheConstants.{MOST_SOURCES}
use Rattle.sources.specs.Programs.{IsProgramOf, program_modules}
use Rattle.tool.specs.Construction.{Construction, IsConstruction}
use Rattle.tool.specs.Execution.{source_of, started}
use Rattle.commands.specs.Ends.{GivesInput, machine_status, machine_word, source_status, source_word}
use Rattle.commands.specs.InputFiles.{HasInput, quiet_ports}
use Rattle.commands.specs.Map.{map_if}
use Rattle.commands.specs.OutputFiles.{outputs_of}
use Rattle.commands.specs.Standing.{NamesLine, NamesPlace, StandsAt, module_names, with_place}
use Rattle.commands.specs.Starting.{IsStart}
use Rattle.commands.specs.Steps.{CarriesOut, DoesAsSource, DoesOnMachine, UsesBudget, last_words}

-- the lines of these events, but for those of quiet ports, and then the last words, with this number of steps and this
-- text of the place
abbrev pub run_report : Values → List Event → (steps : ℕ) → (word text : List ℕ) → List ℕ
run_report values events steps word text =
    report_of (quiet_ports values) events
    (last_words values.watch.count steps (with_place values.watch.place word text))

-- What an image does on a memory as these values start it, with their input and their limit: how it ends, its events, the
-- number of its steps, where they are counted, and where it stands at its end, where that is wanted.
pub record ImageDoes (values : Values) (image : Absolute) (end : Option End) (events : List Event) (steps place : ℕ) :
    Type 0 where
  pub memory : List ℕ
  pub start : IsStart values memory
  pub script : List (List ℕ)
  pub gives : GivesInput values.input script
  pub does : DoesOnMachine values.watch.until_dry values.limit (started image memory script [] 0) end events
  pub counted : values.watch.count ≡ true
      → CarriesOut values.limit (started image memory script [] 0) end events steps
  pub stands : values.watch.place ≡ true
      → StandsAt values.limit (started image memory script [] 0) end events place

-- after this text it was printed, with its place in modules of these names or as an address, and these are the bytes for
-- the files of ports
pub record PrintsImage (names : List (List ℕ)) (before : List ℕ) (values : Values) (image : Absolute) (status : ℕ)
    (outputs : List (List ℕ)) (old new : Option (List ℕ)) : Type 0 where
  pub end : Option End
  pub events : List Event
  pub steps : ℕ
  pub place : ℕ
  pub text : List ℕ
  pub does : ImageDoes values image end events steps place
  pub named : values.watch.place ≡ true → NamesPlace names place text
  pub ended : status ≡ machine_status end
  pub gathered : outputs ≡ outputs_of values events
  pub printed : Appends old new (before ++ run_report values events steps (machine_word end) text)

-- a beginning of that was printed
pub record BeginsImage (names : List (List ℕ)) (before : List ℕ) (values : Values) (image : Absolute)
    (old new : Option (List ℕ)) : Type 0 where
  pub end : Option End
  pub events : List Event
  pub steps : ℕ
  pub place : ℕ
  pub text : List ℕ
  pub does : ImageDoes values image end events steps place
  pub named : values.watch.place ≡ true → NamesPlace names place text
  pub printed : AppendsBeginning old new (before ++ run_report values events steps (machine_word end) text)

-- the same of what a program means, from a memory as these values start it, with their input and their budget
pub record SourceDoes (values : Values) (built : Construction) (end : Option (Option Stop)) (events : List Event)
    (steps : ℕ) : Type 0 where
  pub memory : List ℕ
  pub start : IsStart values memory
  pub script : List (List ℕ)
  pub gives : GivesInput values.input script
  pub does : DoesAsSource values.watch.until_dry script (source_of built memory script []) values.limit end events
  pub counted : values.watch.count ≡ true
      → UsesBudget (source_of built memory script []) values.limit end events steps

-- after this text it was printed, with the line of its place, and these are the bytes for the files of ports
pub record PrintsMeaning (before : List ℕ) (values : Values) (built : Construction) (status : ℕ)
    (outputs : List (List ℕ)) (old new : Option (List ℕ)) : Type 0 where
  pub end : Option (Option Stop)
  pub events : List Event
  pub steps : ℕ
  pub text : List ℕ
  pub does : SourceDoes values built end events steps
  pub named : values.watch.place ≡ true → NamesLine (module_names built.program) text
  pub ended : status ≡ source_status end
  pub gathered : outputs ≡ outputs_of values events
  pub printed : Appends old new (before ++ run_report values events steps (source_word end) text)

-- a beginning of that was printed
pub record BeginsMeaning (before : List ℕ) (values : Values) (built : Construction) (old new : Option (List ℕ)) :
    Type 0 where
  pub end : Option (Option Stop)
  pub events : List Event
  pub steps : ℕ
  pub text : List ℕ
  pub does : SourceDoes values built end events steps
  pub named : values.watch.place ≡ true → NamesLine (module_names built.program) text
  pub printed : AppendsBeginning old new (before ++ run_report values events steps (source_word end) text)

-- what an action prints of a program
abbrev pub PrintsBuilt :
    Action → (before : List ℕ) → Values → Construction → (status : ℕ) → (outputs : List (List ℕ))
    → (old new : Option (List ℕ)) → Type 0
PrintsBuilt actions.Run before values built status outputs old new =
    PrintsImage (module_names built.program) before values built.image status outputs old new
PrintsBuilt actions.Interpret before values built status outputs old new =
    PrintsMeaning before values built status outputs old new

-- a beginning of that was printed, of the text before and of what follows it
abbrev pub BeginsBuilt :
    Action → (before : List ℕ) → Values → Construction → (old new : Option (List ℕ)) → Type 0
BeginsBuilt actions.Run before values built old new =
    BeginsImage (module_names built.program) before values built.image old new
BeginsBuilt actions.Interpret before values built old new = BeginsMeaning before values built old new

-- a beginning was printed: of the text before, where memory ran out or the writer failed by then; or of that and
-- what follows it
unfoldable pub StopsBuilt :
    Action → (before : List ℕ) → Values → Construction → (old new : Option (List ℕ)) → Type 0
StopsBuilt action before values built old new =
    AppendsBeginning old new before ⊎ BeginsBuilt action before values built old new

-- a program was built of these texts, which are not too many, at the plan of these values, and what an action
-- prints of it was printed, after its map where one is wanted
pub record PrintsTexts (action : Action) (map : Bool) (values : Values) (texts : List (List ℕ)) (status : ℕ)
    (outputs : List (List ℕ)) (old new : Option (List ℕ)) : Type 0 where
  pub built : Construction
  pub few : length texts ≤ MOST_SOURCES
  pub program : IsProgramOf texts (program_modules built.program)
  pub plan : built.plan ≡ values.plan
  pub construction : IsConstruction built
  pub printed : PrintsBuilt action (map_if map built) values built status outputs old new

-- the files of the input were read, and with the values that they give this was printed of texts
pub record PrintsRead (wanted : ProgramWanted) (values : Values) (files : Option Directory)
    (texts : List (List ℕ)) (status : ℕ)
    (outputs : List (List ℕ)) (old new : Option (List ℕ)) : Type 0 where
  pub full : Values
  pub input : HasInput files values full
  pub printed : PrintsTexts wanted.action wanted.map full texts status outputs old new

-- the files that are wanted have texts, and with these values this was printed of the texts
pub record PrintsFiles (wanted : ProgramWanted) (values : Values) (files : Option Directory) (status : ℕ)
    (outputs : List (List ℕ)) (old new : Option (List ℕ)) : Type 0 where
  pub texts : List (List ℕ)
  pub read : HasFiles files wanted.files texts
  pub printed : PrintsRead wanted values files texts status outputs old new

-- the same with the values that are written
pub record PrintsProgram (wanted : ProgramWanted) (files : Option Directory) (status : ℕ)
    (outputs : List (List ℕ)) (old new : Option (List ℕ)) : Type 0 where
  pub values : Values
  pub written : values_read wanted ≡ Ok values
  pub printed : PrintsFiles wanted values files status outputs old new
