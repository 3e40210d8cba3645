-- Why sources were not run, interpreted or compiled, what was told of it, and what was printed by then.
use Rattle.std.specs.Prelude.{◌≡◌, ◌⊎◌, ℕ, ◌≤◌, Bool, List, [], ◌∷◌, ◌++◌, length, Ok, Option}
use Rattle.std.specs.Io.KnownBytes.{Keeps}
use Rattle.ports.specs.Events.{CountsFailure}
use Rattle.host.specs.Files.{Directory, HasFile}
use Rattle.host.specs.Reading.{HasFiles, StopsAt}
use Rattle.host.specs.Refusals.{Tells, file_line, memory_line, output_line}
use Rattle.object_modules.specs.Module.{ObjectModule}
use Rattle.command_line.specs.Command.{CompileWanted, ProgramWanted}
use Rattle.command_line.specs.Settings.{Values, values_read}
use Rattle.command_line.specs.declared.orders.Action.{Action}
use Rattle.mem80.specs.declared.plan.Plan.{Plan}
use Rattle.sources.specs.declared.sources.TheConstants.{MOST_SOURCES}
use Rattle.sources.specs.Programs.{IsProgramOf, program_modules}
use Rattle.tool.specs.Construction.{Construction, IsConstruction}
use Rattle.tool.specs.Made.{IsCompiledTo}
use Rattle.tool.specs.Sources.{HasCause, IsInOrder, IsRefusedAlone}
use Rattle.tool.specs.declared.fault.ToolFault.{ToolFault}
use Rattle.tool.specs.declared.fault.ToolFault.TheVariants.{TooManySources}
use Rattle.commands.specs.ProgramFaults.{fault_line}
use Rattle.commands.specs.InputFiles.{HasInput, input_names}
use Rattle.commands.specs.Map.{map_if}
use Rattle.commands.specs.Running.{StopsBuilt}

-- The line of a fault was told, which is to say that it was printed, or a beginning of it, which may be
-- nothing. The cause of the fault is in the texts or in the plan. That there are too many texts is told
-- before all other faults, and each text that comes before the fault has none. The files of the texts have
-- these names.
pub record TellsCause (names texts : List (List ℕ)) (plan : Plan) (old new : Option (List ℕ)) : Type 0 where
  pub fault : ToolFault
  pub cause : HasCause fault texts plan
  pub few : (fault ≡ TooManySources → ⊥) → length texts ≤ MOST_SOURCES
  pub order : IsInOrder fault texts
  pub told : Tells (fault_line names fault) old new

-- it was told that memory ran out, or that standard output was not written
unfoldable pub TellsUnwritten : (old new : Option (List ℕ)) → Type 0
TellsUnwritten old new = Tells memory_line old new ⊎ Tells output_line old new

-- A program was built of the texts, which are not too many, at the plan of the values, and then memory ran
-- out or standard output was not written. What was printed by then is a beginning of what an action prints of
-- the program, which may be nothing or all.
pub record StopsTexts (action : Action) (map : Bool) (values : Values) (texts : List (List ℕ))
    (err_old err_new out_old out_new : Option (List ℕ)) : Type 0 where
  pub built : Construction
  pub few : length texts ≤ MOST_SOURCES
  pub program : IsProgramOf texts (program_modules built.program)
  pub plan : built.plan ≡ values.plan
  pub construction : IsConstruction built
  pub told : TellsUnwritten err_old err_new
  pub printed : StopsBuilt action (map_if map built) values built out_old out_new

-- Why an action was not carried out on texts: for a fault of theirs or of the plan, or since memory ran out, with
-- nothing printed; or once their program was built. The files of the texts have these names.
unfoldable pub RefusesTexts :
    Action → (map : Bool) → Values → (names texts : List (List ℕ))
    → (err_old err_new out_old out_new : Option (List ℕ)) → Type 0
RefusesTexts action map values names texts err_old err_new out_old out_new =
    (Keeps out_old out_new
    × (TellsCause names texts values.plan err_old err_new ⊎ Tells memory_line err_old err_new))
    ⊎ StopsTexts action map values texts err_old err_new out_old out_new

-- the files of the input were read, and with the values that they give the action that is wanted was not carried out
-- on texts
pub record RefusesRead (wanted : ProgramWanted) (values : Values) (files : Option Directory)
    (texts : List (List ℕ)) (err_old err_new out_old out_new : Option (List ℕ)) : Type 0 where
  pub full : Values
  pub input : HasInput files values full
  pub refused :
      RefusesTexts wanted.action wanted.map full wanted.files texts err_old err_new out_old out_new

-- the files that are wanted have texts, and the action that is wanted was not carried out on these
pub record RefusesFiles (wanted : ProgramWanted) (values : Values) (files : Option Directory)
    (err_old err_new out_old out_new : Option (List ℕ)) : Type 0 where
  pub texts : List (List ℕ)
  pub read : HasFiles files wanted.files texts
  pub refused : RefusesRead wanted values files texts err_old err_new out_old out_new

-- a file was told at which a command stopped, and its failure was counted
pub record TellsFile (stops : (name : List ℕ) → Type 0) (before after : ℕ) (old new : Option (List ℕ)) :
    Type 0 where
  pub counted : CountsFailure before after
  pub name : List ℕ
  pub stopped : stops name
  pub told : Tells (file_line name) old new

-- it was told that memory ran out, with nothing printed and no failure counted
pub record RunsOut (before after : ℕ) (err_old err_new out_old out_new : Option (List ℕ)) : Type 0 where
  pub count : after ≡ before
  pub told : Tells memory_line err_old err_new
  pub nothing : Keeps out_old out_new

-- A command that first reads the files of these names was refused: at one of them, before which all have
-- texts, or since memory ran out, with nothing printed; or, where no failure was counted, for this reason.
unfoldable pub RefusesFor :
    (reason : Type 0) → (files : Option Directory) → (names : List (List ℕ)) → (before after : ℕ)
    → (err_old err_new out_old out_new : Option (List ℕ)) → Type 0
RefusesFor reason files names before after err_old err_new out_old out_new =
    (Keeps out_old out_new × TellsFile (StopsAt files names) before after err_old err_new)
    ⊎ (RunsOut before after err_old err_new out_old out_new ⊎ ((after ≡ before) × reason))

-- why sources were not run or interpreted with the values that are written; they are read first, and then the files of
-- the input
pub record RefusesWithValues (wanted : ProgramWanted) (files : Option Directory) (before after : ℕ)
    (err_old err_new out_old out_new : Option (List ℕ)) : Type 0 where
  pub values : Values
  pub written : values_read wanted ≡ Ok values
  pub refused : RefusesFor (RefusesFiles wanted values files err_old err_new out_old out_new)
      files (wanted.files ++ input_names values) before after err_old err_new out_old out_new

-- the same, or memory ran out before the values were known
unfoldable pub RefusesProgram :
    ProgramWanted → (files : Option Directory) → (before after : ℕ)
    → (err_old err_new out_old out_new : Option (List ℕ)) → Type 0
RefusesProgram wanted files before after err_old err_new out_old out_new =
    RunsOut before after err_old err_new out_old out_new
    ⊎ RefusesWithValues wanted files before after err_old err_new out_old out_new

-- the file of this name has a text that is compiled to an object module
pub record HasObject (files : Option Directory) (name : List ℕ) : Type 0 where
  pub text : List ℕ
  pub read : HasFile files name text
  pub object : ObjectModule
  pub compiled : IsCompiledTo text object

-- the file at which compiling stopped: the source, or, once that was compiled, the object file
abbrev pub StopsCompilingAt : CompileWanted → (files : Option Directory) → (name : List ℕ) → Type 0
StopsCompilingAt wanted files name =
    (name ≡ wanted.source) ⊎ ((name ≡ wanted.object) × HasObject files wanted.source)

-- the file of this name has a text that is not compiled, for a fault that was told
pub record TellsOfSource (name : List ℕ) (files : Option Directory) (old new : Option (List ℕ)) : Type 0 where
  pub text : List ℕ
  pub read : HasFile files name text
  pub fault : ToolFault
  pub cause : IsRefusedAlone text fault
  pub told : Tells (fault_line (name ∷ []) fault) old new

-- why a source was not compiled: for the file at which that stopped; or, where no failure was counted, since
-- memory ran out or for a fault of the source
unfoldable pub RefusesCompiling :
    CompileWanted → (files : Option Directory) → (before after : ℕ) → (old new : Option (List ℕ)) → Type 0
RefusesCompiling wanted files before after old new =
    TellsFile (StopsCompilingAt wanted files) before after old new
    ⊎ ((after ≡ before) × (Tells memory_line old new ⊎ TellsOfSource wanted.source files old new))
