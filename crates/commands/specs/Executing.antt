-- What is printed of objects that are run, and why they are not.
use Rattle.std.specs.Prelude.{◌≡◌, ◌⊎◌, ℕ, List, [], Ok, Option}
use Rattle.std.specs.Io.KnownBytes.{Keeps}
use Rattle.host.specs.Files.{Directory}
use Rattle.locate.specs.Locating.{Absolute}
use Rattle.command_line.specs.Command.{ExecuteWanted}
use Rattle.command_line.specs.Settings.{Values, execute_read}
use Rattle.object_commands.specs.Merging.{PlacesMerge, RefusesPlacing}
use Rattle.commands.specs.InputFiles.{HasInput, input_names}
use Rattle.commands.specs.Refusing.{RefusesFor, RunsOut, TellsUnwritten}
use Rattle.commands.specs.Running.{BeginsImage, PrintsImage}
use Rattle.commands.specs.Standing.{no_names}

-- of what an image does nothing was printed, or a beginning
abbrev pub StopsImage : (names : List (List ℕ)) → Values → Absolute → (old new : Option (List ℕ)) → Type 0
StopsImage names values image old new = Keeps old new ⊎ BeginsImage names [] values image old new

-- the files of the input were read, and with the values that they give this was printed of an image
pub record PrintsRead (values : Values) (files : Option Directory) (image : Absolute) (status : ℕ)
    (outputs : List (List ℕ)) (old new : Option (List ℕ)) : Type 0 where
  pub full : Values
  pub input : HasInput files values full
  pub printed : PrintsImage no_names [] full image status outputs old new

-- the merge of the objects that are wanted, placed by the plan of these values, was run, and this was printed
pub record PrintsMerge (wanted : ExecuteWanted) (values : Values) (files : Option Directory) (status : ℕ)
    (outputs : List (List ℕ)) (old new : Option (List ℕ)) : Type 0 where
  pub image : Absolute
  pub placed : PlacesMerge files wanted.objects values.plan image
  pub printed : PrintsRead values files image status outputs old new

-- the same with the values that are written
pub record PrintsExecution (wanted : ExecuteWanted) (files : Option Directory) (status : ℕ)
    (outputs : List (List ℕ)) (old new : Option (List ℕ)) : Type 0 where
  pub values : Values
  pub written : execute_read wanted ≡ Ok values
  pub printed : PrintsMerge wanted values files status outputs old new

-- The files of the input were read, and then memory ran out or standard output was not written. What was printed by then
-- is a beginning of what is printed of an image with the values that they give, which may be nothing or all.
pub record StopsRead (values : Values) (files : Option Directory) (image : Absolute)
    (err_old err_new out_old out_new : Option (List ℕ)) : Type 0 where
  pub full : Values
  pub input : HasInput files values full
  pub told : TellsUnwritten err_old err_new
  pub printed : StopsImage no_names full image out_old out_new

-- the merge of the objects was placed, and not run whole: for a file of the input, for memory, or for that reason
pub record StopsMerge (wanted : ExecuteWanted) (values : Values) (files : Option Directory) (before after : ℕ)
    (err_old err_new out_old out_new : Option (List ℕ)) : Type 0 where
  pub image : Absolute
  pub placed : PlacesMerge files wanted.objects values.plan image
  pub stopped : RefusesFor (StopsRead values files image err_old err_new out_old out_new)
      files (input_names values) before after err_old err_new out_old out_new

-- Why objects were not run with these values: their merge was not placed, with nothing printed; or it was placed.
unfoldable pub RefusesObjects :
    ExecuteWanted → Values → (files : Option Directory) → (before after : ℕ)
    → (err_old err_new out_old out_new : Option (List ℕ)) → Type 0
RefusesObjects wanted values files before after err_old err_new out_old out_new =
    (Keeps out_old out_new × RefusesPlacing files wanted.objects values.plan before after err_old err_new)
    ⊎ StopsMerge wanted values files before after err_old err_new out_old out_new

-- the same with the values that are written
pub record RefusesValues (wanted : ExecuteWanted) (files : Option Directory) (before after : ℕ)
    (err_old err_new out_old out_new : Option (List ℕ)) : Type 0 where
  pub values : Values
  pub written : execute_read wanted ≡ Ok values
  pub refused : RefusesObjects wanted values files before after err_old err_new out_old out_new

-- the same, or memory ran out before the values were known
unfoldable pub RefusesExecution :
    ExecuteWanted → (files : Option Directory) → (before after : ℕ)
    → (err_old err_new out_old out_new : Option (List ℕ)) → Type 0
RefusesExecution wanted files before after err_old err_new out_old out_new =
    RunsOut before after err_old err_new out_old out_new
    ⊎ RefusesValues wanted files before after err_old err_new out_old out_new
