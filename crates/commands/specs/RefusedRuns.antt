-- Runs with files of ports that were refused: why, what the files have then, and what standard output has.
use Rattle.std.specs.Prelude.{◌≡◌, ◌⊎◌, ℕ, false, List, [], ◌∷◌, ◌++◌, length, unwrap_or, Option, Some}
use Rattle.std.specs.Io.KnownBytes.{Keeps}
use Rattle.host.specs.Writing.{AppendsBeginning}
use Rattle.host.specs.Files.{ChangesFiles, Directory, KeepsFiles}
use Rattle.object_commands.specs.Linking.{StopsWriting}
use Rattle.commands.specs.OutputFiles.{dash_bytes, is_dash, with_outputs}
use Rattle.commands.specs.Refusing.{RunsOut, TellsFile, TellsUnwritten}

-- a file that was not written whole: it has a beginning of these bytes, or is as it was, and the others stay
pub record StopsOutput (name bytes : List ℕ) (old new : Option Directory) : Type 0 where
  -- it is not standard output, which is no file
  pub file : is_dash name ≡ false
  -- it has a beginning of the bytes, or is as it was
  pub stopped : StopsWriting old new name bytes

-- Files of these names were to have these bytes, each its own, one after another, and the one of this name was not
-- written whole: those before it are whole, it has a beginning of its bytes or is as it was, and those after it stay.
pub record StopsOutputs (names outputs : List (List ℕ)) (name : List ℕ) (old new : Option Directory) : Type 0 where
  -- the names of the files before it
  pub earlier : List (List ℕ)
  -- the names of the files after it
  pub later : List (List ℕ)
  pub names_are : names ≡ earlier ++ name ∷ later
  -- the bytes of the files before it
  pub whole : List (List ℕ)
  -- its own bytes
  pub bytes : List ℕ
  -- the bytes of the files after it
  pub left : List (List ℕ)
  pub outputs_are : outputs ≡ whole ++ bytes ∷ left
  -- each file before it has bytes
  pub as_many : length earlier ≡ length whole
  -- the files once those before it were written
  pub between : Option Directory
  -- those before it were written whole, and nothing else
  pub written : ChangesFiles old between (with_outputs earlier whole)
  -- then it was not written whole, and the others stayed
  pub stopped : StopsOutput name bytes between new

-- of these files one was not written whole
pub record LeavesOutputs (names outputs : List (List ℕ)) (old new : Option Directory) : Type 0 where
  -- its name
  pub name : List ℕ
  -- what the files have
  pub stopped : StopsOutputs names outputs name old new

-- standard output was not written whole, which was to have these bytes, or the lines if there are none
pub record StopsShowing (bytes : Option (List ℕ)) (lines : List ℕ)
    (err_old err_new out_old out_new : Option (List ℕ)) : Type 0 where
  -- it was told that memory ran out, or that standard output was not written
  pub told : TellsUnwritten err_old err_new
  -- standard output has a beginning of what it was to have, which may be nothing or all
  pub begun : AppendsBeginning out_old out_new (unwrap_or bytes lines)

module _ (names outputs : List (List ℕ)) (old new : Option Directory) (before after : ℕ)
    (err_old err_new out_old out_new : Option (List ℕ)) where
  -- a file of a port could not be written
  pub record StopsAtFile : Type 0 where
    -- its name was told, its failure was counted, and the files before it, it and those after it are as said above
    pub told : TellsFile (λ name. StopsOutputs names outputs name old new) before after err_old err_new
    -- standard output has nothing
    pub nothing : Keeps out_old out_new

  -- memory ran out as a file of a port was written
  pub record RunsOutAtFile : Type 0 where
    -- the files before it, it and those after it are as said above
    pub files : LeavesOutputs names outputs old new
    -- that was told, no failure was counted, and standard output has nothing
    pub memory : RunsOut before after err_old err_new out_old out_new

  -- all files of ports were written, and standard output was not written whole, which was to have the bytes of its port,
  -- or the lines where it has none
  pub record StopsAtOutput (lines : List ℕ) : Type 0 where
    -- the files are whole
    pub files : ChangesFiles old new (with_outputs names outputs)
    -- no failure of a file was counted
    pub count : after ≡ before
    -- what was told, and what standard output has
    pub shown : StopsShowing (dash_bytes names outputs) lines err_old err_new out_old out_new

  -- Why a run that had ended was not delivered, with these lines and these bytes for the files of ports: the files are
  -- written first, in the order of the options, and standard output last.
  unfoldable pub Undelivered : (lines : List ℕ) → Type 0
  Undelivered lines = StopsAtFile ⊎ (RunsOutAtFile ⊎ StopsAtOutput lines)

-- A run was refused before its lines and the bytes for its files were all there.
pub record RefusesUnended (refuses : (old new : Option (List ℕ)) → Type 0) (old new : Option Directory)
    (out_old out_new : Option (List ℕ)) : Type 0 where
  -- the lines that were kept by then
  pub lines : List ℕ
  -- why, and what was told: as without files of ports, where the lines that are kept here would have been printed
  pub refused : refuses (Some []) (Some lines)
  -- no file was begun
  pub files : KeepsFiles old new
  -- standard output has nothing
  pub nothing : Keeps out_old out_new

-- A run ended, and was then not delivered.
pub record RefusesEnded (prints : (status : ℕ) → (outputs : List (List ℕ)) → (old new : Option (List ℕ)) → Type 0)
    (names : List (List ℕ)) (old new : Option Directory) (before after : ℕ)
    (err_old err_new out_old out_new : Option (List ℕ)) : Type 0 where
  -- the status that it would have ended with
  pub status : ℕ
  -- the bytes for the files of ports
  pub outputs : List (List ℕ)
  -- its lines
  pub lines : List ℕ
  -- it gives these bytes, and prints these lines
  pub printed : prints status outputs (Some []) (Some lines)
  -- why it was not delivered, what the files have, and what standard output has
  pub undelivered : Undelivered names outputs old new before after err_old err_new out_old out_new lines

-- Why a run with files of these names was refused, what the files have, and what standard output has: it was refused before
-- it had ended, with no file begun, or it was not delivered.
unfoldable pub RefusesRun :
    (refuses : (old new : Option (List ℕ)) → Type 0)
    → (prints : (status : ℕ) → (outputs : List (List ℕ)) → (old new : Option (List ℕ)) → Type 0)
    → (names : List (List ℕ)) → (old new : Option Directory) → (before after : ℕ)
    → (err_old err_new out_old out_new : Option (List ℕ)) → Type 0
RefusesRun refuses prints names old new before after err_old err_new out_old out_new =
    RefusesUnended refuses old new out_old out_new
    ⊎ RefusesEnded prints names old new before after err_old err_new out_old out_new
