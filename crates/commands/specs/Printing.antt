-- What is printed of the need of sources, and where they have none.
use Rattle.std.specs.Prelude.{◌⊎◌, ℕ, List, Option}
use Rattle.std.specs.Io.KnownBytes.{Appends, Keeps}
use Rattle.host.specs.Writing.{AppendsBeginning}
use Rattle.host.specs.Refusals.{Tells, memory_line, output_line}
use Rattle.commands.specs.Needs.{HasCause, IsNeedText}
use Rattle.commands.specs.declared.needs.fault.NeedFault.{NeedFault}
use Rattle.commands.specs.NeedFaults.{fault_line}

-- the line that tells the need of the program of these texts was written
pub record PrintsNeed (texts : List (List ℕ)) (old new : Option (List ℕ)) : Type 0 where
  pub line : List ℕ
  pub need : IsNeedText texts line
  pub printed : Appends old new line

-- a beginning of that line was written
pub record BeginsNeed (texts : List (List ℕ)) (old new : Option (List ℕ)) : Type 0 where
  pub line : List ℕ
  pub need : IsNeedText texts line
  pub printed : AppendsBeginning old new line

-- what was not printed whole: nothing was written, or a beginning of the line
abbrev pub StopsNeed : (texts : List (List ℕ)) → (old new : Option (List ℕ)) → Type 0
StopsNeed texts old new = Keeps old new ⊎ BeginsNeed texts old new

-- The line of a fault was told, which is to say that it was printed, or a beginning of it, which may be nothing. Its
-- cause is in the texts, and those that are looked for before it have none. The files of the texts have these names.
pub record TellsCause (names texts : List (List ℕ)) (old new : Option (List ℕ)) : Type 0 where
  pub fault : NeedFault
  pub cause : HasCause fault texts
  pub told : Tells (fault_line names fault) old new

-- the line of standard output was told: the texts have a need, which was not written
pub record TellsOutput (texts : List (List ℕ)) (old new : Option (List ℕ)) : Type 0 where
  pub line : List ℕ
  pub need : IsNeedText texts line
  pub told : Tells output_line old new

-- the line of a fault was told, or that memory ran out, or that the need was not written
abbrev pub TellsNoNeed : (names texts : List (List ℕ)) → (old new : Option (List ℕ)) → Type 0
TellsNoNeed names texts old new =
    TellsCause names texts old new ⊎ (Tells memory_line old new ⊎ TellsOutput texts old new)
