-- What was read from a reader.
use Rattle.std.specs.Prelude.{ℕ, List, Option}
use Rattle.std.specs.Io.KnownBytes.{Consumes, IsAtEnd}
use Rattle.object_modules.specs.declared.fault.Fault.{Fault as ObjectFault}
use Rattle.object_modules.specs.Module.{ObjectModule}
use Rattle.object_modules.specs.Spelling.{Spells, HasFirstFault}
use Rattle.objmod.specs.declared.reading.ReadFault.{ReadFault}
use Rattle.objmod.specs.declared.reading.ReadFault.TheVariants.{Read, Object}

-- some bytes were taken from the front of what was left
abbrev pub TakesSome : (old new : Option (List ℕ)) → Type 0
TakesSome old new = (bytes : List ℕ) × Consumes old new bytes

-- all bytes were read, and they spell the module
pub record ReadsModule (old new : Option (List ℕ)) (object : ObjectModule) : Type 0 where
  pub bytes : List ℕ
  pub read : Consumes old new bytes
  pub at_end : IsAtEnd new
  pub spelled : Spells bytes object

-- all bytes were read, they have this first fault and spell no module
pub record ReadsFault (old new : Option (List ℕ)) (fault : ObjectFault) : Type 0 where
  pub bytes : List ℕ
  pub read : Consumes old new bytes
  pub at_end : IsAtEnd new
  pub faulty : HasFirstFault bytes fault
  pub none : (object : ObjectModule) → ¬ Spells bytes object

-- the meaning of a fault of a reader, for the bytes that it had
abbrev pub HasReadFault : (old new : Option (List ℕ)) → ReadFault → Type 0
HasReadFault old new Read = TakesSome old new
HasReadFault old new (Object fault) = ReadsFault old new fault
