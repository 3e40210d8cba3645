-- Merges of files, as they are written.
use Rattle.std.specs.Prelude.{◌≡◌, ℕ, List, ◌∷◌, ◌++◌, length, Option, Ok, Err}
use Rattle.std.specs.List.{AllZip}
use Rattle.failure.specs.Writing.{AppendsBeginning}
use Rattle.std.specs.Io.KnownBytes.{Appends, Keeps}
use Rattle.object_modules.specs.declared.fault.Fault.{Fault}
use Rattle.object_modules.specs.Module.{ObjectModule}
use Rattle.object_modules.specs.Spelling.{Spells, HasFirstFault}
use Rattle.object_modules.specs.Merge.{LinkRefusal, merge_of}
use Rattle.object_modules.specs.Text.{text_of}
use Rattle.link_laws.specs.Faults.{refusal_of}
use Rattle.link.specs.declared.StreamFault.{StreamFault}
use Rattle.link.specs.declared.StreamFault.TheVariants as stream

-- files spell modules, and the merge of these is this
pub record Merges (files : List (List ℕ)) (object : ObjectModule) : Type 0 where
  pub objects : List ObjectModule
  pub spelled : AllZip Spells files objects
  pub merged : merge_of objects ≡ Ok object

-- what has been written is the text of the merge, or a beginning of it
pub record WritesMerge (files : List (List ℕ)) (old new : Option (List ℕ)) : Type 0 where
  pub object : ObjectModule
  pub merges : Merges files object
  pub written : Appends old new (text_of object)

pub record BeginsMerge (files : List (List ℕ)) (old new : Option (List ℕ)) : Type 0 where
  pub object : ObjectModule
  pub merges : Merges files object
  pub written : AppendsBeginning old new (text_of object)

-- the files before this one spell modules, and it has this fault
pub record IsFirstFaulty (files : List (List ℕ)) (file : ℕ) (fault : Fault) : Type 0 where
  pub before : List (List ℕ)
  pub bytes : List ℕ
  pub after : List (List ℕ)
  pub objects : List ObjectModule
  pub split : files ≡ before ++ bytes ∷ after
  pub number : file ≡ length before
  pub spelled : AllZip Spells before objects
  pub faulty : HasFirstFault bytes fault
  pub none : (object : ObjectModule) → ¬ Spells bytes object

-- the files spell modules that have no merge
pub record IsRefused (files : List (List ℕ)) (refusal : LinkRefusal) : Type 0 where
  pub objects : List ObjectModule
  pub spelled : AllZip Spells files objects
  pub refused : merge_of objects ≡ Err refusal

-- the meaning of a fault of a stream, for the files and for the bytes that were written
abbrev pub HasStreamFault : List (List ℕ) → (old new : Option (List ℕ)) → StreamFault → Type 0
HasStreamFault files old new (stream.Object file fault) = IsFirstFaulty files file fault × Keeps old new
HasStreamFault files old new (stream.Link fault) = IsRefused files (refusal_of fault) × Keeps old new
HasStreamFault files old new stream.Write = BeginsMerge files old new
