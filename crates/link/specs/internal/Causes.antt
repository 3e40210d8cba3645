-- Why files have no merge, before anything is written.
use Rattle.std.specs.Prelude.{◌≡◌, ℕ, List}
use Rattle.object_modules.specs.Module.{ObjectModule}
use Rattle.object_modules.specs.Spelling.{Spells, HasFirstFault}
use Rattle.link_laws.specs.Faults.{refusal_of}
use Rattle.link.specs.Streams.{IsFirstFaulty, IsRefused}
use Rattle.link.specs.declared.StreamFault.{StreamFault}
use Rattle.link.specs.declared.StreamFault.TheVariants as stream

-- the file of this number has this fault, and spells no module
abbrev pub IsFaultyAt : (number : ℕ) → List ℕ → StreamFault → Type 0
IsFaultyAt number bytes (stream.Object file fault) =
    (file ≡ number) × HasFirstFault bytes fault × ((object : ObjectModule) → ¬ Spells bytes object)
IsFaultyAt number bytes (stream.Link fault) = ⊥
IsFaultyAt number bytes stream.Write = ⊥

-- the fault gives the reason for which the files have no merge
abbrev pub HasNoMerge : List (List ℕ) → StreamFault → Type 0
HasNoMerge files (stream.Object file fault) = IsFirstFaulty files file fault
HasNoMerge files (stream.Link fault) = IsRefused files (refusal_of fault)
HasNoMerge files stream.Write = ⊥
