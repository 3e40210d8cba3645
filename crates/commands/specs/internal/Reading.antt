-- The faults of single steps.
use Rattle.std.specs.Prelude.{◌≡◌, ℕ, ◌<◌, List, length, Some}
use Rattle.typed_trees.specs.TypedTrees.{TypedModule}
use Rattle.layout.specs.Joined.{join_refusal}
use Rattle.join.specs.Views.{refusal_of}
use Rattle.sources.specs.declared.read.ReadFault.{ReadFault}
use Rattle.sources.specs.Causes.{HasReadCause}
use Rattle.sources.specs.Programs.{text_of}
use Rattle.commands.specs.declared.needs.fault.NeedFault.{NeedFault}
use Rattle.commands.specs.declared.needs.fault.NeedFault.TheVariants.{TooManySources, Source, Join}
use Rattle.commands.specs.Needs.{IsReadable}

-- the fault of the source of this number, which is this text
abbrev pub IsOfSource : (place : ℕ) → (text : List ℕ) → NeedFault → Type 0
IsOfSource place text TooManySources = ⊥
IsOfSource place text (Source file fault) = (file ≡ place) × HasReadCause fault text
IsOfSource place text (Join fault) = ⊥

-- this source can't be read, and is the first of that kind, however many there are
pub record IsUnread (texts : List (List ℕ)) (file : ℕ) (fault : ReadFault) : Type 0 where
  pub before : (other : ℕ) → other < file → IsReadable (text_of texts other)
  pub below : file < length texts
  pub cause : HasReadCause fault (text_of texts file)

-- the first fault of sources
abbrev pub IsFirstFault : (texts : List (List ℕ)) → NeedFault → Type 0
IsFirstFault texts TooManySources = ⊥
IsFirstFault texts (Source file fault) = IsUnread texts file fault
IsFirstFault texts (Join fault) = ⊥

-- a fault of modules that make no program
abbrev pub IsOfJoining : List TypedModule → NeedFault → Type 0
IsOfJoining modules TooManySources = ⊥
IsOfJoining modules (Source file fault) = ⊥
IsOfJoining modules (Join fault) = join_refusal modules ≡ Some (refusal_of fault)
