-- The need of the program of sources, and why they have none.
use Rattle.std.specs.Prelude.{◌≡◌, ℕ, ◌<◌, ◌≤◌, List, [], ◌∷◌, ◌++◌, codes, decimal, length, Option, None, Some}
use Rattle.typed_trees.specs.TypedTrees.{TypedModule}
use Rattle.layout.specs.Joined.{join_refusal}
use Rattle.join.specs.declared.fault.Fault as join_fault
use Rattle.join.specs.Views.{refusal_of}
use Rattle.sources.specs.declared.read.ReadFault.{ReadFault}
use Rattle.sources.specs.Causes.{HasReadCause}
use Rattle.sources.specs.Reading.{IsSourceOf}
use Rattle.sources.specs.declared.sources.TheConstants.{MOST_SOURCES}
use Rattle.sources.specs.Programs.{AreSourcesOf, IsProgramOf, text_of}
use Rattle.stack_need.specs.StackNeed.{TellsNeed}
use Rattle.commands.specs.declared.needs.fault.NeedFault.{NeedFault}
use Rattle.commands.specs.declared.needs.fault.NeedFault.TheVariants.{TooManySources, Source, Join}

-- texts are the sources of a program, not too many, and this is told of its need
pub record IsNeedOf (texts : List (List ℕ)) (told : Option ℕ) : Type 0 where
  pub few : length texts ≤ MOST_SOURCES
  pub modules : List TypedModule
  pub program : IsProgramOf texts modules
  pub need : TellsNeed modules told

-- the line that tells a need, with a line feed (10) at its end
abbrev pub need_line : Option ℕ → List ℕ
need_line None = codes "NEED NONE" ++ 10 ∷ []
need_line (Some need) = codes "NEED " ++ (decimal need ++ 10 ∷ [])

-- the line that tells the need of the program of texts
pub record IsNeedText (texts : List (List ℕ)) (line : List ℕ) : Type 0 where
  pub told : Option ℕ
  pub need : IsNeedOf texts told
  pub line_is : line ≡ need_line told

-- a text is the source of a module
pub record IsReadable (text : List ℕ) : Type 0 where
  pub typed : TypedModule
  pub source : IsSourceOf text typed

-- this source can't be read, and is the first of that kind; there are not too many
pub record IsFirstUnread (texts : List (List ℕ)) (file : ℕ) (fault : ReadFault) : Type 0 where
  pub few : length texts ≤ MOST_SOURCES
  pub before : (other : ℕ) → other < file → IsReadable (text_of texts other)
  pub below : file < length texts
  pub cause : HasReadCause fault (text_of texts file)

-- the texts, which are not too many, are the sources of modules that make no program
pub record MakeNoProgram (texts : List (List ℕ)) (fault : join_fault.Fault) : Type 0 where
  pub few : length texts ≤ MOST_SOURCES
  pub modules : List TypedModule
  pub sources : AreSourcesOf texts modules
  pub cause : join_refusal modules ≡ Some (refusal_of fault)

-- the cause of a fault is in the texts, and those that are looked for before it have none
abbrev pub HasCause : NeedFault → List (List ℕ) → Type 0
HasCause TooManySources texts = MOST_SOURCES < length texts
HasCause (Source file fault) texts = IsFirstUnread texts file fault
HasCause (Join fault) texts = MakeNoProgram texts fault
