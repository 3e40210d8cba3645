-- What memory holds where a machine that performs what a source does has halted.
use Rattle.std.specs.Prelude.{◌≡◌, ℕ, ◌⊎◌, List}
use Rattle.mem80.specs.Memory.{IsMemory, byte_at}
use Rattle.mem80.specs.Range.{IsIn}
use Rattle.isa8080.specs.declared.registers.Status.TheVariants.{Halted}
use Rattle.isa8080.specs.State.{State}
use Rattle.typed_trees.specs.TypedTrees.{TypedModule}
use Rattle.layout.specs.Placement.{AgreesOnDeclared, IsWritable, Placement}
use Rattle.meaning.specs.Outcomes.{Flow, Outcome, State as SourceState}
use Rattle.meaning.specs.Run.{EndsIn}

-- a byte that a run may change: a declared byte that is not a constant, or a byte of the stack
abbrev pub MayBeChanged : List TypedModule → Placement → (address : ℕ) → Type 0
MayBeChanged modules placement address = IsWritable modules placement address ⊎ IsIn address placement.stack

-- A memory at the end of a run, beside the memory that the run started with and that of the source at its
-- end: each declared byte is the source's, and no byte changed but those that a run may change.
pub record HoldsAtEnd
    (modules : List TypedModule) (placement : Placement) (started source ended : List ℕ) : Type 0 where
  pub is_memory : IsMemory ended
  pub declared : AgreesOnDeclared modules placement source ended
  pub others : (address : ℕ) → ¬ MayBeChanged modules placement address
      → byte_at ended address ≡ byte_at started address

-- The machine ends as the source does, with its events and its memory: where the source with budget n has
-- ended, by HALT in any call or at the end of the main program, the machine halts so; and where the machine
-- has halted after k steps, some run of the source has ended so.
pub record EndsAlike
    (modules : List TypedModule) (placement : Placement) (source : ℕ → Outcome Flow) (machine : ℕ → State) :
    Type 0 where
  pub when_ended : (n : ℕ) (t : SourceState)
      → EndsIn (source n) t
      → (k : ℕ) × ((machine k).status ≡ Halted) × ((machine k).events ≡ t.events)
      × HoldsAtEnd modules placement (machine 0).memory t.memory (machine k).memory
  pub when_halted : (k : ℕ)
      → (machine k).status ≡ Halted
      → (n : ℕ) × (t : SourceState) × EndsIn (source n) t × ((machine k).events ≡ t.events)
      × HoldsAtEnd modules placement (machine 0).memory t.memory (machine k).memory
