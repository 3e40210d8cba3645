-- What lies on the stack below the room of a call.
use Rattle.procedure_laws.proofs.Prelude.{◌≡◌, ℕ, ◌+◌, ◌<◌, ◌≤◌, ◌⊎◌, inl, inr, List, Option, arith, byte_at, ScalarType, Program, SourceState, State, PlacementLies, ComesBack, IsOfCall}

-- a call leaves it as it was
pub below_stays :
    {program : Program} {image : List ℕ} {result : Option ScalarType} {floor above back value : ℕ}
    {s t : SourceState} {before : List ℕ} {end : State} (address : ℕ)
    → PlacementLies program
    → program.placement.stack.start ≤ address
    → address < floor
    → floor ≤ program.placement.stack.start + program.placement.stack.len
    → (comes : ComesBack program image result floor above back s before value t end)
    → byte_at comes.memory address ≡ byte_at before address
below_stays {program = program} {floor = floor} {above = above} address lies low less high comes =
    comes.kept.bytes address outside
  where
    outside : IsOfCall program floor above address → ⊥
    outside (inl variable) = lies.stack_free address variable.0 low (omega (arith, less, high))
    outside (inr mine) = let from : floor ≤ address = mine.0 in omega (arith, from, less)
