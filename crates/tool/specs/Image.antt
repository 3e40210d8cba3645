-- The machine that runs an image.
use Rattle.std.specs.Prelude.{ℕ, List}
use Rattle.ports.specs.declared.event.Event.{Event}
use Rattle.isa8080.specs.State.{State}
use Rattle.isa8080.specs.Step.{state_after, initial_state}
use Rattle.locate.specs.Locating.{Absolute, loaded}

-- the machine after k steps of an image, from a memory into which its pieces were loaded
unfoldable pub machine_run : Absolute → List ℕ → List (List ℕ) → List Event → ℕ → State
machine_run image memory script events k =
    state_after script k (initial_state (loaded image.pieces memory) events image.start)
