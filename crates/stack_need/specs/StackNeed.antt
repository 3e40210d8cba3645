-- How much room on the stack is enough for a program.
use Rattle.std.specs.Prelude.{◌≡◌, ◌≢◌, ℕ, ◌≤◌, List, min, Option, Some, None}
use Rattle.ports.specs.declared.event.Event.{Event}
use Rattle.typed_trees.specs.TypedTrees.{TypedModule}
use Rattle.layout.specs.Placement.{Placement}
use Rattle.meaning.specs.declared.reason.Reason.TheVariants.{Stack}
use Rattle.meaning.specs.Outcomes.{Outside}
use Rattle.meaning.specs.Run.{source_run}
use Rattle.call_graphs.specs.Chains.{HasCycle, IsChain, charges_of_chain}
use Rattle.stack_need.specs.CallGraph.{call_graph}

-- no run with this room or more goes outside for the stack, wherever the program lies
abbrev pub IsEnough : List TypedModule → (need : ℕ) → Type 0
IsEnough modules need =
    (placement : Placement) (room : ℕ) (memory : List ℕ) (script : List (List ℕ)) (events : List Event) (budget : ℕ)
    → need ≤ room
    → (source_run modules placement room memory script events budget).end ≢ Outside Stack

-- the charges of some chain of calls from the main module add up to it
abbrev pub IsOfAChain : List TypedModule → (need : ℕ) → Type 0
IsOfAChain modules need =
    (others : List ℕ)
    × (IsChain (call_graph modules) 0 others × (charges_of_chain (call_graph modules) 0 others ≡ need))

-- the need of a program
pub record IsStackNeed (modules : List TypedModule) (need : ℕ) : Type 0 where
  pub enough : IsEnough modules need
  pub of_a_chain : IsOfAChain modules need

-- the answer for a program: None exactly if its call graph has a cycle, and else its need, or the
-- greatest number of 32 bits if that is less
unfoldable pub TellsNeed : List TypedModule → Option ℕ → Type 0
TellsNeed modules None = HasCycle (call_graph modules)
TellsNeed modules (Some shown) =
    (HasCycle (call_graph modules) → ⊥)
    × ((need : ℕ) × (IsStackNeed modules need × (shown ≡ min need 4294967295)))
