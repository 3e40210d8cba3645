-- What it means that a machine does what a source says, where the stack has the room that the program needs.
use Rattle.std.specs.Prelude.{◌≢◌, ℕ, List}
use Rattle.ports.specs.declared.event.Event.{Event}
use Rattle.ports.specs.Input.{IsScript}
use Rattle.mem80.specs.Memory.{IsMemory}
use Rattle.typed_trees.specs.TypedTrees.{TypedModule}
use Rattle.layout.specs.Placement.{Placement}
use Rattle.meaning.specs.declared.reason.Reason.{Reason}
use Rattle.meaning.specs.declared.reason.Reason.TheVariants.{Stack}
use Rattle.meaning.specs.Outcomes.{Outside}
use Rattle.meaning.specs.Run.{Run, source_outcome, source_run}
use Rattle.locate.specs.Locating.{Absolute}
use Rattle.tool.specs.Agreement.{Agrees}
use Rattle.tool.specs.Image.{machine_run}
use Rattle.tool.specs.MemoryAtEnd.{EndsAlike}

-- no budget takes the program outside for another reason than the stack
abbrev pub NeverOutsideButForStack : (ℕ → Run) → Type 0
NeverOutsideButForStack run =
    (budget : ℕ) (reason : Reason) → reason ≢ Stack → (run budget).end ≢ Outside reason

-- the image does what the program says, from every memory and with every script and all events before it, where
-- the program does not go outside for another reason than the stack: that it may not do so for the stack is no premise
abbrev pub DoesWhatItSaysWithRoom : List TypedModule → Placement → ℕ → Absolute → Type 0
DoesWhatItSaysWithRoom modules placement room image =
    (memory : List ℕ) (script : List (List ℕ)) (events : List Event)
    → IsMemory memory
    → IsScript script
    → NeverOutsideButForStack (source_run modules placement room memory script events)
    → Agrees (source_run modules placement room memory script events) (machine_run image memory script events)

-- and so it ends with the memory of the program
abbrev pub EndsWithItsMemoryWithRoom : List TypedModule → Placement → ℕ → Absolute → Type 0
EndsWithItsMemoryWithRoom modules placement room image =
    (memory : List ℕ) (script : List (List ℕ)) (events : List Event)
    → IsMemory memory
    → IsScript script
    → NeverOutsideButForStack (source_run modules placement room memory script events)
    → EndsAlike modules placement (source_outcome modules placement room memory script events)
    (machine_run image memory script events)
