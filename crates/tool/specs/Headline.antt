-- What it means that a machine does what a source says.
use Rattle.std.specs.Prelude.{ℕ, List}
use Rattle.ports.specs.declared.event.Event.{Event}
use Rattle.ports.specs.Input.{IsScript}
use Rattle.mem80.specs.Memory.{IsMemory}
use Rattle.typed_trees.specs.TypedTrees.{TypedModule}
use Rattle.layout.specs.Placement.{Placement}
use Rattle.meaning.specs.Run.{source_outcome, source_run, NeverOutside}
use Rattle.locate.specs.Locating.{Absolute}
use Rattle.generation.specs.Agreement.{Agrees}
use Rattle.generation.specs.MemoryAtEnd.{EndsAlike}
use Rattle.tool.specs.Image.{machine_run}

-- the image does what the program says, from every memory and with every script and all events before it, where
-- the program with this room on the stack never goes outside
abbrev pub DoesWhatItSays : List TypedModule → Placement → ℕ → Absolute → Type 0
DoesWhatItSays modules placement room image =
    (memory : List ℕ) (script : List (List ℕ)) (events : List Event)
    → IsMemory memory
    → IsScript script
    → NeverOutside (source_run modules placement room memory script events)
    → Agrees (source_run modules placement room memory script events) (machine_run image memory script events)

-- and where the program ends, the image ends with its memory, under the same premises
abbrev pub EndsWithItsMemory : List TypedModule → Placement → ℕ → Absolute → Type 0
EndsWithItsMemory modules placement room image =
    (memory : List ℕ) (script : List (List ℕ)) (events : List Event)
    → IsMemory memory
    → IsScript script
    → NeverOutside (source_run modules placement room memory script events)
    → EndsAlike modules placement (source_outcome modules placement room memory script events)
    (machine_run image memory script events)
