-- The ports of an input, and reads past it.
use Rattle.std.specs.Prelude.{◌≡◌, ℕ, ◌+◌, ◌<◌, true, List, [], ◌∷◌, ◌++◌, length, slice_index_or, Option, Some, None}
use Rattle.ports.specs.declared.event.Event.{Event}
use Rattle.ports.specs.Events.{AddsEvent, read_event}
use Rattle.ports.specs.Input.{input_value, queue_of, reads_of}
use Rattle.isa8080.specs.declared.registers.Status.TheVariants.{Running}
use Rattle.isa8080.specs.Step.{step_of}
use Rattle.cpu8080.specs.Machine.{Machine}
use Rattle.commands.specs.Steps.{IsWithinInput}

-- how many bytes a port has left
abbrev pub left_at : (left : List ℕ) → (port : ℕ) → ℕ
left_at left port = slice_index_or left port 0

-- what ports have left, after these events
abbrev pub IsLeft : (script : List (List ℕ)) → List Event → (left : List ℕ) → Type 0
IsLeft script events left =
    (port : ℕ) → left_at left port + reads_of events port ≡ length (queue_of script port)

-- a read of a port, where there is one, all of whose bytes were read
abbrev pub IsPast : (read : Option ℕ) → (script : List (List ℕ)) → List Event → Type 0
IsPast None script events = ⊥
IsPast (Some port) script events = reads_of events port ≡ length (queue_of script port)

-- a read of a port, where there is one, some of whose bytes were not read
abbrev pub HasMore : (read : Option ℕ) → (script : List (List ℕ)) → List Event → Type 0
HasMore None script events = Unit {0}
HasMore (Some port) script events = reads_of events port < length (queue_of script port)

-- the next step of a machine, if it runs, reads this port
abbrev pub ReadsNext : Machine → (port : ℕ) → Type 0
ReadsNext m port = m.state.status ≡ Running
    → (step_of m.script m.state).events
    ≡ m.state.events ++ read_event port (input_value m.script m.state.events port) ∷ []

-- or, if it runs, it reads none: what it adds is a write
abbrev pub ReadsNothing : Machine → Type 0
ReadsNothing m = m.state.status ≡ Running
    → (event : Event) → AddsEvent m.state.events (step_of m.script m.state).events event → event.write ≡ true

-- what it adds, if it runs, is within the input
abbrev pub StaysWithin : Machine → Type 0
StaysWithin m = m.state.status ≡ Running
    → (event : Event) → AddsEvent m.state.events (step_of m.script m.state).events event
    → IsWithinInput m.script (m.state.events ++ event ∷ [])

-- it reads a port, and that is past the input
abbrev pub IsAtDry : Machine → Type 0
IsAtDry m = (port : ℕ) × ReadsNext m port × IsPast (Some port) m.script m.state.events
