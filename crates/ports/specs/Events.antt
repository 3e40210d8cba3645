-- What happens at ports: reads and writes, in order, and a count of failures.
use Rattle.std.specs.Prelude.{◌≡◌, ℕ, ◌+◌, ◌-◌, ◌^◌, true, false, min, List, [], ◌∷◌, ◌++◌}
use Rattle.ports.specs.declared.event.Event.{Event}

-- the machine read a byte
abbrev pub read_event : ℕ → ℕ → Event
read_event port value = record { write = false; port = port; value = value }

-- the machine wrote a byte
abbrev pub write_event : ℕ → ℕ → Event
write_event port value = record { write = true; port = port; value = value }

-- one more event
abbrev pub AddsEvent : List Event → List Event → Event → Type 0
AddsEvent old new event = new ≡ old ++ event ∷ []

-- events are a beginning of others
abbrev pub IsBeginning : List Event → List Event → Type 0
IsBeginning events all = (rest : List Event) × (all ≡ events ++ rest)

-- a failing call adds one to the count, which stays at its greatest value
abbrev pub CountsFailure : ℕ → ℕ → Type 0
CountsFailure old new = new ≡ min (old + 1) (2 ^ 64 - 1)
