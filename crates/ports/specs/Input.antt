-- What a read of a port gives.
use Rattle.std.specs.Prelude.{◌≡◌, ℕ, ◌<◌, ◌==◌, Bool, ◌&&◌, not, List, [], ◌∷◌, ◌++◌, count_by, slice_index_or, if◌then◌else◌, All}
use Rattle.ports.specs.declared.event.Event.{Event}

-- the queue of a port: the script lists the queues from port 0 on, and a port past its end has the empty
-- queue
abbrev pub queue_of : List (List ℕ) → ℕ → List ℕ
queue_of script port = slice_index_or script port []

-- each queue of a script holds bytes
abbrev pub IsScript : List (List ℕ) → Type 0
IsScript script = (port : ℕ) → All (λ byte. byte < 256) (queue_of script port)

-- whether an event is a read of a port
abbrev pub is_read_of : ℕ → Event → Bool
is_read_of port event = not event.write && (event.port == port)

-- how often a port was read
abbrev pub reads_of : List Event → ℕ → ℕ
reads_of events port = count_by (is_read_of port) events

-- the next read of a port gives the next byte of its queue, or 255 past its end
abbrev pub input_value : List (List ℕ) → List Event → ℕ → ℕ
input_value script events port = slice_index_or (queue_of script port) (reads_of events port) 255

-- one queue has a byte more at its end
abbrev pub AddsByte : List (List ℕ) → List (List ℕ) → ℕ → ℕ → Type 0
AddsByte old new port byte =
    (other : ℕ)
    → queue_of new other ≡ (if other == port then queue_of old other ++ byte ∷ [] else queue_of old other)
