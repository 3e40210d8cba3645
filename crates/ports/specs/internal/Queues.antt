-- The queues of a script, as its fields hold them.
use Rattle.std.specs.Prelude.{◌≡◌, ℕ, List, [], map, Vec}
use Rattle.std.specs.declared.alloc.Global.{Global}
use Rattle.ports.specs.Input.{queue_of}

-- the bytes of each queue
abbrev pub bytes_of : List (Vec ℕ Global) → List (List ℕ)
bytes_of queues = map (λ queue. queue.items) queues

-- no queue has a byte
abbrev pub AreEmpty : List (Vec ℕ Global) → Type 0
AreEmpty queues = (port : ℕ) → queue_of (bytes_of queues) port ≡ []
