-- What a read does to the counts of the reads, and what a change of one of the queues does to their bytes.
use Rattle.std.proofs.Common.{◌≡◌, ℕ, ◌+◌, ◌<◌, List, [], ◌∷◌, ◌++◌, length, get_or, set, Vec, arith, sym, ◌∙◌, ap}
use Rattle.std.proofs.Math.Seq.{map-set_same}
use Rattle.std.proofs.lemmas.List.{get_or-map, length-map, map-set, get_or-set_same, get_or-set_other}
use Rattle.std.proofs.lemmas.Grind.{common_steps}
use Rattle.std.specs.declared.alloc.Global.{Global}
use Rattle.ports.specs.declared.event.Event.{Event}
use Rattle.ports.specs.Events.{read_event}
use Rattle.ports.specs.Input.{queue_of, reads_of, AddsByte}
use Rattle.ports.specs.internal.Queues.{bytes_of}

-- a read counts for its port, and for no other
pub counts_read :
    (reads : List ℕ) (events : List Event) (port value : ℕ)
    → port < length reads
    → ((other : ℕ) → other < 256 → get_or reads other 0 ≡ reads_of events other)
    → (other : ℕ) → other < 256
    → get_or (set reads port (get_or reads port 0 + 1)) other 0
    ≡ reads_of (events ++ read_event port value ∷ []) other
counts_read reads events port value within counted other below = grind (arith, common_steps)

-- one queue of a script with a byte more at its end
script_adds_byte :
    (script : List (List ℕ)) (port byte : ℕ)
    → port < length script
    → AddsByte script (set script port (queue_of script port ++ byte ∷ [])) port byte
script_adds_byte script port byte within other =
    grind (arith, common_steps, get_or-set_same, get_or-set_other)

-- the queue at a port with a byte more at its end
pub adds_byte_at :
    (queues : List (Vec ℕ Global)) (old new : Vec ℕ Global) (port byte : ℕ)
    → port < length queues
    → old ≡ get_or queues port old
    → new.items ≡ old.items ++ byte ∷ []
    → AddsByte (bytes_of queues) (bytes_of (set queues port new)) port byte
adds_byte_at queues old new port byte within is longer =
    let items : Vec ℕ Global → List ℕ = λ queue. queue.items in
    let before : queue_of (bytes_of queues) port ≡ old.items =
    get_or-map items queues port old [] within ∙ ap items (sym is) in
    let after : bytes_of (set queues port new)
    ≡ set (bytes_of queues) port (queue_of (bytes_of queues) port ++ byte ∷ []) =
    rw before (map-set items queues port new ∙ ap (set (bytes_of queues) port) longer) in
    let inside : port < length (bytes_of queues) = rw length-map within in
    rw after (script_adds_byte (bytes_of queues) port byte inside)

-- the queue at a port with the same bytes
pub same_bytes_at :
    (queues : List (Vec ℕ Global)) (old new : Vec ℕ Global) (port : ℕ)
    → old ≡ get_or queues port old
    → new.items ≡ old.items
    → bytes_of (set queues port new) ≡ bytes_of queues
same_bytes_at queues old new port is same =
    map-set_same (λ queue. queue.items) queues port new old (same ∙ ap (λ (queue : Vec ℕ Global). queue.items) is)
