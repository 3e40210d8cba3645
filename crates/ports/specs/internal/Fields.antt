-- What the fields of a script mean, and what they keep.
use Rattle.std.specs.Prelude.{◌≡◌, ℕ, ◌<◌, length, slice_index}
use Rattle.ports.specs.declared.script.TheConstants.{PORTS}
use Rattle.ports.specs.declared.script.Script.TheInside.{Inside}
use Rattle.ports.specs.Input.{reads_of}
use Rattle.ports.specs.internal.Queues.{bytes_of}
use Rattle.ports.specs.Session.{Session}

-- the queues, the events and the count of failures
abbrev pub session_of : Inside → Session
session_of fields =
    record {
      script = bytes_of fields.queues.items;
      events = fields.log.items;
      failures = fields.failed;
      bytes = fields.bytes;
    }

-- there is no queue or one for each port, and each port has the count of its reads
pub record KeepsReads (fields : Inside) : Type 0 where
  pub size : 0 < length fields.queues.items → length fields.queues.items ≡ PORTS
  pub reads : (port : ℕ) → port < PORTS → slice_index fields.reads port ≡ reads_of fields.log.items port
