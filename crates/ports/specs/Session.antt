-- What a contract sees of a script.
use Rattle.std.specs.Prelude.{ℕ, List}
use Rattle.ports.specs.Input.{IsScript}
use Rattle.ports.specs.declared.event.Event.{Event}

-- the queues of the ports, which hold bytes, the events so far, and the count of failures
pub record Session : Type 0 where
  pub script : List (List ℕ)
  pub events : List Event
  pub failures : ℕ
  pub bytes : IsScript script
