use Rattle.std.proofs.Common.{◌≡◌, length}
use Rattle.ports.specs.internal.Queues.{AreEmpty}
use Rattle.ports.proofs.script.empty_queues.Given as goal

abbrev pub invariant-loop : goal.invariant-loop
invariant-loop l = record { size : length l.queues.items ≡ l.counter; empty : AreEmpty l.queues.items }
