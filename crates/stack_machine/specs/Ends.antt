-- How runs of stack code end, in the terms of the meaning, and the reads and writes of ports that fail.
use Rattle.std.specs.Prelude.{◌≡◌, ℕ, true, false}
use Rattle.ports.specs.declared.event.Event.{Event}
use Rattle.ports.specs.Events.{CountsFailure}
use Rattle.meaning.specs.Outcomes.{Stop, Ended, More, Outside}
use Rattle.stack_machine.specs.declared.end.SourceEnd.{SourceEnd}
use Rattle.stack_machine.specs.declared.end.SourceEnd.TheVariants as ends
use Rattle.stack_machine.specs.declared.end.RunFault.{RunFault}
use Rattle.stack_machine.specs.declared.end.RunFault.TheVariants as faults

abbrev pub stop_of : SourceEnd → Stop
stop_of ends.Ended = Ended
stop_of ends.More = More
stop_of (ends.Outside reason) = Outside reason

-- only a port that failed is counted
abbrev pub FaultCounts : RunFault → (before after : ℕ) → Type 0
FaultCounts (faults.Input port) before after = CountsFailure before after
FaultCounts (faults.Output port) before after = CountsFailure before after
FaultCounts faults.Memory before after = after ≡ before

-- an event is the read or the write that failed
abbrev pub IsCallOf : RunFault → Event → Type 0
IsCallOf (faults.Input port) event = (event.write ≡ false) × (event.port ≡ port)
IsCallOf (faults.Output port) event = (event.write ≡ true) × (event.port ≡ port)
IsCallOf faults.Memory event = ⊥
