-- How runs of stack code end.
use Rattle.std.specs.Prelude.{◌≡◌, ℕ, suc, List, []}
use Rattle.ports.specs.declared.event.Event.{Event}
use Rattle.ports.specs.Events.{AddsEvent}
use Rattle.meaning.specs.Outcomes.{State, Stop}
use Rattle.stack_code.specs.internal.Machine.{Machine, Progress, Going, Done}
use Rattle.stack_machine.specs.Ends.{IsCallOf}
use Rattle.stack_machine.specs.declared.end.RunFault.{RunFault}
use Rattle.stack_machine.specs.declared.end.RunFault.TheVariants as faults

-- where a run begins: with nothing in the frame
abbrev pub state_at_start : (memory : List ℕ) → (events : List Event) → (budget : ℕ) → State
state_at_start memory events budget =
    record { memory = memory; frame = []; events = events; budget = budget }

-- after some steps the program has stopped, these are the events, and so much of the budget is left
pub record Stops (run : (count : ℕ) → Progress) (why : Stop) (events : List Event) (left : ℕ) : Type 0 where
  pub count : ℕ
  pub state : State
  pub stopped : run count ≡ Done why state
  pub events_are : state.events ≡ events
  pub left_is : state.budget ≡ left

-- after some steps the program is still running, and these are the events so far
pub record Reaches (run : (count : ℕ) → Progress) (events : List Event) : Type 0 where
  pub count : ℕ
  pub machine : Machine
  pub going : run count ≡ Going machine
  pub events_are : machine.state.events ≡ events

-- After some steps the program is still running, these are the events so far, and so much of the budget is left. Its next step
-- is the read or the write of a port that failed, which takes none of the budget.
pub record ReachesCall (run : (count : ℕ) → Progress) (fault : RunFault) (events : List Event) (left : ℕ) :
    Type 0 where
  pub count : ℕ
  pub machine : Machine
  pub going : run count ≡ Going machine
  pub events_are : machine.state.events ≡ events
  pub left_is : machine.state.budget ≡ left
  pub next : Event
  pub is_call : IsCallOf fault next
  pub after : Machine
  pub onward : run (suc count) ≡ Going after
  pub adds : AddsEvent events after.state.events next
  pub left_after : after.state.budget ≡ left

-- where a run is given up for a port, it is before that port's event
unfoldable pub ReachesFault : (run : (count : ℕ) → Progress) → RunFault → List Event → (left : ℕ) → Type 0
ReachesFault run (faults.Input port) events left = ReachesCall run (faults.Input port) events left
ReachesFault run (faults.Output port) events left = ReachesCall run (faults.Output port) events left
ReachesFault run faults.Memory events left = Unit {0}
