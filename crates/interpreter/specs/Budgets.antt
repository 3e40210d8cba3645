-- How much of its budget a run of a source uses.
use Rattle.std.specs.Prelude.{◌≡◌, ℕ, ◌<◌, List, [], ◌∷◌, ◌++◌}
use Rattle.ports.specs.declared.event.Event.{Event}
use Rattle.ports.specs.Events.{IsBeginning}
use Rattle.meaning.specs.Outcomes.{Stop, Ended, More, Outside}
use Rattle.meaning.specs.Run.{Run}
use Rattle.stack_machine.specs.Ends.{IsCallOf}
use Rattle.stack_machine.specs.declared.end.RunFault.{RunFault}
use Rattle.stack_machine.specs.declared.end.RunFault.TheVariants as faults

-- the least number that has a property
pub record IsLeast (holds : ℕ → Type 0) (number : ℕ) : Type 0 where
  pub here : holds number
  pub below : (other : ℕ) → other < number → holds other → ⊥

-- what a run that stopped so used of its budget: all of it, where it wants more, or else the least with which the
-- source stops so
abbrev pub Uses : (runs : (budget : ℕ) → Run) → (budget : ℕ) → Stop → (used : ℕ) → Type 0
Uses runs budget More used = used ≡ budget
Uses runs budget Ended used = IsLeast (λ less. (runs less).end ≡ Ended) used
Uses runs budget (Outside reason) used = IsLeast (λ less. (runs less).end ≡ Outside reason) used

-- the least budget with which a source comes to the last of these events
abbrev pub UsesUpTo : (runs : (budget : ℕ) → Run) → List Event → (used : ℕ) → Type 0
UsesUpTo runs events used = IsLeast (λ less. IsBeginning events (runs less).events) used

-- The source has these events, and then the read or the write of a port that failed. So much was used up to that.
pub record StopsBefore (runs : (budget : ℕ) → Run) (budget : ℕ) (fault : RunFault) (events : List Event) (used : ℕ) :
    Type 0 where
  pub next : Event
  pub is_call : IsCallOf fault next
  pub begins : IsBeginning (events ++ next ∷ []) (runs budget).events
  pub used_is : UsesUpTo runs (events ++ next ∷ []) used

-- where a run is given up for a port, that is so
abbrev pub FailsAt :
    (runs : (budget : ℕ) → Run) → (budget : ℕ) → RunFault → List Event → (used : ℕ) → Type 0
FailsAt runs budget (faults.Input port) events used = StopsBefore runs budget (faults.Input port) events used
FailsAt runs budget (faults.Output port) events used = StopsBefore runs budget (faults.Output port) events used
FailsAt runs budget faults.Memory events used = Unit {0}
