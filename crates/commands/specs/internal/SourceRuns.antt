-- Runs of a source over ports that may fail.
use Rattle.std.specs.Prelude.{◌≡◌, ℕ, true, false, List, [], ◌∷◌, ◌++◌, Option, Some, None, IfSome}
use Rattle.ports.specs.declared.event.Event.{Event}
use Rattle.ports.specs.Events.{IsBeginning}
use Rattle.meaning.specs.Outcomes.{Stop}
use Rattle.meaning.specs.Run.{Run}
use Rattle.interpreter.specs.Budgets.{Uses, UsesUpTo}

-- a port failed, at the event after these: a read of this port, or a write
pub record StopsAtPort (runs : (budget : ℕ) → Run) (budget : ℕ) (read : Option ℕ) (events : List Event) (used : ℕ) :
    Type 0 where
  pub next : Event
  pub of_read : IfSome read (λ port. (next.write ≡ false) × (next.port ≡ port))
  pub of_write : read ≡ None → next.write ≡ true
  pub begins : IsBeginning (events ++ next ∷ []) (runs budget).events
  pub used_is : UsesUpTo runs (events ++ next ∷ []) used

-- a run with this budget stopped so, or a port failed, with these events; so much was used
abbrev pub RunsSource :
    (runs : (budget : ℕ) → Run) → (budget : ℕ) → Option Stop → (read : Option ℕ) → List Event → (used : ℕ) → Type 0
RunsSource runs budget (Some stop) read events used =
    (read ≡ None) × (runs budget ≡ record { end = stop; events = events }) × Uses runs budget stop used
RunsSource runs budget None read events used = StopsAtPort runs budget read events used
