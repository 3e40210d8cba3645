-- Runs that have ended, and what is told of them.
use Rattle.std.specs.Prelude.{◌≡◌, ℕ, true, List, Option}
use Rattle.ports.specs.declared.event.Event.{Event}
use Rattle.cpu8080.specs.Machine.{Machine}
use Rattle.cpu8080.specs.declared.machine.End.{End}
use Rattle.meaning.specs.Outcomes.{Stop}
use Rattle.meaning.specs.Run.{Run}
use Rattle.host.specs.internal.Endings.{status_of}
use Rattle.host.specs.declared.endings.Ending.{Ending}
use Rattle.host.specs.declared.endings.Ending.TheVariants.{Refused, WrongLine}
use Rattle.command_line.specs.Settings.{Values}
use Rattle.commands.specs.Ends.{machine_status, machine_word, source_status, source_word}
use Rattle.commands.specs.Running.{run_report}
use Rattle.commands.specs.Standing.{NamesLine, NamesPlace, StandsAt}
use Rattle.commands.specs.Steps.{CarriesOut, DoesAsSource, DoesOnMachine, UsesBudget}
use Rattle.commands.specs.declared.reports.Outcome.{Outcome}

-- an ending of a run: it was not refused
abbrev pub EndsRun : Ending → Type 0
EndsRun ending = (ending ≡ Refused → ⊥) × (ending ≡ WrongLine → ⊥)

-- the report of a run with this outcome
abbrev pub told_of : Values → List Event → Outcome → List ℕ
told_of values events outcome =
    run_report values events outcome.steps outcome.word.now outcome.text.bytes.items

-- A run on the machine had this outcome, with these events. Its place is told as a line of modules of these names, or as an
-- address.
pub record EndsOnMachine (names : List (List ℕ)) (values : Values) (start : Machine) (outcome : Outcome)
    (events : List Event) : Type 0 where
  pub end : Option End
  pub place : ℕ
  pub does : DoesOnMachine values.watch.until_dry values.limit start end events
  pub counted : values.watch.count ≡ true → CarriesOut values.limit start end events outcome.steps
  pub stands : StandsAt values.limit start end events place
  pub named : NamesPlace names place outcome.text.bytes.items
  pub word : outcome.word.now ≡ machine_word end
  pub status : status_of outcome.ending ≡ machine_status end
  pub ended : EndsRun outcome.ending

-- The same of a run of a source, which does so with each budget.
pub record EndsAsSource (names : List (List ℕ)) (values : Values) (script : List (List ℕ))
    (runs : (budget : ℕ) → Run) (outcome : Outcome) (events : List Event) : Type 0 where
  pub end : Option (Option Stop)
  pub does : DoesAsSource values.watch.until_dry script runs values.limit end events
  pub counted : UsesBudget runs values.limit end events outcome.steps
  pub named : values.watch.place ≡ true → NamesLine names outcome.text.bytes.items
  pub word : outcome.word.now ≡ source_word end
  pub status : status_of outcome.ending ≡ source_status end
  pub ended : EndsRun outcome.ending
