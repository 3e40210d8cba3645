-- How far a run goes, and how many steps it makes.
use Rattle.std.specs.Prelude.{◌≡◌, ℕ, suc, ◌<◌, ◌≤◌, Bool, true, false, List, [], ◌∷◌, ◌++◌}
use Rattle.std.specs.Prelude.{codes, length, Option, Some, None}
use Rattle.std.specs.Fmt.{decimal}
use Rattle.ports.specs.declared.event.Event.{Event}
use Rattle.ports.specs.Events.{IsBeginning}
use Rattle.ports.specs.Input.{queue_of, reads_of}
use Rattle.cpu8080.specs.Machine.{Machine}
use Rattle.cpu8080.specs.Runs.{FailsAfter, IsRun}
use Rattle.cpu8080.specs.declared.machine.End.{End}
use Rattle.isa8080.specs.Step.{step_of}
use Rattle.cpu8080.specs.declared.machine.End.TheVariants.{Halted, Illegal, PortFault, Limit}
use Rattle.meaning.specs.Outcomes.{Stop}
use Rattle.meaning.specs.Run.{Run}
use Rattle.interpreter.specs.Budgets.{IsLeast, Uses, UsesUpTo}

-- no port was read more often than it has bytes
abbrev pub IsWithinInput : (script : List (List ℕ)) → List Event → Type 0
IsWithinInput script events = (port : ℕ) → reads_of events port ≤ length (queue_of script port)

-- the same, where a run ends before a read past the input
abbrev pub IsWithinIf : (until_dry : Bool) → (script : List (List ℕ)) → List Event → Type 0
IsWithinIf until_dry script events = until_dry ≡ true → IsWithinInput script events

-- after these events the next one is the first read of a port past its input
pub record PassesInput (script : List (List ℕ)) (events : List Event) (next : Event) : Type 0 where
  pub within : IsWithinInput script events
  pub past : IsWithinInput script (events ++ next ∷ []) → ⊥

-- A run on the machine came to a read of a port past its input. It ends as if that port failed: at a step before the
-- limit, and the machine is as it was before that step.
pub record ComesToDry (limit : ℕ) (start : Machine) (events : List Event) : Type 0 where
  pub steps : ℕ
  pub before_limit : steps < limit
  pub machine : Machine
  pub stops : FailsAfter start steps machine
  pub events_are : events ≡ machine.state.events
  pub dry : PassesInput start.script events stops.next.0

-- what a run that ended so asked of its ports: its events, and the read or the write that failed, as the step would have
-- added it
abbrev pub asked_by : (script : List (List ℕ)) → End → Machine → List Event
asked_by script Halted machine = machine.state.events
asked_by script Illegal machine = machine.state.events
asked_by script Limit machine = machine.state.events
asked_by script PortFault machine = (step_of script machine.state).events

-- A run on the machine, of at most `limit` steps, ended so, with these events, or it came to a read past the input. If
-- it is to end before such a read, a port that failed was not read past its input.
abbrev pub DoesOnMachine :
    (until_dry : Bool) → (limit : ℕ) → (start : Machine) → Option End → (events : List Event) → Type 0
DoesOnMachine until_dry limit start (Some end) events =
    (machine : Machine) × IsRun limit start end machine × (events ≡ machine.state.events)
    × IsWithinIf until_dry start.script (asked_by start.script end machine)
DoesOnMachine until_dry limit start None events = (until_dry ≡ true) × ComesToDry limit start events

-- after this number of steps the machine runs, with these events, and its next step would read or write a port
abbrev pub StopsAfter : (start : Machine) → (events : List Event) → (steps : ℕ) → Type 0
StopsAfter start events steps =
    (machine : Machine) × FailsAfter start steps machine × (events ≡ machine.state.events)

-- This number of instructions was carried out: as many as the limit; up to HLT, with that; those before the illegal
-- code; or those before the one whose port failed, or was to be read past its input.
abbrev pub CarriesOut :
    (limit : ℕ) → (start : Machine) → Option End → (events : List Event) → (steps : ℕ) → Type 0
CarriesOut limit start (Some Limit) events steps = steps ≡ limit
CarriesOut limit start (Some Halted) events steps =
    IsLeast (λ most. (machine : Machine) × IsRun most start Halted machine) steps
CarriesOut limit start (Some Illegal) events steps =
    IsLeast (λ most. (machine : Machine) × IsRun most start Illegal machine) (suc steps)
CarriesOut limit start (Some PortFault) events steps = StopsAfter start events steps
CarriesOut limit start None events steps = StopsAfter start events steps

-- A run of a source, which does so with each budget, stopped so with this one, with these events; or these come before the
-- read or the write of a port that failed, or before a read past the input. Where it is to end before such a read, a port
-- that failed was not read past its input.
abbrev pub DoesAsSource :
    (until_dry : Bool) → (script : List (List ℕ)) → (runs : (budget : ℕ) → Run) → (limit : ℕ)
    → Option (Option Stop) → (events : List Event) → Type 0
DoesAsSource until_dry script runs limit (Some (Some stop)) events =
    (runs limit ≡ record { end = stop; events = events }) × IsWithinIf until_dry script events
DoesAsSource until_dry script runs limit (Some None) events =
    (next : Event) × IsBeginning (events ++ next ∷ []) (runs limit).events
    × IsWithinIf until_dry script (events ++ next ∷ [])
DoesAsSource until_dry script runs limit None events =
    (until_dry ≡ true)
    × ((next : Event) × IsBeginning (events ++ next ∷ []) (runs limit).events × PassesInput script events next)

-- So much of the budget was used: all of it, or the least with which the source stops so, or comes to the event of the
-- port that failed or was to be read past its input.
abbrev pub UsesBudget :
    (runs : (budget : ℕ) → Run) → (limit : ℕ) → Option (Option Stop) → (events : List Event) → (steps : ℕ) → Type 0
UsesBudget runs limit (Some (Some stop)) events steps = Uses runs limit stop steps
UsesBudget runs limit (Some None) events steps = (next : Event) × UsesUpTo runs (events ++ next ∷ []) steps
UsesBudget runs limit None events steps = (next : Event) × UsesUpTo runs (events ++ next ∷ []) steps

-- the words that a run ends with: before the last one the number of its steps, where that is wanted
abbrev pub last_words : (count : Bool) → (steps : ℕ) → (word : List ℕ) → List ℕ
last_words false steps word = word
last_words true steps word = codes "STEPS " ++ decimal steps ++ 10 ∷ word
