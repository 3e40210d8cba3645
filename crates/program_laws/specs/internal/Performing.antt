-- What it means that a machine does what a run of the source with a budget does.
use Rattle.std.specs.Prelude.{◌≡◌, ℕ, ◌≤◌, List}
use Rattle.ports.specs.declared.event.Event.{Event}
use Rattle.isa8080.specs.declared.registers.Status.{Status}
use Rattle.isa8080.specs.declared.registers.Status.TheVariants.{Running}
use Rattle.isa8080.specs.State.{State}
use Rattle.isa8080.specs.Step.{state_after}
use Rattle.meaning.specs.Outcomes.{Flow, More, Outcome, State as SourceState}
use Rattle.meaning.specs.Run.{EndsIn, Run, run_of}
use Rattle.code_meaning.specs.Sharing.{Loaded}
use Rattle.code_meaning.specs.Landing.{IsHalted}

-- a machine that comes, after so many steps at least, to such a status and to these events
pub record ComesTo
    (script : List (List ℕ)) (start : State) (steps : ℕ) (status : Status) (events : List Event) : Type 0 where
  pub count : ℕ
  pub enough : steps ≤ count
  pub status_is : (state_after script count start).status ≡ status
  pub events_are : (state_after script count start).events ≡ events

-- a machine that comes to halt where the source ended: after its events, with its memory
pub record ComesToHalt (loaded : Loaded) (start : State) (t : SourceState) : Type 0 where
  pub count : ℕ
  pub is_halted : IsHalted loaded t (state_after loaded.program.script count start)

-- The machine does what a run of the source with a budget does: where that ended it halts, with its memory,
-- and where it wants more it still runs after as many steps as the budget, each time after the same events.
pub record Performs (loaded : Loaded) (start : State) (budget : ℕ) (outcome : Outcome Flow) : Type 0 where
  pub ended : (t : SourceState) → EndsIn outcome t → ComesToHalt loaded start t
  pub more :
      let run : Run = run_of outcome in
      run.end ≡ More → ComesTo loaded.program.script start budget Running run.events
