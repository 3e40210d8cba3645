-- Runs of an image, and what they say of its source.
use Rattle.std.specs.Prelude.{◌≡◌, ℕ, List}
use Rattle.ports.specs.declared.event.Event.{Event}
use Rattle.ports.specs.Events.{IsBeginning}
use Rattle.isa8080.specs.Step.{initial_state}
use Rattle.cpu8080.specs.declared.machine.End.{End}
use Rattle.cpu8080.specs.declared.machine.End.TheVariants.{Halted}
use Rattle.cpu8080.specs.Machine.{Machine}
use Rattle.meaning.specs.Outcomes.{Ended, Flow, Outcome, State}
use Rattle.meaning.specs.Run.{EndsIn, Run, source_outcome, source_run}
use Rattle.locate.specs.Locating.{Absolute, loaded}
use Rattle.generation.specs.MemoryAtEnd.{HoldsAtEnd}
use Rattle.sources.specs.Programs.{program_modules}
use Rattle.tool.specs.Construction.{Construction}

-- the machine at its start: an image loaded into a memory, and ports with a script, events and a count of
-- failures
abbrev pub started : Absolute → List ℕ → List (List ℕ) → List Event → ℕ → Machine
started image memory script events failures =
    record {
      state = initial_state (loaded image.pieces memory) events image.start;
      script = script;
      failures = failures;
    }

-- the runs of the source of a built program, by their budgets
abbrev pub source_of : Construction → List ℕ → List (List ℕ) → List Event → ℕ → Run
source_of built memory script events =
    source_run (program_modules built.program) built.placement built.plan.stack_size memory script events

-- and what they come to
abbrev pub outcomes_of : Construction → List ℕ → List (List ℕ) → List Event → ℕ → Outcome Flow
outcomes_of built memory script events =
    source_outcome (program_modules built.program) built.placement built.plan.stack_size memory script events

-- what a machine did is a beginning of what the source does, and if it halted the source ended with just that
pub record IsFaithful (source : ℕ → Run) (end : End) (machine : Machine) : Type 0 where
  pub begins : (n : ℕ) × IsBeginning machine.state.events (source n).events
  pub ended : end ≡ Halted
      → (n : ℕ) × ((source n).end ≡ Ended) × ((source n).events ≡ machine.state.events)

-- A machine of a built program that halted, with the memory of its source where a run of this has ended,
-- after the same events: each declared byte is the source's, and of the memory that the image was loaded into
-- no byte changed but variables and those of the stack.
pub record HasMemoryOf
    (built : Construction) (memory : List ℕ) (source : ℕ → Outcome Flow) (machine : Machine) : Type 0 where
  pub budget : ℕ
  pub end : State
  pub ended : EndsIn (source budget) end
  pub events : machine.state.events ≡ end.events
  pub holds :
      HoldsAtEnd (program_modules built.program) built.placement (loaded built.image.pieces memory) end.memory
      machine.state.memory
