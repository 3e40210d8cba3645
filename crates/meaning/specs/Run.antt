-- Runs of a program with a budget. Without a main program, or where that returns or jumps out, a run has ended:
-- `TakesNoDefault` of `meaning_laws` says that this is never so, in programs as `Meaning` says.
use Rattle.std.specs.Prelude.{◌≡◌, ◌≢◌, ℕ, suc, List, [], position, find}
use Rattle.std.specs.Option.{option_map_or}
use Rattle.ports.specs.declared.event.Event.{Event}
use Rattle.typed_trees.specs.TypedTrees.{TypedModule}
use Rattle.typed_trees.specs.Charge.{charge_of}
use Rattle.layout.specs.Joined.{is_main}
use Rattle.layout.specs.Placement.{Placement}
use Rattle.layout.specs.StartingMemory.{starting_memory}
use Rattle.meaning.specs.declared.reason.Reason.{Reason}
use Rattle.meaning.specs.Outcomes.{Program, State, Stop, Ended, Outside, Outcome, Gave, Stopped, Flow}
use Rattle.meaning.specs.Access.{Surroundings}
use Rattle.meaning.specs.Meaning.{charged, done_list, later_by}

-- why a run stopped, and the events that the ports then hold
pub record Run : Type 0 where
  pub end : Stop
  pub events : List Event

-- a program that comes to the end of its main module has ended
abbrev pub run_of : Outcome Flow → Run
run_of (Gave flow s) = record { end = Ended; events = s.events }
run_of (Stopped why s) = record { end = why; events = s.events }

-- the statements of the main module, which is charged like a call
abbrev pub main_done : ℕ → TypedModule → Surroundings → State → Outcome Flow
main_done budget typed around s =
    charged (charge_of typed.main) around s
    (λ within t. done_list (later_by (suc budget)) within typed.main.body t)

abbrev pub number_of_main : List TypedModule → ℕ
number_of_main modules = option_map_or (λ number. number) (position is_main modules) 0

-- What a program comes to at a placement, with this room on the stack, from a given memory, a script and the
-- events that the ports hold already, with a budget of turns, jumps and calls.
abbrev pub source_outcome :
    List TypedModule → Placement → ℕ → List ℕ → List (List ℕ) → List Event → ℕ → Outcome Flow
source_outcome modules placement room memory script events budget =
    let program : Program = record { modules = modules; placement = placement; script = script } in
    let around : Surroundings =
    record { program = program; number_of_module = number_of_main modules; room = room } in
    let start : State = record {
      memory = starting_memory modules placement memory;
      frame = [];
      events = events;
      budget = budget;
    } in
    option_map_or (λ (typed : TypedModule). main_done budget typed around start) (find is_main modules)
    (Gave Flow.Onward start)

-- the run of that program
unfoldable pub source_run :
    List TypedModule → Placement → ℕ → List ℕ → List (List ℕ) → List Event → ℕ → Run
source_run modules placement room memory script events budget =
    run_of (source_outcome modules placement room memory script events budget)

-- the state in which a run has ended
abbrev pub EndsIn : Outcome Flow → State → Type 0
EndsIn (Gave flow s) end = s ≡ end
EndsIn (Stopped Ended s) end = s ≡ end
EndsIn (Stopped why s) end = ⊥

-- no budget takes the program outside
abbrev pub NeverOutside : (ℕ → Run) → Type 0
NeverOutside run = (budget : ℕ) (reason : Reason) → (run budget).end ≢ Outside reason
