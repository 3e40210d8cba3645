-- Runs of a program as stack code.
use Rattle.std.specs.Prelude.{ℕ, List, []}
use Rattle.ports.specs.declared.event.Event.{Event}
use Rattle.typed_trees.specs.TypedTrees.{TypedModule}
use Rattle.typed_trees.specs.Charge.{charge_of}
use Rattle.layout.specs.Placement.{Placement}
use Rattle.layout.specs.StartingMemory.{starting_memory}
use Rattle.meaning.specs.Outcomes.{Program, State, Ended, Gave}
use Rattle.meaning.specs.Access.{Surroundings}
use Rattle.meaning.specs.Meaning.{charged}
use Rattle.meaning.specs.Run.{Run}
use Rattle.stack_code.specs.declared.instruction.Instruction.{Instruction}
use Rattle.stack_code.specs.internal.Machine.{Machine, Progress, Going, Done, and_then_steps, progress_of, steps}

-- the machine at the beginning of the code, after the charge of the main module was taken
abbrev pub machine_in : Surroundings → State → Machine
machine_in around s = record { at = 0; values = []; calls = []; around = around; state = s }

abbrev pub started : (main : TypedModule) → Surroundings → State → Progress
started main around s =
    progress_of (charged (charge_of main.main) around s (λ within t. Gave within t)) machine_in

-- where a run begins: from a given memory, a script and the events that the ports hold already
abbrev pub start_state :
    List TypedModule → Placement → (memory : List ℕ) → (events : List Event) → (budget : ℕ) → State
start_state modules placement memory events budget = record {
  memory = starting_memory modules placement memory;
  frame = [];
  events = events;
  budget = budget;
}

abbrev pub start_surroundings :
    List TypedModule → Placement → (script : List (List ℕ)) → (number_of_main room : ℕ) → Surroundings
start_surroundings modules placement script number_of_main room = record {
  program = record { modules = modules; placement = placement; script = script };
  number_of_module = number_of_main;
  room = room;
}

-- `count` steps of a program that is charged first
abbrev pub stack_run : List Instruction → TypedModule → Surroundings → State → (count : ℕ) → Progress
stack_run code main around s count = and_then_steps (started main around s) (steps code count)
