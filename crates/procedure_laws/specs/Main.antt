-- Runs of the main program on the machine.
use Rattle.std.specs.Prelude.{ℕ, ◌≤◌, List}
use Rattle.meaning.specs.Outcomes.{Ended, Flow, Gave, More, Outcome, Outside, Stopped}
use Rattle.isa8080.specs.declared.registers.Status.TheVariants.{Running}
use Rattle.isa8080.specs.State.{State}
use Rattle.asm8080.specs.Runs.{Comes}
use Rattle.code_meaning.specs.Sharing.{Loaded}
use Rattle.code_meaning.specs.Landing.{IsHalted, IsLeft}

-- a run of at least so many steps that comes to what holds
pub record ComesTo (script : List (List ℕ)) (least : ℕ) (from : State) (Good : State → Type 0) : Type 0 where
  pub count : ℕ
  pub end : State
  pub run : Comes script count from end
  pub enough : least ≤ count
  pub is_good : Good end

-- Beside what a run of the source with a budget comes to: where that ended the machine halts with its events
-- and its memory, and where it wants more budget the machine still runs, after as many steps as the budget
-- and with the same events. Of a run that goes outside nothing is said.
abbrev pub EndsAs : Loaded → (budget : ℕ) → (from : State) → Outcome Flow → Type 0
EndsAs loaded budget from (Gave flow t) = ComesTo loaded.program.script 0 from (IsHalted loaded t)
EndsAs loaded budget from (Stopped Ended t) = ComesTo loaded.program.script 0 from (IsHalted loaded t)
EndsAs loaded budget from (Stopped More t) =
    ComesTo loaded.program.script budget from (IsLeft Running t.events)
EndsAs loaded budget from (Stopped (Outside reason) t) = Unit {0}
