-- Outcomes of a part of a run, and how one part follows another.
use Rattle.std.specs.Prelude.{ℕ, ◌-◌, ◌==◌, List, if◌then◌else◌}
use Rattle.ports.specs.declared.event.Event.{Event}
use Rattle.typed_trees.specs.TypedTrees.{TypedModule}
use Rattle.layout.specs.Placement.{Placement}
use Rattle.meaning.specs.declared.reason.Reason.{Reason}

-- a joined program where it lies, with the script of the ports
pub record Program : Type 0 where
  pub modules : List TypedModule
  pub placement : Placement
  pub script : List (List ℕ)

-- What a run changes: the memory; the frame of the call that runs; the events so far; and how many more turns of
-- loops, jumps and calls it may take. The frame has the bytes of its variables and parameters by the numbers of their
-- objects, and no bytes for an object that is not in it.
pub record State : Type 0 where
  pub memory : List ℕ
  pub frame : List (List ℕ)
  pub events : List Event
  pub budget : ℕ

-- why a run stops: it came to the end of the program, its budget does not last for one more turn, jump or
-- call, or it goes outside the language
pub data Stop : Type 0 where
  Ended : Stop
  More : Stop
  Outside : (reason : Reason) → Stop

-- a part of a run gave something, or the run stopped in it; both leave a state
pub data Outcome (A : Type 0) : Type 0 where
  Gave : A → State → Outcome A
  Stopped : Stop → State → Outcome A

-- goes on with the value of a part, if the run did not stop
abbrev pub then_do : {A B : Type 0} → Outcome A → (A → State → Outcome B) → Outcome B
then_do (Gave found s) go = go found s
then_do (Stopped why s) go = Stopped why s

-- takes one of the budget, or stops if the budget is 0
abbrev pub taking_one : {A : Type 0} → State → (State → Outcome A) → Outcome A
taking_one s go = if s.budget == 0 then Stopped More s else go (record s { budget = s.budget - 1 })

-- how a statement leaves the statements after it: they follow, its procedure returns a value (0 where it
-- returns none), or the run goes on at a label
pub data Flow : Type 0 where
  Onward : Flow
  Returned : (value : ℕ) → Flow
  Jumped : (label : ℕ) → Flow
