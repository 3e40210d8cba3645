-- What room is enough along a run.
use Rattle.std.specs.Prelude.{◌≡◌, ℕ, ◌≤◌, List, Some}
use Rattle.std.specs.List.{AllByRecursion}
use Rattle.typed_trees.specs.TypedTrees.{TypedStatements, TypedList}
use Rattle.layout.specs.Joined.{InProgram}
use Rattle.meaning.specs.declared.reason.Reason.TheVariants.{Divide, Byte as UndeclaredByte, Constant, Stack}
use Rattle.meaning.specs.Outcomes.{State, Stop, Ended, More, Outside, Outcome, Gave, Stopped}
use Rattle.meaning.specs.Access.{Surroundings}
use Rattle.meaning.specs.Meaning.{Later, Turn, LoopTurn, callee_in}
use Rattle.stack_need.specs.Calls.{calls_in_head, calls_in_list, calls_in_statements}
use Rattle.call_graphs.specs.Chains.{IsChain, charges_of_chain}
use Rattle.stack_need.specs.CallGraph.{call_graph, number_of_body}

-- a run does not go outside for the stack
abbrev pub IsNotStack : Stop → Type 0
IsNotStack (Outside Stack) = ⊥
IsNotStack (Outside Divide) = Unit {0}
IsNotStack (Outside UndeclaredByte) = Unit {0}
IsNotStack (Outside Constant) = Unit {0}
IsNotStack Ended = Unit {0}
IsNotStack More = Unit {0}

abbrev pub StaysWithin : {A : Type 0} → Outcome A → Type 0
StaysWithin (Gave found s) = Unit {0}
StaysWithin (Stopped why s) = IsNotStack why

-- the room is as much as the charges of each chain of calls from a procedure on
abbrev pub Holds : Surroundings → InProgram → Type 0
Holds around at =
    (others : List ℕ)
    → IsChain (call_graph around.program.modules) (number_of_body around.program.modules at) others
    → charges_of_chain (call_graph around.program.modules) (number_of_body around.program.modules at) others
    ≤ around.room

-- likewise for the procedure that a call stands for, and for each of some calls
abbrev pub HoldsCall : Surroundings → (procedure : ℕ) → Type 0
HoldsCall around procedure = (at : InProgram) → callee_in around procedure ≡ Some at → Holds around at

abbrev pub HoldsAll : Surroundings → (calls : List ℕ) → Type 0
HoldsAll around calls = AllByRecursion (HoldsCall around) calls

-- the room is enough for a turn
abbrev pub HoldsTurn : Surroundings → Turn → Type 0
HoldsTurn around (LoopTurn head body) =
    HoldsAll around (calls_in_head head) × HoldsAll around (calls_in_list body)

-- a part given from outside does not go outside for the stack if the room is enough
pub record LaterStays (later : Later) : Type 0 where
  pub call :
      (at : InProgram) (arguments : List ℕ) (around : Surroundings) (s : State)
      → Holds around at
      → StaysWithin (later.call at arguments around s)
  pub again :
      (turn : Turn) (around : Surroundings) (s : State)
      → HoldsTurn around turn
      → StaysWithin (later.again turn around s)
  pub onto :
      (list : TypedList) (rest : TypedStatements) (around : Surroundings) (s : State)
      → HoldsAll around (calls_in_list list)
      → HoldsAll around (calls_in_statements rest)
      → StaysWithin (later.onto list rest around s)
