-- What holds along each run: of a state and one that comes after it.
use Rattle.std.specs.Prelude.{◌≡◌, ℕ, suc, ◌+◌, ◌<◌, ◌≤◌, true, false, List, length, map}
use Rattle.mem80.specs.Memory.{byte_at}
use Rattle.ports.specs.Events.{IsBeginning}
use Rattle.layout.specs.Joined.{InProgram}
use Rattle.typed_trees.specs.TypedTrees.{TypedStatements, TypedList}
use Rattle.meaning.specs.Outcomes.{Program, State, Stop, Ended, More, Outside, Outcome, Gave, Stopped, Flow, Onward, Returned, Jumped}
use Rattle.meaning.specs.Access.{Surroundings, is_constant, is_declared}
use Rattle.meaning.specs.Meaning.{Later, Turn, LoopTurn}

-- The budget does not grow, events are only added, the memory keeps its size, and only bytes that may be written
-- change: no byte of a constant does, and none that is not declared.
pub record Follows (program : Program) (s t : State) : Type 0 where
  pub budget : t.budget ≤ s.budget
  pub events : IsBeginning s.events t.events
  pub size : length t.memory ≡ length s.memory
  pub constants : (address : ℕ) → is_constant program address ≡ true
      → byte_at t.memory address ≡ byte_at s.memory address
  pub undeclared : (address : ℕ) → is_declared program address ≡ false
      → byte_at t.memory address ≡ byte_at s.memory address

-- within one call the objects of the frame keep their sizes
pub record Continues (program : Program) (s t : State) : Type 0 where
  pub follows : Follows program s t
  pub frame : map length t.frame ≡ map length s.frame

-- a run wants more budget only if none is left
abbrev pub IsSpent : Stop → State → Type 0
IsSpent More t = t.budget ≡ 0
IsSpent Ended t = Unit {0}
IsSpent (Outside reason) t = Unit {0}

-- what else holds of an answer, by the budget before it and after it: nothing, or that a jump took of it
abbrev pub Extra : Type 0 → Type 1
Extra A = (before : ℕ) → A → (after : ℕ) → Type 0

abbrev pub nothing_else : {A : Type 0} → Extra A
nothing_else before found after = Unit {0}

abbrev pub jump_took : Extra Flow
jump_took before Onward after = Unit {0}
jump_took before (Returned number) after = Unit {0}
jump_took before (Jumped label) after = after < before

-- an outcome from a state on
abbrev pub Keeps : {A : Type 0} → Program → Extra A → State → Outcome A → Type 0
Keeps program extra s (Gave found t) = Continues program s t × extra s.budget found t.budget
Keeps program extra s (Stopped why t) = Follows program s t × IsSpent why t

-- the body that a loop repeats
abbrev pub body_of_turn : Turn → TypedList
body_of_turn (LoopTurn head body) = body

-- a meaning given from outside keeps this if the budget is below a number; a turn and the rest after a jump come
-- after one was taken
pub record LaterKeeps (number : ℕ) (later : Later) : Type 0 where
  pub call : (at : InProgram) (arguments : List ℕ) (around : Surroundings) (s : State) → s.budget < number
      → Keeps around.program nothing_else s (later.call at arguments around s)
  pub again : (turn : Turn) (around : Surroundings) (s : State) → suc s.budget < number
      → Keeps around.program jump_took s (later.again turn around s)
  pub onto : (list : TypedList) (rest : TypedStatements) (around : Surroundings) (s : State)
      → suc s.budget < number → Keeps around.program jump_took s (later.onto list rest around s)

-- two meanings given from outside agree if the budget is below a number
pub record Agrees (number : ℕ) (one other : Later) : Type 0 where
  pub call : (at : InProgram) (arguments : List ℕ) (around : Surroundings) (s : State) → s.budget < number
      → one.call at arguments around s ≡ other.call at arguments around s
  pub again : (turn : Turn) (around : Surroundings) (s : State) → suc s.budget < number
      → one.again turn around s ≡ other.again turn around s
  pub onto : (list : TypedList) (rest : TypedStatements) (around : Surroundings) (s : State)
      → suc s.budget < number → one.onto list rest around s ≡ other.onto list rest around s

-- the events of an outcome begin with those of a state
abbrev pub ComesAfter : {A : Type 0} → State → Outcome A → Type 0
ComesAfter s (Gave found t) = IsBeginning s.events t.events
ComesAfter s (Stopped why t) = IsBeginning s.events t.events

-- a meaning given from outside only adds events
pub record LaterAdds (later : Later) : Type 0 where
  pub call : (at : InProgram) (arguments : List ℕ) (around : Surroundings) (s : State)
      → ComesAfter s (later.call at arguments around s)
  pub again : (turn : Turn) (around : Surroundings) (s : State) → ComesAfter s (later.again turn around s)
  pub onto : (list : TypedList) (rest : TypedStatements) (around : Surroundings) (s : State)
      → ComesAfter s (later.onto list rest around s)

-- the same state with more budget
abbrev pub with_more : ℕ → State → State
with_more more s = record s { budget = s.budget + more }

-- A second outcome, with more budget at its beginning: where the first run wants more, the second continues
-- from there, and else both come to the same.
abbrev pub Lasts : {A : Type 0} → ℕ → Outcome A → Outcome A → Type 0
Lasts more (Gave found t) other = other ≡ Gave found (with_more more t)
Lasts more (Stopped Ended t) other = other ≡ Stopped Ended (with_more more t)
Lasts more (Stopped (Outside reason) t) other = other ≡ Stopped (Outside reason) (with_more more t)
Lasts more (Stopped More t) other = ComesAfter t other

-- meanings given from outside, for a run and one with more budget
pub record LaterLasts (number more : ℕ) (one other : Later) : Type 0 where
  pub call : (at : InProgram) (arguments : List ℕ) (around : Surroundings) (s : State) → s.budget < number
      → Lasts more (one.call at arguments around s) (other.call at arguments around (with_more more s))
  pub again : (turn : Turn) (around : Surroundings) (s : State) → suc s.budget < number
      → Lasts more (one.again turn around s) (other.again turn around (with_more more s))
  pub onto : (list : TypedList) (rest : TypedStatements) (around : Surroundings) (s : State)
      → suc s.budget < number
      → Lasts more (one.onto list rest around s) (other.onto list rest around (with_more more s))
