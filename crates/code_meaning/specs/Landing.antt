-- The end of a run of the machine, from the outcome of a part of a program.
use Rattle.std.specs.Prelude.{◌≡◌, ℕ, ◌+◌, ◌≤◌, List}
use Rattle.ports.specs.declared.event.Event.{Event}
use Rattle.meaning.specs.Outcomes.{State as SourceState, Ended, More, Outside, Outcome, Gave, Stopped}
use Rattle.isa8080.specs.declared.registers.Status.{Status}
use Rattle.isa8080.specs.declared.registers.Status.TheVariants.{Halted, Running}
use Rattle.isa8080.specs.State.{Registers, State, wrap}
use Rattle.isa8080.specs.Step.{running}
use Rattle.asm8080.specs.Runs.{Comes}
use Rattle.code_meaning.specs.Sharing.{Loaded, Shares}

-- a running machine at a place; places count on past the end of memory, where the program counter wraps to 0
abbrev pub at_place : (place : ℕ) → Registers → (memory : List ℕ) → List Event → State
at_place place r memory events = running (record r { pc = wrap place }) memory events

-- A run with a good end that takes at least as many steps as it spends of a budget, plus `more`.
pub record Lands
    (script : List (List ℕ)) (budget more : ℕ) (from : State) (left : ℕ) (Good : State → Type 0) : Type 0 where
  pub count : ℕ
  pub end : State
  pub run : Comes script count from end
  pub paid : budget + more ≤ left + count
  pub spent : left ≤ budget
  pub is_good : Good end

-- a machine with this status, after these events
pub record IsLeft (status : Status) (events : List Event) (end : State) : Type 0 where
  pub status_is : end.status ≡ status
  pub events_are : end.events ≡ events

-- A machine that halted where the source ended: after its events, and with a memory that has each declared
-- byte as the memory of the source has it, and is else as it was loaded but for the stack.
pub record IsHalted (loaded : Loaded) (t : SourceState) (end : State) : Type 0 where
  pub left : IsLeft Halted t.events end
  pub shares : Shares loaded.program loaded.image t.memory end.memory

-- The run for an outcome. If a value is given, the run comes to a good end. If the program ends, the machine
-- halts after the same events, with the memory of the source. If the budget runs out, the machine still runs
-- after the same events. If the outcome goes outside, nothing is promised.
abbrev pub Told :
    {A : Type 0} → (loaded : Loaded) → (budget more : ℕ) → (from : State) → Outcome A
    → (Good : A → SourceState → State → Type 0) → Type 0
Told loaded budget more from (Gave found t) Good =
    Lands loaded.program.script budget more from t.budget (Good found t)
Told loaded budget more from (Stopped Ended t) Good =
    Lands loaded.program.script budget 0 from t.budget (IsHalted loaded t)
Told loaded budget more from (Stopped More t) Good =
    Lands loaded.program.script budget 0 from 0 (IsLeft Running t.events)
Told loaded budget more from (Stopped (Outside reason) t) Good = Unit {0}

-- from a state on, the machine does what an outcome says
pub record Does
    {A : Type 0} (loaded : Loaded) (budget more : ℕ) (from : State) (outcome : Outcome A)
    (Good : A → SourceState → State → Type 0) : Type 0 where
  pub told : Told loaded budget more from outcome Good
