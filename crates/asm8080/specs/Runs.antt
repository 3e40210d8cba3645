-- Runs of the machine from one state to another, whose steps are counted.
use Rattle.std.specs.Prelude.{◌≡◌, ℕ, ◌+◌, ◌<◌, ◌≤◌, List, [], ◌∷◌}
use Rattle.mem80.specs.declared.memory.TheConstants.{MEMORY_SIZE}
use Rattle.isa8080.specs.declared.instr.Instr.{Instr}
use Rattle.isa8080.specs.declared.registers.Status.TheVariants.{Running}
use Rattle.isa8080.specs.State.{State}
use Rattle.isa8080.specs.Act.{act}
use Rattle.isa8080.specs.Step.{advance, state_after}
use Rattle.asm8080.specs.Standing.{InstructionStands, size_of_instruction}

-- a run of `count` steps
abbrev pub Comes : (script : List (List ℕ)) → (count : ℕ) → (from to : State) → Type 0
Comes script count from to = to ≡ state_after script count from

-- a run that spends part of a budget, at most one a step
pub record Spends (script : List (List ℕ)) (budget : ℕ) (from : State) (left : ℕ) (to : State) : Type 0 where
  pub count : ℕ
  pub run : Comes script count from to
  pub enough : budget ≤ left + count
  pub spent : left ≤ budget

-- what instructions do one after another, wherever they stand
abbrev pub effect_of : (script : List (List ℕ)) → List Instr → State → State
effect_of script [] s = s
effect_of script (instruction ∷ others) s =
    effect_of script others (act script instruction (advance (size_of_instruction instruction) s))

-- the machine meets these instructions one after another: each stands at the program counter when its turn
-- comes
abbrev pub Meets : (script : List (List ℕ)) → List Instr → State → Type 0
Meets script [] s = Unit {0}
Meets script (instruction ∷ others) s =
    (s.status ≡ Running)
    × (s.registers.pc < MEMORY_SIZE)
    × InstructionStands s.memory s.registers.pc instruction
    × Meets script others (act script instruction (advance (size_of_instruction instruction) s))
