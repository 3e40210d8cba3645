-- The worked program of the assembler, wherever it is placed.
use Rattle.std.specs.Prelude.{◌≡◌, ℕ, ◌+◌, ◌%◌, ◌≤◌, ◌⊎◌, List, [], ◌∷◌, length, Option}
use Rattle.mem80.specs.declared.memory.TheConstants.{MEMORY_SIZE}
use Rattle.mem80.specs.Range.{IsIn}
use Rattle.ports.specs.declared.event.Event.{Event}
use Rattle.object_modules.specs.declared.segment.Target.{Target}
use Rattle.object_modules.specs.declared.segment.Target.TheVariants.{InSegment}
use Rattle.object_modules.specs.declared.segment.Segment.TheVariants.{Code, Stack}
use Rattle.isa8080.specs.declared.instr.Instr.TheVariants.{Mvi, Dcr, Inr, Hlt, Ret}
use Rattle.isa8080.specs.declared.instr.Operand.TheVariants.{Of}
use Rattle.isa8080.specs.declared.instr.Register.TheVariants.{A, B}
use Rattle.isa8080.specs.declared.instr.Pair.TheVariants.{Sp}
use Rattle.isa8080.specs.declared.instr.Condition.TheVariants.{NotZero}
use Rattle.isa8080.specs.declared.registers.Status.TheVariants.{Halted, Running}
use Rattle.isa8080.specs.State.{Registers, State}
use Rattle.isa8080.specs.Step.{running, state_after}
use Rattle.asm8080.specs.declared.item.Item.{Item}
use Rattle.asm8080.specs.declared.item.Item.TheVariants.{Plain, WithWord, Mark}
use Rattle.asm8080.specs.declared.item.Reference.TheVariants.{AtLabel, AtTarget}
use Rattle.asm8080.specs.declared.item.WordForm.TheVariants.{LoadPair, CallTo, JumpWhere}
use Rattle.asm8080.specs.Assembled.{Assembled, Assembles, resolved}
use Rattle.asm8080.specs.Items.{Assembly}
use Rattle.asm8080.specs.Runs.{Comes}
use Rattle.asm8080.specs.Standing.{Keeps, SetBytesStand, below}

-- A counts three calls: label 0 is the loop, label 1 the called routine
abbrev pub counting : List Item
counting =
    WithWord (LoadPair Sp) (AtTarget (InSegment Stack) 0)
    ∷ Plain (Mvi (Of B) 3)
    ∷ Mark 0
    ∷ WithWord CallTo (AtLabel 1)
    ∷ Plain (Dcr (Of B))
    ∷ WithWord (JumpWhere NotZero) (AtLabel 0)
    ∷ Plain Hlt
    ∷ Mark 1
    ∷ Plain (Inr (Of A))
    ∷ Plain Ret
    ∷ []

-- the program with its two labels
abbrev pub counting_code : Assembly
counting_code = record { items = counting; labels = 2 }

-- its code lies from a base on, and a stack that has room for a return address ends at a level, apart from it
pub record IsPlaced (base level : ℕ) (bytes : List (Option ℕ)) (memory : List ℕ) : Type 0 where
  pub fits : base + 15 ≤ MEMORY_SIZE
  pub size : length memory ≡ MEMORY_SIZE
  pub room : 2 ≤ level
  pub limit : level ≤ MEMORY_SIZE
  pub apart : (level ≤ base) ⊎ (base + 15 + 2 ≤ level)
  pub stands : SetBytesStand memory base bytes

-- the machine has halted, with A counted up by 3 modulo 256
pub record Counts
    (memory : List ℕ) (r : Registers) (events : List Event) (level : ℕ) (t : State) : Type 0 where
  pub halted : t.status ≡ Halted
  pub counted : t.registers.a ≡ (r.a + 3) % 256
  pub same_events : t.events ≡ events
  pub kept : Keeps (λ address. IsIn address (below level 2)) memory t.memory

-- after 18 steps, and not before
pub record Ends
    (script : List (List ℕ)) (memory : List ℕ) (r : Registers) (events : List Event)
    (base level : ℕ) : Type 0 where
  pub last : State
  pub run : Comes script 18 (running (record r { pc = base }) memory events) last
  pub runs_before :
      (state_after script 17 (running (record r { pc = base }) memory events)).status ≡ Running
  pub counts : Counts memory r events level last

-- code of the program, wherever it is placed, does so
abbrev pub CountsAnywhere : Type 0
CountsAnywhere =
    (script : List (List ℕ)) (address_of : Target → ℕ) (code : Assembled) (memory : List ℕ)
    (r : Registers) (events : List Event)
    → Assembles counting_code code
    → IsPlaced (address_of (InSegment Code)) (address_of (InSegment Stack)) (resolved address_of code) memory
    → Ends script memory r events (address_of (InSegment Code)) (address_of (InSegment Stack))
