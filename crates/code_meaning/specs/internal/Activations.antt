-- Activations, that is, calls of procedures and the main program on the machine, and the relation between the
-- memory of the machine and that of the source.
use Rattle.std.specs.Prelude.{◌≡◌, ◌≢◌, ℕ, ◌+◌, ◌%◌, ◌<◌, ◌≤◌, ◌⊎◌, true, List, length}
use Rattle.mem80.specs.declared.memory.TheConstants.{MEMORY_SIZE}
use Rattle.mem80.specs.Memory.{byte_at}
use Rattle.meaning.specs.Outcomes.{Program, State as SourceState}
use Rattle.meaning.specs.Access.{Surroundings, is_declared, frame_bytes}
use Rattle.isa8080.specs.State.{HoldBytes, Registers, State, wrap}
use Rattle.asm8080.specs.declared.item.Item.{Item}
use Rattle.asm8080.specs.Items.{Layout, Stands}
use Rattle.asm8080.specs.Standing.{Keeps}
use Rattle.code_meaning.specs.Landing.{at_place}
pub use Rattle.code_meaning.specs.Sharing.{IsVariable, Loaded, MayChange, Shares}

-- An activation: its surroundings; the labels and targets of its module's code; the memory as it was loaded,
-- with which all code is compared; the lowest byte of the stack that it may change; the stack pointer when
-- nothing is pushed, counted up to 65536; the distance from there up to each object of the frame, and its
-- size in bytes; the distance up to the return address, and that up to the caller's stack.
pub record Activation : Type 0 where
  pub around : Surroundings
  pub layout : Layout
  pub image : List ℕ
  pub floor : ℕ
  pub level : ℕ
  pub distance : (object : ℕ) → ℕ
  pub size : (object : ℕ) → ℕ
  pub back : ℕ
  pub whole : ℕ

-- the program that it is of, as it is loaded
abbrev pub loaded_of : Activation → Loaded
loaded_of activation = record { program = activation.around.program; image = activation.image }

-- a byte of the stack that an activation may change when the stack pointer is at a level: one from its floor
-- up to there, or one below the caller's stack that is neither pushed nor part of the return address
abbrev pub IsMine : Activation → (top address : ℕ) → Type 0
IsMine activation top address =
    ((activation.floor ≤ address) × (address < top))
    ⊎ ((activation.level ≤ address) × (address < activation.level + activation.whole)
    × (address ≢ activation.level + activation.back) × (address ≢ activation.level + activation.back + 1))

-- a byte that an activation may change
abbrev pub Owns : Activation → (top address : ℕ) → Type 0
Owns activation top address =
    IsVariable activation.around.program address ⊎ IsMine activation top address

-- the bytes of a frame are at their places
pub record FrameLies (activation : Activation) (frame : List (List ℕ)) (memory : List ℕ) : Type 0 where
  pub sizes : (object : ℕ) → length (frame_bytes frame object) ≡ activation.size object
  pub bytes : (object offset : ℕ) → offset < activation.size object
      → byte_at memory (activation.level + activation.distance object + offset)
      ≡ byte_at (frame_bytes frame object) offset

-- Code of an activation may continue: the stack pointer is at a level, memory and frame are those of the
-- source, and compared with an earlier memory only bytes of the activation have changed.
pub record IsReady
    (activation : Activation) (top : ℕ) (base : List ℕ) (source : List ℕ) (frame : List (List ℕ))
    (r : Registers) (memory : List ℕ) : Type 0 where
  pub pointer : r.sp ≡ wrap top
  pub registers : HoldBytes r
  pub shares : Shares activation.around.program activation.image source memory
  pub frame_lies : FrameLies activation frame memory
  pub kept : Keeps (Owns activation top) base memory

-- `pushed` bytes are pushed, all in words, and there is room for `need` bytes below them, beside the room for
-- calls
pub record HasRoom (activation : Activation) (top pushed need : ℕ) : Type 0 where
  pub depth : top + pushed ≡ activation.level
  pub even : pushed % 2 ≡ 0
  pub enough : activation.floor + activation.around.room + need ≤ top

-- facts about the placement of a program that do not depend on the run
pub record PlacementLies (program : Program) : Type 0 where
  pub stack_free : (address : ℕ) → is_declared program address ≡ true
      → program.placement.stack.start ≤ address
      → address < program.placement.stack.start + program.placement.stack.len
      → ⊥
  pub code_free : (address : ℕ) → IsVariable program address
      → program.placement.code.start ≤ address
      → address < program.placement.code.start + program.placement.code.len
      → ⊥
  pub apart : (address : ℕ) → program.placement.code.start ≤ address
      → address < program.placement.code.start + program.placement.code.len
      → program.placement.stack.start ≤ address
      → address < program.placement.stack.start + program.placement.stack.len
      → ⊥
  pub code_in_memory : program.placement.code.start + program.placement.code.len ≤ MEMORY_SIZE
  pub stack_in_memory : program.placement.stack.start + program.placement.stack.len ≤ MEMORY_SIZE

-- the same for the placement of a frame: it is in the stack, and each byte has its own place, outside the
-- return address
pub record LiesWell (activation : Activation) : Type 0 where
  pub placed : PlacementLies activation.around.program
  pub bottom : activation.around.program.placement.stack.start ≤ activation.floor
  pub low : activation.floor ≤ activation.level
  pub above : activation.level + activation.whole
      ≤ activation.around.program.placement.stack.start + activation.around.program.placement.stack.len
  pub inside : (object offset : ℕ) → offset < activation.size object
      → activation.distance object + offset < activation.whole
  pub not_back : (object offset : ℕ) → offset < activation.size object
      → (activation.distance object + offset ≢ activation.back)
      × (activation.distance object + offset ≢ activation.back + 1)
  pub differ : (object offset other place : ℕ) → offset < activation.size object → place < activation.size other
      → activation.distance object + offset ≡ activation.distance other + place
      → (object ≡ other) × (offset ≡ place)

-- items in the code as it was loaded
pub record IsThere (activation : Activation) (items : List Item) (from to : ℕ) : Type 0 where
  pub stands : Stands activation.layout activation.image items from to
  pub low : activation.around.program.placement.code.start ≤ from
  pub high : to ≤ activation.around.program.placement.code.start + activation.around.program.placement.code.len

-- a machine at a place, ready to continue; `Holds` holds for the value, the registers and the memory
pub record Arrives
    {A : Type 0} (activation : Activation) (top : ℕ) (base : List ℕ) (place : ℕ)
    (Holds : A → Registers → List ℕ → Type 0) (found : A) (t : SourceState) (end : State) : Type 0 where
  pub r : Registers
  pub memory : List ℕ
  pub is_at : end ≡ at_place place r memory t.events
  pub ready : IsReady activation top base t.memory t.frame r memory
  pub holds : Holds found r memory
