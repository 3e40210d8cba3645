-- Bytes and instructions that stand in a memory, and the parts of a memory that a machine preserves.
use Rattle.std.specs.Prelude.{◌≡◌, ℕ, ◌+◌, ◌-◌, ◌≤◌, List, [], ◌∷◌, length, Option, Some, None}
use Rattle.mem80.specs.declared.memory.TheConstants.{MEMORY_SIZE}
use Rattle.mem80.specs.declared.range.Range.{Range}
use Rattle.mem80.specs.Memory.{byte_at}
use Rattle.mem80.specs.Range.{IsIn}
use Rattle.isa8080.specs.declared.instr.Instr.{Instr}
use Rattle.isa8080.specs.State.{State, wrap}
use Rattle.isa8080.specs.Code.{bytes_of}

-- bytes stand from an address on; after 65535 comes 0
abbrev pub BytesStand : (memory : List ℕ) → (address : ℕ) → (bytes : List ℕ) → Type 0
BytesStand memory address [] = Unit {0}
BytesStand memory address (byte ∷ others) =
    (byte_at memory (wrap address) ≡ byte) × BytesStand memory (address + 1) others

-- of bytes from an address on, those that are set stand
abbrev pub SetBytesStand : (memory : List ℕ) → (address : ℕ) → (bytes : List (Option ℕ)) → Type 0
SetBytesStand memory address [] = Unit {0}
SetBytesStand memory address (None ∷ others) = SetBytesStand memory (address + 1) others
SetBytesStand memory address (Some byte ∷ others) =
    (byte_at memory (wrap address) ≡ byte) × SetBytesStand memory (address + 1) others

-- an instruction stands at an address
abbrev pub InstructionStands : (memory : List ℕ) → (address : ℕ) → Instr → Type 0
InstructionStands memory address instruction = BytesStand memory address (bytes_of instruction)

abbrev pub size_of_instruction : Instr → ℕ
size_of_instruction instruction = length (bytes_of instruction)

-- two memories have the same bytes in a range
abbrev pub AgreesIn : Range → (memory other : List ℕ) → Type 0
AgreesIn range memory other =
    (address : ℕ) → IsIn address range → byte_at other address ≡ byte_at memory address

-- a memory becomes another, and they differ only at addresses of `Own`
pub record Keeps (Own : ℕ → Type 0) (before after : List ℕ) : Type 0 where
  pub size : length after ≡ length before
  pub bytes : (address : ℕ) → (Own address → ⊥) → byte_at after address ≡ byte_at before address

-- where the stack ends, counted up to 65536, so that SP is 0 at the end of memory
pub record StackIsAt (level : ℕ) (s : State) : Type 0 where
  pub limit : level ≤ MEMORY_SIZE
  pub pointer : s.registers.sp ≡ wrap level

-- the `room` bytes below a level, which is at least `room`
abbrev pub below : (level room : ℕ) → Range
below level room = record { start = level - room; len = room }
