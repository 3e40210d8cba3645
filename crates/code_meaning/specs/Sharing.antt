-- The bytes of a program that the machine has as the source has them, and those that may change.
use Rattle.std.specs.Prelude.{◌≡◌, ℕ, ◌⊎◌, true, false, List, length}
use Rattle.mem80.specs.declared.memory.TheConstants.{MEMORY_SIZE}
use Rattle.mem80.specs.Memory.{IsMemory, byte_at}
use Rattle.mem80.specs.Range.{IsIn}
use Rattle.meaning.specs.Access.{is_constant, is_declared}
use Rattle.meaning.specs.Outcomes.{Program}
use Rattle.asm8080.specs.Standing.{AgreesIn, Keeps}

-- a byte that the program may change
abbrev pub IsVariable : Program → (address : ℕ) → Type 0
IsVariable program address = (is_declared program address ≡ true) × (is_constant program address ≡ false)

-- a byte that a run of the program may change: a variable, or one of the stack
abbrev pub MayChange : Program → (address : ℕ) → Type 0
MayChange program address = IsVariable program address ⊎ IsIn address program.placement.stack

-- A memory with the bytes of the source's memory at declared addresses, and with the code as it was loaded.
-- Of the memory as it was loaded no bytes changed but variables and those of the stack.
pub record Shares (program : Program) (image source memory : List ℕ) : Type 0 where
  pub is_memory : IsMemory memory
  pub size : length source ≡ MEMORY_SIZE
  pub declared : (address : ℕ) → is_declared program address ≡ true
      → byte_at memory address ≡ byte_at source address
  pub code : AgreesIn program.placement.code image memory
  pub others : Keeps (MayChange program) image memory

-- a program as it is loaded: where it lies, and the memory that it was loaded into
pub record Loaded : Type 0 where
  pub program : Program
  pub image : List ℕ
