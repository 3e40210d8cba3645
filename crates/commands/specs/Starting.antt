-- The memory that a program starts from, before its image or its initial values come over it.
use Rattle.std.specs.Prelude.{◌≡◌, ◌==◌, ℕ, ◌<◌, List, [], ◌∷◌, length, Option, Some, None, unwrap_or, if◌then◌else◌}
use Rattle.std.specs.Option.{option_or}
use Rattle.mem80.specs.Memory.{byte_at}
use Rattle.mem80.specs.declared.memory.TheConstants.{MEMORY_SIZE}
use Rattle.command_line.specs.Settings.{Values}
use Rattle.command_line.specs.declared.start_memory.MemoryByte.{MemoryByte}

-- the byte that is named for an address, of several the last
abbrev pub byte_named : List MemoryByte → (address : ℕ) → Option ℕ
byte_named [] address = None
byte_named (one ∷ later) address =
    option_or (byte_named later address) (if address == one.address then Some one.byte else None)

-- each byte is the one that is named for its address, and else that of the fill
pub record IsStart (values : Values) (memory : List ℕ) : Type 0 where
  pub size : length memory ≡ MEMORY_SIZE
  pub bytes :
      (address : ℕ) → address < MEMORY_SIZE
      → byte_at memory address ≡ unwrap_or (byte_named values.memory address) values.fill
