-- A memory is the list of its bytes, the byte at address 0 first.
use Rattle.std.specs.Prelude.{◌≡◌, ℕ, ◌+◌, ◌*◌, ◌%◌, ◌<◌, List, ◌++◌, length, All, slice_index, replicate, take, drop}
use Rattle.mem80.specs.declared.memory.TheConstants.{MEMORY_SIZE}

-- 65,536 bytes
pub record IsMemory (memory : List ℕ) : Type 0 where
  pub size : length memory ≡ MEMORY_SIZE
  pub bytes : All (λ byte. byte < 256) memory

-- each byte is 0
unfoldable pub zeros : List ℕ
zeros = replicate MEMORY_SIZE 0

-- a memory of zeros
abbrev pub IsZeroed : List ℕ → Type 0
IsZeroed memory = memory ≡ zeros

-- the byte at an address
abbrev pub byte_at : List ℕ → ℕ → ℕ
byte_at memory address = slice_index memory address

-- the 16-bit value at an address: its low byte, and the high byte at the next address, 0 after 65535
abbrev pub word_at : List ℕ → ℕ → ℕ
word_at memory address = byte_at memory address + 256 * byte_at memory ((address + 1) % MEMORY_SIZE)

-- a memory with bytes put from an address on
abbrev pub with_bytes : List ℕ → ℕ → List ℕ → List ℕ
with_bytes bytes start memory = take start memory ++ (bytes ++ drop (start + length bytes) memory)
