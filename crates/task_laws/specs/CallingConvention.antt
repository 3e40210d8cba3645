-- Where calls pass their arguments and their results: in a register, and in words of the stack.
use Rattle.std.specs.Prelude.{◌≡◌, ℕ, ◌+◌, ◌-◌, ◌*◌, ◌/◌, ◌%◌, List, [], ◌∷◌, length, Option, Some, None}
use Rattle.mem80.specs.Memory.{byte_at}
use Rattle.trees.specs.declared.declaration.ScalarType.{ScalarType}
use Rattle.trees.specs.declared.declaration.ScalarType.TheVariants.{Byte, Address}
use Rattle.isa8080.specs.State.{Registers}

-- a value of a type is in its register: a BYTE in A, an ADDRESS in HL
abbrev pub InRegister : ScalarType → (value : ℕ) → Registers → Type 0
InRegister Byte value r = r.a ≡ value
InRegister Address value r = (r.h ≡ value / 256) × (r.l ≡ value % 256)

-- a value of a type is in a word of memory: a BYTE is the high byte
abbrev pub InWord : ScalarType → (value : ℕ) → (memory : List ℕ) → (address : ℕ) → Type 0
InWord Byte value memory address = byte_at memory (address + 1) ≡ value
InWord Address value memory address =
    (byte_at memory address ≡ value % 256) × (byte_at memory (address + 1) ≡ value / 256)

-- the number of bytes of arguments that are pushed: a word for each but the last
abbrev pub bytes_pushed : List ℕ → ℕ
bytes_pushed values = 2 * (length values - 1)

-- the arguments are passed as a call requires: the last one in its register, the others in words from the
-- stack pointer upwards, with the first one highest
abbrev pub ArgumentsLie : List ScalarType → (values : List ℕ) → (top : ℕ) → Registers
    → (memory : List ℕ) → Type 0
ArgumentsLie [] [] top r memory = Unit {0}
ArgumentsLie (scalar ∷ []) (value ∷ []) top r memory = InRegister scalar value r
ArgumentsLie (scalar ∷ next ∷ scalars) (value ∷ values) top r memory =
    InWord scalar value memory (top + 2 * length scalars) × ArgumentsLie (next ∷ scalars) values top r memory
ArgumentsLie scalars values top r memory = ⊥

-- the result of a call is in its register
abbrev pub ResultLies : Option ScalarType → (value : ℕ) → Registers → (memory : List ℕ) → Type 0
ResultLies None value r memory = Unit {0}
ResultLies (Some scalar) value r memory = InRegister scalar value r
