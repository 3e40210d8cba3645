-- The results of reads and writes of memory, by the bytes that the modules of a program declare.
use Rattle.std.specs.Prelude.{ℕ, ◌+◌, ◌*◌, ◌/◌, ◌%◌, Bool, List, slice_set, Result, Ok, Err, if◌then◌else◌}
use Rattle.mem80.specs.declared.memory.TheConstants.{MEMORY_SIZE}
use Rattle.mem80.specs.Memory.{byte_at}
use Rattle.trees.specs.declared.declaration.ScalarType.{ScalarType}
use Rattle.trees.specs.declared.declaration.ScalarType.TheVariants.{Byte, Address}
use Rattle.typed_trees.specs.TypedTrees.{TypedModule}
use Rattle.layout.specs.Placement.{Placement, pieces_of}
use Rattle.layout.specs.Placement as placements
use Rattle.join.specs.declared.joined.Joined.{Joined}
use Rattle.join.specs.Views.{modules_in}
use Rattle.placing.specs.declared.placement.Placement.{Placement as CodePlacement}
use Rattle.placing.specs.declared.table.ByteKinds.{ByteKinds}
use Rattle.placing.specs.internal.Tables.{IsTableOf}
use Rattle.placing.specs.Views.{placement_view}
use Rattle.meaning.specs.declared.reason.Reason.{Reason}
use Rattle.meaning.specs.declared.reason.Reason.TheVariants.{Byte as UndeclaredByte, Constant}

-- the kinds of bytes are those of a program at a placement
abbrev pub AreKindsOf : Joined → CodePlacement → ByteKinds → Type 0
AreKindsOf joined placement table =
    IsTableOf (pieces_of (modules_in joined) (placement_view placement)) table.kinds.value

-- whether something that modules declare has an address, and whether a constant has it
unfoldable pub is_declared_at : List TypedModule → Placement → (address : ℕ) → Bool
is_declared_at modules placement address = placements.is_declared modules placement address

unfoldable pub is_constant_at : List TypedModule → Placement → (address : ℕ) → Bool
is_constant_at modules placement address = placements.is_constant modules placement address

-- the result of a read of a byte: a byte that is read is declared
abbrev pub byte_read : List TypedModule → Placement → (memory : List ℕ) → (address : ℕ) → Result ℕ Reason
byte_read modules placement memory address =
    if is_declared_at modules placement address then Ok (byte_at memory address) else Err UndeclaredByte

-- the result of a write, and the memory after it
pub record Written : Type 0 where
  pub answer : Result (Unit {0}) Reason
  pub memory : List ℕ

abbrev pub written : (memory : List ℕ) → Written
written memory = record { answer = Ok tt; memory = memory }

abbrev pub refused : Reason → (memory : List ℕ) → Written
refused reason memory = record { answer = Err reason; memory = memory }

-- a byte that is written is declared, and not a constant
abbrev pub byte_written :
    List TypedModule → Placement → (memory : List ℕ) → (address byte : ℕ) → Written
byte_written modules placement memory address byte =
    if is_declared_at modules placement address
    then (if is_constant_at modules placement address then refused Constant memory
    else written (slice_set memory address byte))
    else refused UndeclaredByte memory

-- the address after, 0 after 65535
abbrev pub next_address : (address : ℕ) → ℕ
next_address address = (address + 1) % MEMORY_SIZE

-- the number of two bytes that were read, the low one first
abbrev pub number_of_bytes : (low high : Result ℕ Reason) → Result ℕ Reason
number_of_bytes (Ok low) (Ok high) = Ok (low + 256 * high)
number_of_bytes (Ok low) (Err reason) = Err reason
number_of_bytes (Err reason) high = Err reason

-- the result of a read of a scalar
abbrev pub scalar_read :
    List TypedModule → Placement → (memory : List ℕ) → ScalarType → (address : ℕ) → Result ℕ Reason
scalar_read modules placement memory Byte address = byte_read modules placement memory address
scalar_read modules placement memory Address address =
    number_of_bytes (byte_read modules placement memory address)
    (byte_read modules placement memory (next_address address))

-- a further write to the memory after a write, unless that was refused
abbrev pub then_write : Written → (List ℕ → Written) → Written
then_write first next = by_answer first.answer
  where
    by_answer : Result (Unit {0}) Reason → Written
    by_answer (Ok _) = next first.memory
    by_answer (Err reason) = first

-- a scalar that is written, its low byte first
abbrev pub scalar_written :
    List TypedModule → Placement → (memory : List ℕ) → ScalarType → (address number : ℕ) → Written
scalar_written modules placement memory Byte address number =
    byte_written modules placement memory address (number % 256)
scalar_written modules placement memory Address address number =
    then_write (byte_written modules placement memory address (number % 256))
    (λ after. byte_written modules placement after (next_address address) (number / 256))
