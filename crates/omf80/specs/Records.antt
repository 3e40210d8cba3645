-- Records as bytes (Intel's 8080 relocatable object module format, "Record formats").
use Rattle.std.specs.Prelude.{◌≡◌, ℕ, ◌+◌, ◌-◌, ◌*◌, ◌/◌, ◌%◌, ◌==◌, ◌≤◌, Bool, not, ◌||◌, nat_lt, List, [], ◌∷◌, ◌++◌, length, take, drop, sum, find, slice_index, Option, is_none, option_map}
use Rattle.mem80.specs.Sums.{checksum_of}
use Rattle.omf80.specs.declared.fault.Fault.{Fault}
use Rattle.omf80.specs.declared.fault.Fault.TheVariants.{Truncated, WrongSum, WrongLength, UnknownType}
use Rattle.omf80.specs.declared.kind.RecordKind.{RecordKind}
use Rattle.omf80.specs.declared.kind.RecordKind.TheVariants.{Header, ExternalNames, Publics, Content, ExternalReferences, Relocation, IntersegmentReferences, ModuleEnd, EndOfFile}
use Rattle.omf80.specs.declared.kind.TheConstants.{HEADING_SIZE, LENGTH_LIMIT, BODY_LIMIT}

-- the byte that a record of a kind begins with
abbrev pub type_byte : RecordKind → ℕ
type_byte Header = 0x02
type_byte ExternalNames = 0x18
type_byte Publics = 0x16
type_byte Content = 0x06
type_byte ExternalReferences = 0x20
type_byte Relocation = 0x22
type_byte IntersegmentReferences = 0x24
type_byte ModuleEnd = 0x04
type_byte EndOfFile = 0x0E

abbrev pub kinds : List RecordKind
kinds =
    Header ∷ ExternalNames ∷ Publics ∷ Content ∷ ExternalReferences ∷ Relocation ∷ IntersegmentReferences
    ∷ ModuleEnd ∷ EndOfFile ∷ []

-- the kind of record that begins with a byte
abbrev pub kind_of_type : (byte : ℕ) → Option RecordKind
kind_of_type byte = find (λ kind. type_byte kind == byte) kinds

-- a number in two bytes, the low one first
abbrev pub word_bytes : ℕ → List ℕ
word_bytes number = number % 256 ∷ number / 256 ∷ []

-- type, length and body: all of a record but its checksum; the length counts the checksum too
abbrev pub without_checksum : (type : ℕ) → (body : List ℕ) → List ℕ
without_checksum type body = type ∷ word_bytes (length body + 1) ++ body

-- bytes with their checksum at the end
abbrev pub with_checksum : List ℕ → List ℕ
with_checksum bytes = bytes ++ checksum_of bytes ∷ []

-- the bytes of a record with this type and this body
unfoldable pub record_bytes : (type : ℕ) → (body : List ℕ) → List ℕ
record_bytes type body = with_checksum (without_checksum type body)

-- a record: its kind and its body
pub record Record : Type 0 where
  pub kind : RecordKind
  pub body : List ℕ

abbrev pub bytes_of : Record → List ℕ
bytes_of written = record_bytes (type_byte written.kind) written.body

-- The bytes begin with this record, and these follow it.
pub record BeginsWith (bytes : List ℕ) (first : Record) (rest : List ℕ) : Type 0 where
  pub limit : length first.body ≤ BODY_LIMIT
  pub spelled : bytes ≡ bytes_of first ++ rest

-- the length that a record states, if its heading is there
abbrev pub stated_length : List ℕ → ℕ
stated_length bytes = slice_index bytes 1 + 256 * slice_index bytes 2

-- where the record ends that the bytes begin with
abbrev pub record_end : List ℕ → ℕ
record_end bytes = HEADING_SIZE + stated_length bytes

-- its body
abbrev pub first_body : List ℕ → List ℕ
first_body bytes = drop HEADING_SIZE (take (record_end bytes - 1) bytes)

-- What can be wrong with the record that the bytes begin with, and the fault that each is, in the order in
-- which they are judged. A later line matters only where no line above it holds.
abbrev pub record_faults : List ℕ → List (Bool × Fault)
record_faults bytes =
    (nat_lt (length bytes) HEADING_SIZE, Truncated)
    ∷ (stated_length bytes == 0 || nat_lt LENGTH_LIMIT (stated_length bytes), WrongLength)
    ∷ (nat_lt (length bytes) (record_end bytes), Truncated)
    ∷ (not (sum (take (record_end bytes) bytes) % 256 == 0), WrongSum)
    ∷ (is_none (kind_of_type (slice_index bytes 0)), UnknownType)
    ∷ []

-- the first in a list of conditions that holds
abbrev pub first_that_holds : {F : Type 0} → List (Bool × F) → Option F
first_that_holds judged = option_map (λ found. found.1) (find (λ judged_one. judged_one.0) judged)

-- the fault of the record that the bytes begin with, if it has one
unfoldable pub record_fault : List ℕ → Option Fault
record_fault bytes = first_that_holds (record_faults bytes)
