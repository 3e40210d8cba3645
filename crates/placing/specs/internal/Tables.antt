-- The kind of each byte of memory to a program.
use Rattle.std.specs.Prelude.{◌≡◌, ℕ, ◌<◌, List, length, filter, slice_index_or}
use Rattle.mem80.specs.declared.memory.TheConstants.{MEMORY_SIZE}
use Rattle.layout.specs.Placement.{PlacedPiece, IsOneOf, is_constant_piece}
use Rattle.placing.specs.declared.table.ByteKind.{ByteKind}
use Rattle.placing.specs.declared.table.ByteKind.TheVariants.{Undeclared, Writable, Constant}

-- a byte is a constant if a constant piece has it, writable if only others have it, and undeclared if none has
abbrev pub IsKind : List PlacedPiece → (address : ℕ) → ByteKind → Type 0
IsKind pieces address Undeclared = ¬ IsOneOf pieces address
IsKind pieces address Writable =
    IsOneOf pieces address × ¬ IsOneOf (filter is_constant_piece pieces) address
IsKind pieces address Constant = IsOneOf (filter is_constant_piece pieces) address

-- a table has the kind of each byte of memory, by these pieces
abbrev pub IsTableOf : List PlacedPiece → List ByteKind → Type 0
IsTableOf pieces kinds =
    (address : ℕ) → address < MEMORY_SIZE → IsKind pieces address (slice_index_or kinds address Undeclared)
