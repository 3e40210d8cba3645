-- How far the pieces reach that start at each address, and what each byte is by that.
use Rattle.std.specs.Prelude.{ℕ, ◌+◌, min, max, Bool, true, false, List, fold, take, replicate, slice_index, slice_set, Option, Some, None, nat_lt, if◌then◌else◌}
use Rattle.mem80.specs.declared.memory.TheConstants.{MEMORY_SIZE}
use Rattle.mem80.specs.declared.range.Range.{Range}
use Rattle.layout.specs.Placement.{PlacedPiece, is_constant_piece}
use Rattle.placing.specs.declared.table.ByteKind.{ByteKind}
use Rattle.placing.specs.declared.table.ByteKind.TheVariants.{Undeclared, Writable, Constant}

-- for each address the greatest end of the pieces that start there, 0 if none starts: of all pieces, and
-- of the constants
pub record ReachTables : Type 0 where
  pub all : List ℕ
  pub constants : List ℕ

-- no piece starts anywhere
unfoldable pub no_ends : List ℕ
no_ends = replicate MEMORY_SIZE 0

abbrev pub no_reaches : ReachTables
no_reaches = record { all = no_ends; constants = no_ends }

-- the end of a range, or the end of memory if it passes that
abbrev pub end_of : Range → ℕ
end_of range = min (range.start + range.len) MEMORY_SIZE

-- one more piece that starts at an address
abbrev pub raised : List ℕ → (start end : ℕ) → List ℕ
raised ends start end = slice_set ends start (max (slice_index ends start) end)

abbrev pub with_end : ReachTables → (start end : ℕ) → (is_constant : Bool) → ReachTables
with_end tables start end is_constant = record {
  all = raised tables.all start end;
  constants = if is_constant then raised tables.constants start end else tables.constants;
}

abbrev pub with_piece : ReachTables → PlacedPiece → ReachTables
with_piece tables piece =
    with_end tables piece.range.start (end_of piece.range) (is_constant_piece piece)

abbrev pub with_found : ReachTables → Option PlacedPiece → ReachTables
with_found tables None = tables
with_found tables (Some piece) = with_piece tables piece

abbrev pub with_pieces : ReachTables → List PlacedPiece → ReachTables
with_pieces tables pieces = fold with_piece tables pieces

-- the greatest end of the pieces that start below an address
abbrev pub reach_below : List ℕ → (address : ℕ) → ℕ
reach_below ends address = fold max 0 (take address ends)

-- whether a piece that starts at an address or below it reaches past it
abbrev pub is_covered : List ℕ → (address : ℕ) → Bool
is_covered ends address = nat_lt address (reach_below ends (address + 1))

-- the kind of a byte, by whether a piece has it and whether a constant has it
abbrev pub byte_kind : (is_declared is_constant : Bool) → ByteKind
byte_kind is_declared true = Constant
byte_kind true false = Writable
byte_kind false false = Undeclared

abbrev pub kind_in : ReachTables → (address : ℕ) → ByteKind
kind_in tables address = byte_kind (is_covered tables.all address) (is_covered tables.constants address)
