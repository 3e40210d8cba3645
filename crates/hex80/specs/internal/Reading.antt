-- The parts of the reader.
use Rattle.std.specs.Prelude.{◌≡◌, ℕ, ◌+◌, ◌*◌, ◌<◌, Bool, true, false, List, [], ◌∷◌, ◌++◌, length, take, drop, replicate, slice_index_or, Option, Some, None, option_map, option_and_then}
use Rattle.std.specs.List.{list_any}
use Rattle.mem80.specs.declared.memory.TheConstants.{MEMORY_SIZE}
use Rattle.mem80.specs.declared.range.Piece.{Piece}
use Rattle.mem80.specs.Pieces.{has_address}
use Rattle.hex80.specs.declared.read.Place.{Place}
use Rattle.hex80.specs.Spelling.{digit_value, read_line, fault_of_line}

-- the byte of two digits
abbrev pub byte_of : (high low : ℕ) → Option ℕ
byte_of high low =
    option_and_then (λ (h : ℕ). option_map (λ (l : ℕ). 16 * h + l) (digit_value low)) (digit_value high)

-- the piece of a line whose bytes stand at the front of a buffer
abbrev pub piece_at : (buffer : List ℕ) → Place → Piece
piece_at buffer place = record { start = place.start; bytes = take place.count (drop 4 buffer) }

-- the piece, and all bytes of its line
abbrev pub line_at : (buffer : List ℕ) → Place → Piece × List ℕ
line_at buffer place = (piece_at buffer place, take (place.count + 5) buffer)

-- for each address of the memory, whether one of some pieces has it
pub record Marks (used : List Bool) (pieces : List Piece) : Type 0 where
  pub size : length used ≡ MEMORY_SIZE
  pub marked :
      (address : ℕ) → address < MEMORY_SIZE
      → slice_index_or used address false ≡ list_any (has_address address) pieces

-- no address is marked
unfoldable pub unmarked : List Bool
unmarked = replicate MEMORY_SIZE false

-- marks for some more addresses
abbrev pub marked_from : (start count : ℕ) → List Bool → List Bool
marked_from start count used = take start used ++ (replicate count true ++ drop (start + count) used)

-- a line without a fault adds its piece
pub record TakesLine (before after : List Piece) (line : List ℕ) : Type 0 where
  pub read : Piece × List ℕ
  pub found : read_line line ≡ Some read
  pub none : fault_of_line before line ≡ None
  pub after_is : after ≡ before ++ read.0 ∷ []
