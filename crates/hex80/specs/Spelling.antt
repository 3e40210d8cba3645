-- The pieces that a HEX text spells, and the first fault of another text.
use Rattle.std.specs.Prelude.{◌≡◌, ℕ, ◌+◌, ◌-◌, ◌*◌, ◌%◌, ◌==◌, Bool, true, false, not, ◌&&◌, IsTrue, nat_lt, nat_le, if◌then◌else◌, List, [], ◌∷◌, ◌++◌, length, map, take, sum, Option, Some, None, option_map, option_and_then}
use Rattle.std.specs.List.{list_all, list_any}
use Rattle.std.specs.Option.{option_map_or}
use Rattle.std.specs.Str.{bytes_eq}
use Rattle.std.specs.Str.Lines.{lines}
use Rattle.mem80.specs.declared.memory.TheConstants.{MEMORY_SIZE}
use Rattle.mem80.specs.declared.range.Piece.{Piece}
use Rattle.mem80.specs.Pieces.{pieces_meet}
use Rattle.hex80.specs.declared.fault.Fault.{Fault}
use Rattle.hex80.specs.declared.fault.Fault.TheVariants.{BadLine, WrongSum, NoEnd, Overlap}
use Rattle.hex80.specs.Lines.{data_line, end_line}

-- the number that an upper-case hexadecimal digit stands for
abbrev pub digit_value : (character : ℕ) → Option ℕ
digit_value character =
    if nat_le 48 character && nat_le character 57 then Some (character - 48)
    else if nat_le 65 character && nat_le character 70 then Some (character - 55)
    else None

-- bytes in two digits each
abbrev pub bytes_in : List ℕ → Option (List ℕ)
bytes_in [] = Some []
bytes_in (character ∷ []) = None
bytes_in (high ∷ low ∷ rest) =
    option_and_then
    (λ (h : ℕ).
    option_and_then (λ (l : ℕ). option_map (λ (others : List ℕ). (16 * h + l) ∷ others) (bytes_in rest))
    (digit_value low))
    (digit_value high)

-- a colon (58), and bytes
abbrev pub bytes_of_line : List ℕ → Option (List ℕ)
bytes_of_line [] = None
bytes_of_line (first ∷ rest) = if first == 58 then bytes_in rest else None

-- a data line: the data and a checksum are as many bytes as the count says, and end in memory
abbrev pub has_form : (count address type : ℕ) → (rest : List ℕ) → Bool
has_form count address type rest =
    type == 0 && length rest == count + 1 && nat_le (address + count) MEMORY_SIZE

-- the piece in the bytes of a line, if they have the form of a data line
abbrev pub piece_in : List ℕ → Option Piece
piece_in (count ∷ high ∷ low ∷ type ∷ rest) =
    if has_form count (256 * high + low) type rest
    then Some (record { start = 256 * high + low; bytes = take count rest })
    else None
piece_in bytes = None

-- the piece of a line, and all its bytes
abbrev pub read_line : List ℕ → Option (Piece × List ℕ)
read_line line =
    option_and_then
    (λ (bytes : List ℕ). option_map (λ (piece : Piece). (piece, bytes)) (piece_in bytes)) (bytes_of_line line)

-- a line of data has a wrong sum, or else an address of another piece
abbrev pub fault_of_data : (before : List Piece) → Piece × List ℕ → Option Fault
fault_of_data before read =
    if not (sum read.1 % 256 == 0) then Some WrongSum
    else if list_any (pieces_meet read.0) before then Some Overlap
    else None

abbrev pub fault_of_line : (before : List Piece) → List ℕ → Option Fault
fault_of_line before line = option_map_or (fault_of_data before) (read_line line) (Some BadLine)

abbrev pub is_empty : List (List ℕ) → Bool
is_empty [] = true
is_empty (line ∷ others) = false

-- the fault at the front of the lines after those of these pieces, if there is one; after the end line there
-- are none
unfoldable pub fault_at : (before : List Piece) → List (List ℕ) → Option Fault
fault_at before [] = Some NoEnd
fault_at before (line ∷ others) =
    if bytes_eq line end_line then (if is_empty others then None else Some BadLine)
    else fault_of_line before line

-- the piece of a line: at most 255 bytes, all in memory, and none at an address of another piece
abbrev pub is_line_piece : (before : List Piece) → Piece → Bool
is_line_piece before piece =
    nat_lt (length piece.bytes) 256 && list_all (λ byte. nat_lt byte 256) piece.bytes
    && nat_lt piece.start MEMORY_SIZE && nat_le (piece.start + length piece.bytes) MEMORY_SIZE
    && not (list_any (pieces_meet piece) before)

abbrev pub are_line_pieces : (before : List Piece) → List Piece → Bool
are_line_pieces before [] = true
are_line_pieces before (piece ∷ others) =
    is_line_piece before piece && are_line_pieces (before ++ piece ∷ []) others

-- A text spells pieces: its lines are their data lines in this order, and the end line. A line ends with LF,
-- or CR and LF, which the last one may lack.
pub record Spells (text : List ℕ) (pieces : List Piece) : Type 0 where
  pub lines_of_text : lines text ≡ map data_line pieces ++ end_line ∷ []
  pub accepted : IsTrue (are_line_pieces [] pieces)

-- A text has a fault, its first: data lines of pieces come before it, and it is at the front of the lines
-- after them.
pub record HasFirstFault (text : List ℕ) (fault : Fault) : Type 0 where
  pub before : List Piece
  pub rest : List (List ℕ)
  pub lines_of_text : lines text ≡ map data_line before ++ rest
  pub accepted : IsTrue (are_line_pieces [] before)
  pub at_rest : fault_at before rest ≡ Some fault
