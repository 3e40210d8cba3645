-- Lines of Intel HEX, and the text that is written for pieces (Intel Hexadecimal Object File Format
-- Specification, "General record format", "Data record" and "End of file record").
use Rattle.std.specs.Prelude.{◌≡◌, ℕ, zero, suc, ◌+◌, ◌-◌, ◌/◌, ◌%◌, Bool, true, ◌&&◌, IsTrue, nat_lt, nat_le, if◌then◌else◌, List, [], ◌∷◌, ◌++◌, length, flat_map, codes, IsPermutation}
use Rattle.std.specs.List.{onto_first}
use Rattle.mem80.specs.declared.range.Piece.{Piece}
use Rattle.mem80.specs.Sums.{checksum_of}
use Rattle.hex80.specs.declared.fault.TheConstants.{BYTES_IN_LINE}

-- the upper-case hexadecimal digit of a number below 16
abbrev pub digit_of : ℕ → ℕ
digit_of number = if nat_lt number 10 then 48 + number else 55 + number

-- a byte as two digits, the high one first
abbrev pub digits_of : ℕ → List ℕ
digits_of byte = digit_of (byte / 16) ∷ digit_of (byte % 16) ∷ []

-- the bytes of a data line: count, address with the high byte first, type 0, and the data
abbrev pub data_line_bytes : Piece → List ℕ
data_line_bytes piece =
    length piece.bytes ∷ piece.start / 256 ∷ piece.start % 256 ∷ 0 ∷ piece.bytes

-- a line of bytes with their checksum: a colon (58), and digits
abbrev pub line_of_bytes : List ℕ → List ℕ
line_of_bytes bytes = 58 ∷ flat_map digits_of (bytes ++ checksum_of bytes ∷ [])

abbrev pub data_line : Piece → List ℕ
data_line piece = line_of_bytes (data_line_bytes piece)

-- the one end line
abbrev pub end_line : List ℕ
end_line = codes ":00000001FF"

-- bytes in rows of 16, the last with the rest; a first row that is begun has room for some more
abbrev pub rows_after : (room : ℕ) → List ℕ → List (List ℕ)
rows_after room [] = [] ∷ []
rows_after zero (byte ∷ others) = [] ∷ onto_first byte (rows_after (BYTES_IN_LINE - 1) others)
rows_after (suc room) (byte ∷ others) = onto_first byte (rows_after room others)

-- bytes in rows of 16; no bytes have no row
abbrev pub rows_of : List ℕ → List (List ℕ)
rows_of [] = []
rows_of (byte ∷ others) = rows_after BYTES_IN_LINE (byte ∷ others)

-- a line with its line feed (10)
abbrev pub ended_line : List ℕ → List ℕ
ended_line line = line ++ 10 ∷ []

-- the lines of rows that follow each other from an address on
abbrev pub lines_from : (address : ℕ) → List (List ℕ) → List ℕ
lines_from address [] = []
lines_from address (row ∷ others) =
    ended_line (data_line (record { start = address; bytes = row }))
    ++ lines_from (address + length row) others

abbrev pub lines_of_piece : Piece → List ℕ
lines_of_piece piece = lines_from piece.start (rows_of piece.bytes)

-- the lines of pieces in this order, and the end line
abbrev pub lines_of : List Piece → List ℕ
lines_of pieces = flat_map lines_of_piece pieces ++ ended_line end_line

-- none begins at a lower address than the one before it
abbrev pub ascend : List Piece → Bool
ascend [] = true
ascend (piece ∷ []) = true
ascend (piece ∷ next ∷ others) = nat_le piece.start next.start && ascend (next ∷ others)

-- the text of pieces: their lines in the order of their addresses
pub record IsTextOf (pieces : List Piece) (text : List ℕ) : Type 0 where
  pub by_address : List Piece
  pub same_pieces : IsPermutation pieces by_address
  pub ascending : IsTrue (ascend by_address)
  pub written : text ≡ lines_of by_address
