-- Worked texts, computed on the definitions.
use Rattle.std.specs.Prelude.{◌≡◌, ℕ, true, false, List, [], ◌∷◌, ◌++◌, codes, replicate, Ok, Err, refl}
use Rattle.mem80.specs.declared.range.Piece.{Piece}
use Rattle.hex80.specs.declared.fault.Fault.TheVariants.{BadLine, WrongSum, NoEnd, Overlap}
use Rattle.hex80.specs.Lines.{data_line, ended_line, lines_of, end_line}
use Rattle.hex80.specs.Spelling.{fault_at, are_line_pieces, Spells}
use Rattle.hex80.specs.internal.Judgement.{judgement_of}

abbrev pub piece_at : ℕ → List ℕ → Piece
piece_at start bytes = record { start = start; bytes = bytes }

-- a program at 0100H
abbrev pub program : Piece
program = piece_at 0x100 (0xCD ∷ 0x04 ∷ 0x01 ∷ 0x76 ∷ 0x3E ∷ 0x08 ∷ 0xD3 ∷ 0x04 ∷ 0xC9 ∷ [])

abbrev pub program_line : List ℕ
program_line = codes ":09010000CD0401763E08D304C9C8"

abbrev pub program_text : List ℕ
program_text = ended_line program_line ++ ended_line end_line

pub program_is_written : lines_of (program ∷ []) ≡ program_text
program_is_written = refl

pub program_is_read : judgement_of program_text ≡ Ok (program ∷ [])
unfolding fault_at judgement_of
program_is_read = refl

pub program_is_spelled : Spells program_text (program ∷ [])
program_is_spelled = record { lines_of_text = refl; accepted = refl }

-- lines that end in CR (13) and LF (10), the last in nothing
pub other_line_ends : judgement_of (program_line ++ 13 ∷ 10 ∷ end_line) ≡ Ok (program ∷ [])
unfolding fault_at judgement_of
other_line_ends = refl

-- 18 bytes are written in two lines; an empty piece has none, and no pieces have the end line alone
pub two_lines :
    lines_of (piece_at 5 [] ∷ piece_at 0xFFEE (replicate 18 0xA5) ∷ [])
    ≡ ended_line (codes ":10FFEE00A5A5A5A5A5A5A5A5A5A5A5A5A5A5A5A5B3")
    ++ ended_line (codes ":02FFFE00A5A5B7") ++ ended_line end_line
two_lines = refl

pub no_pieces : lines_of [] ≡ ended_line end_line
no_pieces = refl

-- a data line without bytes is an empty piece
pub empty_piece : judgement_of (ended_line (codes ":00000500FB") ++ end_line) ≡ Ok (piece_at 5 [] ∷ [])
unfolding fault_at judgement_of
empty_piece = refl

-- faults
pub no_text : judgement_of [] ≡ Err NoEnd
unfolding fault_at judgement_of
no_text = refl

pub no_end : judgement_of (ended_line program_line) ≡ Err NoEnd
unfolding fault_at judgement_of
no_end = refl

pub wrong_sum : judgement_of (ended_line (codes ":09010000CD0401763E08D304C9C9") ++ end_line) ≡ Err WrongSum
unfolding fault_at judgement_of
wrong_sum = refl

pub program_line_twice : judgement_of (ended_line program_line ++ ended_line program_line ++ end_line) ≡ Err Overlap
unfolding fault_at judgement_of
program_line_twice = refl

-- lower case; another end line; text after the end line; an empty line; CR alone; past the end of memory
pub lower_case : judgement_of (codes ":00000001ff") ≡ Err BadLine
unfolding fault_at judgement_of
lower_case = refl

pub other_end_line : judgement_of (codes ":00010001FE") ≡ Err BadLine
unfolding fault_at judgement_of
other_end_line = refl

pub after_the_end : judgement_of (ended_line end_line ++ ended_line []) ≡ Err BadLine
unfolding fault_at judgement_of
after_the_end = refl

pub empty_line : judgement_of (ended_line [] ++ end_line) ≡ Err BadLine
unfolding fault_at judgement_of
empty_line = refl

pub carriage_return_alone : judgement_of (end_line ++ 13 ∷ []) ≡ Err BadLine
unfolding fault_at judgement_of
carriage_return_alone = refl

pub past_memory : judgement_of (ended_line (codes ":02FFFF00A5A5B6") ++ end_line) ≡ Err BadLine
unfolding fault_at judgement_of
past_memory = refl

-- an address of 65536 has no digits: G stands for no number
pub no_digits : judgement_of (ended_line (codes ":00G0000000") ++ end_line) ≡ Err BadLine
unfolding fault_at judgement_of
no_digits = refl

pub past_the_last_address : are_line_pieces [] (piece_at 65536 [] ∷ []) ≡ false
past_the_last_address = refl

pub at_the_last_address : are_line_pieces [] (piece_at 65535 [] ∷ []) ≡ true
at_the_last_address = refl

-- a wrong sum counts before an address that was there
pub wrong_sum_before_twice :
    judgement_of (ended_line program_line ++ ended_line (codes ":09010000CD0401763E08D304C9C9") ++ end_line)
    ≡ Err WrongSum
unfolding fault_at judgement_of
wrong_sum_before_twice = refl

-- an odd number of digits; a count that differs from the bytes; type 02; a small letter
pub odd_digits : judgement_of (ended_line (codes ":00000500F") ++ end_line) ≡ Err BadLine
unfolding fault_at judgement_of
odd_digits = refl

pub another_count : judgement_of (ended_line (codes ":02000000A55B") ++ end_line) ≡ Err BadLine
unfolding fault_at judgement_of
another_count = refl

pub type_2 : judgement_of (ended_line (codes ":020000021000EC") ++ end_line) ≡ Err BadLine
unfolding fault_at judgement_of
type_2 = refl

pub small_letter : judgement_of (ended_line (codes ":01000000a55A") ++ end_line) ≡ Err BadLine
unfolding fault_at judgement_of
small_letter = refl

-- lines that touch
pub touching :
    judgement_of (ended_line (codes ":01000000A55A") ++ ended_line (codes ":01000100A559") ++ end_line)
    ≡ Ok (piece_at 0 (0xA5 ∷ []) ∷ piece_at 1 (0xA5 ∷ []) ∷ [])
unfolding fault_at judgement_of
touching = refl

-- lines longer than those that are written
pub line_of_17 :
    judgement_of (ended_line (data_line (piece_at 7 (replicate 17 0xA5))) ++ end_line)
    ≡ Ok (piece_at 7 (replicate 17 0xA5) ∷ [])
unfolding fault_at judgement_of
line_of_17 = refl

pub line_of_255 :
    judgement_of (ended_line (data_line (piece_at 7 (replicate 255 0xA5))) ++ end_line)
    ≡ Ok (piece_at 7 (replicate 255 0xA5) ∷ [])
unfolding fault_at judgement_of
line_of_255 = refl

-- the program in the other order
pub other_order_is_written :
    data_line (piece_at 0x100 (0x3E ∷ 0x08 ∷ 0xD3 ∷ 0x04 ∷ 0xC9 ∷ 0xCD ∷ 0x00 ∷ 0x01 ∷ 0x76 ∷ []))
    ≡ codes ":090100003E08D304C9CD000176CC"
other_order_is_written = refl
