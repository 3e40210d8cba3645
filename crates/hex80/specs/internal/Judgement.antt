-- A text judged from its front: its pieces, or its first fault.
use Rattle.std.specs.Prelude.{ℕ, List, [], ◌∷◌, ◌++◌, Option, Some, None, Result, Ok, Err}
use Rattle.std.specs.Str.Lines.{lines}
use Rattle.mem80.specs.declared.range.Piece.{Piece}
use Rattle.hex80.specs.declared.fault.Fault.{Fault}
use Rattle.hex80.specs.declared.fault.Fault.TheVariants.{NoEnd}
use Rattle.hex80.specs.Spelling.{read_line, fault_at}

-- the fault, if there is one, or else the judgement after the line in front; nothing is left after the end
-- line
abbrev pub judged_by :
    (judged_next : List Piece → Result (List Piece) Fault) → (before : List Piece)
    → Option Fault → Option (Piece × List ℕ) → Result (List Piece) Fault
judged_by judged_next before (Some fault) read = Err fault
judged_by judged_next before None None = Ok before
judged_by judged_next before None (Some read) = judged_next (before ++ read.0 ∷ [])

-- the pieces of lines after some pieces, with those; or the first fault
abbrev pub judged_after : (before : List Piece) → List (List ℕ) → Result (List Piece) Fault
judged_after before [] = Err NoEnd
judged_after before (line ∷ others) =
    judged_by (λ pieces. judged_after pieces others) before (fault_at before (line ∷ others)) (read_line line)

-- the pieces that a text spells, or its first fault
unfoldable pub judgement_of : (text : List ℕ) → Result (List Piece) Fault
judgement_of text = judged_after [] (lines text)
