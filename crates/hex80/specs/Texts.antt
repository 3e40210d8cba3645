-- What a writer has of the text of pieces.
use Rattle.std.specs.Prelude.{◌≡◌, ℕ, List, Option}
use Rattle.std.specs.Io.KnownBytes.{Appends}
use Rattle.failure.specs.Writing.{AppendsBeginning}
use Rattle.mem80.specs.declared.range.Piece.{Piece}
use Rattle.mem80.specs.Pieces.{byte_in}
use Rattle.hex80.specs.Lines.{IsTextOf}
use Rattle.hex80.specs.Spelling.{Spells}

-- the text of pieces was written: it spells rows with the bytes of the pieces
pub record WritesText (pieces : List Piece) (old new : Option (List ℕ)) : Type 0 where
  pub text : List ℕ
  pub of_pieces : IsTextOf pieces text
  pub lines : List Piece
  pub spelled : Spells text lines
  pub bytes : (address : ℕ) → byte_in lines address ≡ byte_in pieces address
  pub written : Appends old new text

-- a beginning of the text of pieces was written
pub record BeginsText (pieces : List Piece) (old new : Option (List ℕ)) : Type 0 where
  pub text : List ℕ
  pub of_pieces : IsTextOf pieces text
  pub written : AppendsBeginning old new text
