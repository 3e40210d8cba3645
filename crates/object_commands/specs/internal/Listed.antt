-- Pieces that are listed after other lines.
use Rattle.std.specs.Prelude.{◌≡◌, ℕ, ◌++◌, List}
use Rattle.mem80.specs.declared.range.Piece.{Piece}
use Rattle.mem80.specs.declared.range.Range.{Range}
use Rattle.object_modules.specs.Image.{Symbol}
use Rattle.object_commands.specs.Listing.{AreListed, IsListing}

-- a piece was listed after other lines
pub record ListsPiece (symbols : List Symbol) (code : Range) (piece : Piece) (old new : List ℕ) : Type 0 where
  pub text : List ℕ
  pub listing : IsListing symbols code piece.start piece.bytes text
  pub added : new ≡ old ++ text

-- pieces were listed after other lines
pub record ListsPieces (symbols : List Symbol) (code : Range) (pieces : List Piece) (old new : List ℕ) : Type 0 where
  pub text : List ℕ
  pub listed : AreListed symbols code pieces text
  pub added : new ≡ old ++ text
