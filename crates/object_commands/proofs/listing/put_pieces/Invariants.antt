use Rattle.object_commands.proofs.{Prelude.{drop, map, symbol_view}, Listings.{PiecesSoFar}}
use Rattle.object_commands.proofs.listing.put_pieces.Given as goal

abbrev pub invariant-loop-piece : goal.invariant-loop-piece
invariant-loop-piece l =
    PiecesSoFar (map symbol_view l.symbols) l.code l.pieces l.fn.lines.items l.lines.items
    (drop l.piece-index l.pieces)
