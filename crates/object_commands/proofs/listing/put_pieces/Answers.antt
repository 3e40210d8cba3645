use Rattle.object_commands.proofs.{Prelude.{arith}, Listings.{piece_next, pieces_whole}}
use Rattle.object_commands.proofs.listing.put_pieces.Goals as goal

pub loop-piece-preserved : goal.loop-piece-preserved
loop-piece-preserved c =
    piece_next _ _ c.args.pieces.now _ _ _ c.loop-piece.piece-index c.piece-item.result c.loop-piece.invariant
    (omega arith) c.piece-item.is c.in_ok-put_piece.ensures

pub returns : goal.returns
returns c =
    pieces_whole _ _ c.args.pieces.now _ _ c.loop-piece.piece-index c.loop-piece.invariant (omega arith)
