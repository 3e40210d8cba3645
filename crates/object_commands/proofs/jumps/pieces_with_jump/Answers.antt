use Rattle.object_commands.proofs.{Prelude.{AreWritable, Piece, ◌∙◌, ◌∷◌, List, ap, subst, sym, jump_piece}, Lists.{all_made}, Rooms.{writable_with}}
use Rattle.object_commands.proofs.jumps.pieces_with_jump.Goals as goal

pub returns-clause-writable : goal.returns-clause-writable
returns-clause-writable c =
    let are =
    all_made _ c.loop-piece.pieces.items _ c.loop-piece.piece-index c.loop-piece.invariant
    c.loop-piece-test.false
    ∙ ap (λ (ps : List Piece). jump_piece c.args.address c.args.absolute.now.start ∷ ps)
    c.pieces-placed.ensures.same in
    subst AreWritable (sym are)
    (writable_with c.args.address c.args.absolute.now c.requires
    (rw c.pieces-placed.ensures.same at c.pieces-placed.ensures.writable))
