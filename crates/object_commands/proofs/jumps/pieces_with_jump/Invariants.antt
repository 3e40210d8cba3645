use Rattle.object_commands.proofs.Prelude.{◌≡◌, ◌++◌, ◌∷◌, drop, jump_piece}
use Rattle.object_commands.proofs.jumps.pieces_with_jump.Given as goal

-- what was made, and then what is left of the pieces, is all
abbrev pub invariant-loop-piece : goal.invariant-loop-piece
invariant-loop-piece l =
    l.pieces.items ++ drop l.piece-index l.placed ≡ jump_piece l.address l.absolute.start ∷ l.placed
