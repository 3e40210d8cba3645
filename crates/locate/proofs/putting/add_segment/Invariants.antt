use Rattle.locate.proofs.Prelude.{◌≡◌, length, gain_at, plan_view, LieInMemory, pieces_from, with_pieces}
use Rattle.locate.proofs.putting.add_segment.Given as goal

abbrev pub invariant-loop-rest : goal.invariant-loop-rest
invariant-loop-rest l = record {
  room : LieInMemory l.base l.rest;
  put :
      with_pieces l.pieces.items (pieces_from (gain_at (plan_view l.plan)) l.base l.rest l.left)
      ≡ with_pieces l.initial.pieces.items
      (pieces_from (gain_at (plan_view l.plan)) l.base l.initial.rest l.initial.left);
}

abbrev pub decreases-loop-rest : goal.decreases-loop-rest
decreases-loop-rest l = length l.rest
