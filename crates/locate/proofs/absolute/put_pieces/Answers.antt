use Rattle.locate.proofs.Prelude.{◌≡◌, ◌≤◌, length, sym, ap, ◌∙◌, arith, drop_all, loaded}
use Rattle.locate.proofs.Loads.{all_loaded}
use Rattle.locate.proofs.absolute.put_pieces.Goals as goal

pub returns : goal.returns
returns c =
    let past : length c.args.pieces.now ≤ c.loop-piece.piece-index = omega arith in
    let all : loaded c.args.pieces.now c.args.memory.now ≡ c.loop-piece.memory =
    sym c.loop-piece.invariant.left
    ∙ ap (λ r. loaded r c.loop-piece.memory) (drop_all c.loop-piece.piece-index c.args.pieces.now past) in
    record {
      bytes = all_loaded c.args.pieces.now c.args.memory.now c.loop-piece.memory c.requires.runs
          c.requires.in_memory all
          (λ some. c.loop-piece.invariant.whole (omega arith));
      pieces = all;
    }
