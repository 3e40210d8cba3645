use Rattle.locate.proofs.Prelude.{◌≡◌, ◌<◌, length, drop, loaded}
use Rattle.locate.proofs.absolute.put_pieces.Given as goal

abbrev pub invariant-loop-piece : goal.invariant-loop-piece
invariant-loop-piece l = record {
  left : loaded (drop l.piece-index l.pieces) l.memory ≡ loaded l.pieces l.initial.memory;
  same_size : length l.memory ≡ length l.initial.memory;
  whole : 0 < l.piece-index → length l.initial.memory ≡ 65536;
}
