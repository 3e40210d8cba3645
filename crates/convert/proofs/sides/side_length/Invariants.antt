use Rattle.std.proofs.Common.{◌≡◌, ◌+◌, ◌≤◌, length}
use Rattle.convert.specs.Sides.{side_end, side_length}
use Rattle.convert.proofs.sides.side_length.Given as goal

abbrev pub invariant-loop-rest : goal.invariant-loop-rest
invariant-loop-rest l = record {
  counted : l.count + side_end l.depth l.rest ≡ side_length l.words;
  within : l.count + length l.rest ≡ length l.words;
  deep : l.depth ≤ l.count;
}

abbrev pub decreases-loop-rest : goal.decreases-loop-rest
decreases-loop-rest l = length l.rest
