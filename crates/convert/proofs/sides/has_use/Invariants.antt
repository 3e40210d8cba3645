use Rattle.std.proofs.Common.{◌≡◌, false, length}
use Rattle.convert.specs.Sides.{has_use}
use Rattle.convert.proofs.sides.has_use.Given as goal

abbrev pub invariant-loop-rest : goal.invariant-loop-rest
invariant-loop-rest l = record {
  same : has_use l.name l.dotted l.rest ≡ has_use l.name false l.words;
}

abbrev pub decreases-loop-rest : goal.decreases-loop-rest
decreases-loop-rest l = length l.rest
