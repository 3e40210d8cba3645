use Rattle.std.proofs.Common.{◌≡◌, false, length}
use Rattle.convert.specs.Sides.{assigns_used}
use Rattle.convert.proofs.sides.assigns_used.Given as goal

abbrev pub invariant-loop-rest : goal.invariant-loop-rest
invariant-loop-rest l = record {
  same : assigns_used l.dotted l.others l.rest ≡ assigns_used false l.others l.words;
}

abbrev pub decreases-loop-rest : goal.decreases-loop-rest
decreases-loop-rest l = length l.rest
