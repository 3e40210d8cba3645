use Rattle.std.proofs.Common.{◌≡◌, ◌+◌, false, length}
use Rattle.convert.specs.Controls.{close_at}
use Rattle.convert.proofs.controls.close_at.Given as goal

abbrev pub invariant-loop-rest : goal.invariant-loop-rest
invariant-loop-rest l = record {
  counted : l.count + close_at l.quoted l.rest ≡ close_at false l.line;
  within : l.count + length l.rest ≡ length l.line;
}

abbrev pub decreases-loop-rest : goal.decreases-loop-rest
decreases-loop-rest l = length l.rest
