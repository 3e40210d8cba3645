use Rattle.std.proofs.Common.{◌≡◌, length}
use Rattle.convert.specs.Controls.{last_control}
use Rattle.convert.proofs.controls.last_control.Given as goal

abbrev pub invariant-loop-rest : goal.invariant-loop-rest
invariant-loop-rest l = last_control l.passed l.rest ≡ last_control 0 l.line

abbrev pub decreases-loop-rest : goal.decreases-loop-rest
decreases-loop-rest l = length l.rest
