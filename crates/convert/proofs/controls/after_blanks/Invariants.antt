use Rattle.std.proofs.Common.{◌≡◌, length}
use Rattle.convert.specs.Controls.{after_blanks}
use Rattle.convert.proofs.controls.after_blanks.Given as goal

abbrev pub invariant-loop-rest : goal.invariant-loop-rest
invariant-loop-rest l = after_blanks l.rest ≡ after_blanks l.line

abbrev pub decreases-loop-rest : goal.decreases-loop-rest
decreases-loop-rest l = length l.rest
