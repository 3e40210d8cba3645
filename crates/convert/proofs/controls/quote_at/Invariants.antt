use Rattle.std.proofs.Common.{◌≡◌, ◌+◌, length}
use Rattle.convert.specs.Controls.{quote_at}
use Rattle.convert.proofs.controls.quote_at.Given as goal

abbrev pub invariant-loop-rest : goal.invariant-loop-rest
invariant-loop-rest l = record {
  counted : l.count + quote_at l.rest ≡ quote_at l.line;
  within : l.count + length l.rest ≡ length l.line;
}

abbrev pub decreases-loop-rest : goal.decreases-loop-rest
decreases-loop-rest l = length l.rest
