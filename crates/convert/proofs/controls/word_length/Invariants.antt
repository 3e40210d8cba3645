use Rattle.std.proofs.Common.{◌≡◌, ◌+◌, length}
use Rattle.convert.specs.Controls.{word_length}
use Rattle.convert.proofs.controls.word_length.Given as goal

abbrev pub invariant-loop-rest : goal.invariant-loop-rest
invariant-loop-rest l = record {
  counted : l.count + word_length l.rest ≡ word_length l.line;
  within : l.count + length l.rest ≡ length l.line;
}

abbrev pub decreases-loop-rest : goal.decreases-loop-rest
decreases-loop-rest l = length l.rest
