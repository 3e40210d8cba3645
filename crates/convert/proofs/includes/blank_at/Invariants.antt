use Rattle.std.proofs.Common.{◌≡◌, ◌+◌, length}
use Rattle.convert.specs.Includes.{blank_at}
use Rattle.convert.proofs.includes.blank_at.Given as goal

abbrev pub invariant-loop-rest : goal.invariant-loop-rest
invariant-loop-rest l = record {
  counted : l.count + blank_at l.rest ≡ blank_at l.line;
  within : l.count + length l.rest ≡ length l.line;
}

abbrev pub decreases-loop-rest : goal.decreases-loop-rest
decreases-loop-rest l = length l.rest
