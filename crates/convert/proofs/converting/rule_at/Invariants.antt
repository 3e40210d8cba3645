use Rattle.std.proofs.Common.{◌≡◌, length}
use Rattle.convert.specs.Converting.{rule_at}
use Rattle.convert.proofs.converting.rule_at.Given as goal

abbrev pub invariant-loop-rest : goal.invariant-loop-rest
invariant-loop-rest l = rule_at l.rest l.words ≡ rule_at l.rules l.words

abbrev pub decreases-loop-rest : goal.decreases-loop-rest
decreases-loop-rest l = length l.rest
