use Rattle.std.proofs.Common.{◌≡◌, length}
use Rattle.convert.specs.Includes.{opened_after}
use Rattle.convert.proofs.includes.opened_after.Given as goal

abbrev pub invariant-loop-rest : goal.invariant-loop-rest
invariant-loop-rest l = opened_after l.passed l.rest ≡ opened_after l.initial.passed l.entries

abbrev pub decreases-loop-rest : goal.decreases-loop-rest
decreases-loop-rest l = length l.rest
