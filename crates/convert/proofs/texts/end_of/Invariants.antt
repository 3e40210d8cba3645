use Rattle.std.proofs.Common.{◌≡◌, length}
use Rattle.convert.specs.Texts.{end_after}
use Rattle.convert.proofs.texts.end_of.Given as goal

abbrev pub invariant-loop-rest : goal.invariant-loop-rest
invariant-loop-rest l = end_after l.end l.rest ≡ end_after 0 l.words

abbrev pub decreases-loop-rest : goal.decreases-loop-rest
decreases-loop-rest l = length l.rest
