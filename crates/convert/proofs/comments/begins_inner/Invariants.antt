use Rattle.std.proofs.Common.{◌≡◌, length}
use Rattle.convert.specs.Comments.{begins_inner}
use Rattle.convert.proofs.comments.begins_inner.Given as goal

abbrev pub invariant-loop-rest : goal.invariant-loop-rest
invariant-loop-rest l = begins_inner l.within l.rest ≡ begins_inner l.initial.within l.line

abbrev pub decreases-loop-rest : goal.decreases-loop-rest
decreases-loop-rest l = length l.rest
