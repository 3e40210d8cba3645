use Rattle.std.proofs.Common.{◌≡◌, length}
use Rattle.convert.specs.Comments.{after_bytes}
use Rattle.convert.proofs.comments.after_bytes.Given as goal

abbrev pub invariant-loop-rest : goal.invariant-loop-rest
invariant-loop-rest l = after_bytes l.within l.rest ≡ after_bytes l.initial.within l.line

abbrev pub decreases-loop-rest : goal.decreases-loop-rest
decreases-loop-rest l = length l.rest
