use Rattle.statements8080.proofs.Prelude.{◌≡◌}
use Rattle.statements8080.specs.internal.Branches.{has_one_jump, has_one_jump_within}
use Rattle.statements8080.proofs.branching.has_one_jump.Given as goal

abbrev pub invariant-loop-left : goal.invariant-loop-left
invariant-loop-left l = has_one_jump_within l.left l.site l.condition ≡ has_one_jump l.site l.fn.condition

abbrev pub decreases-loop-left : goal.decreases-loop-left
decreases-loop-left l = l.left
