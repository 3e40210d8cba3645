use Rattle.join.proofs.Prelude.{◌≡◌, length, same_parameters}
use Rattle.join.proofs.agreement.same_parameters.Given as goal

abbrev pub invariant-loop-lefts : goal.invariant-loop-lefts
invariant-loop-lefts l = same_parameters l.lefts l.rights ≡ same_parameters l.left l.right

abbrev pub decreases-loop-lefts : goal.decreases-loop-lefts
decreases-loop-lefts l = length l.lefts
