use Rattle.statements8080.proofs.Prelude.{length, all, IsAdding}
use Rattle.statements8080.proofs.plan.Plan.all.Given as goal

abbrev pub invariant-loop-left : goal.invariant-loop-left
invariant-loop-left l = IsAdding l.fn.self l.self (all l.fn.instructions) (all l.left)

abbrev pub decreases-loop-left : goal.decreases-loop-left
decreases-loop-left l = length l.left
