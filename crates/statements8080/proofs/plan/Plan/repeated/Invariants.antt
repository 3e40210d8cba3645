use Rattle.statements8080.proofs.Prelude.{replicate, plain, IsAdding}
use Rattle.statements8080.proofs.plan.Plan.repeated.Given as goal

abbrev pub invariant-loop-left : goal.invariant-loop-left
invariant-loop-left l =
    IsAdding l.fn.self l.self (replicate l.count (plain l.instruction))
    (replicate l.left (plain l.instruction))

abbrev pub decreases-loop-left : goal.decreases-loop-left
decreases-loop-left l = l.left
