use Rattle.codegen8080.proofs.Prelude.{length, popped_from, IsAdding}
use Rattle.codegen8080.proofs.procedures.plan_popped_arguments.Given as goal

abbrev pub invariant-loop-left : goal.invariant-loop-left
invariant-loop-left l =
    IsAdding l.fn.plan l.plan (popped_from l.fn.parameters (length l.fn.parameters))
    (popped_from l.fn.parameters l.left)

abbrev pub decreases-loop-left : goal.decreases-loop-left
decreases-loop-left l = l.left
