use Rattle.statements8080.proofs.Prelude.{◌-◌, steps_from, each_at, each_steps, IsAdding}
use Rattle.statements8080.proofs.assignment.plan_each.Given as goal

abbrev pub invariant-loop-index : goal.invariant-loop-index
invariant-loop-index l =
    IsAdding l.fn.plan l.plan (each_steps l.body l.site l.targets l.value)
    (steps_from (each_at l.body l.site l.targets l.value) l.index (l.targets.count - l.index))
