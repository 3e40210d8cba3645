use Rattle.statements8080.proofs.Prelude.{◌-◌, steps_from, store_at, stores_steps, IsAdding}
use Rattle.statements8080.proofs.assignment.plan_stores.Given as goal

abbrev pub invariant-loop-index : goal.invariant-loop-index
invariant-loop-index l =
    IsAdding l.fn.plan l.plan (stores_steps l.body l.targets l.from)
    (steps_from (store_at l.body l.targets l.from) l.index (l.targets.count - l.index))
