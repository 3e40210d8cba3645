use Rattle.statements8080.proofs.Prelude.{◌-◌, steps_from, IsAdding}
use Rattle.statements8080.specs.internal.Cases.{table_at, table_steps}
use Rattle.statements8080.proofs.case.plan_table.Given as goal

abbrev pub invariant-loop-index : goal.invariant-loop-index
invariant-loop-index l =
    IsAdding l.fn.plan l.plan (table_steps l.body l.list l.first l.end)
    (steps_from (table_at l.body l.list l.first l.end) l.index (l.list.count - l.index))
