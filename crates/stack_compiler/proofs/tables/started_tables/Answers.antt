use Rattle.stack_compiler.proofs.Prelude.{arith}
use Rattle.stack_compiler.proofs.RowLoops.{table_started, tables_started}
use Rattle.stack_compiler.proofs.tables.started_tables.Goals as goal

pub loop-typed-preserved : goal.loop-typed-preserved
loop-typed-preserved c =
    rw c.in_ok-push.ensures.items
    (table_started c.loop-typed.tables.items _ c.args.modules.now c.loop-typed.typed-index
    c.loop-typed.invariant
    c.typed-item.result c.in_ok-table.table (omega arith) c.typed-item.is c.in_ok-table.ensures)

pub returns : goal.returns
returns c =
    tables_started c.loop-typed.tables.items _ c.args.modules.now c.loop-typed.typed-index
    c.loop-typed.invariant (omega arith)
