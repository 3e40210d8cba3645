use Rattle.stack_compiler.proofs.Prelude.{arith}
use Rattle.stack_compiler.proofs.RowLoops.{entry_started, entries_started}
use Rattle.stack_compiler.proofs.tables.started_entries.Goals as goal

pub loop-procedure-preserved : goal.loop-procedure-preserved
loop-procedure-preserved c =
    rw c.in_ok-push.ensures.items
    (entry_started c.loop-procedure.entries.items _ c.args.procedures.now c.loop-procedure.procedure-index
    c.loop-procedure.invariant
    c.procedure-item.result _ (omega arith) c.procedure-item.is (cc))

pub returns : goal.returns
returns c =
    entries_started c.loop-procedure.entries.items _ c.args.procedures.now c.loop-procedure.procedure-index
    c.loop-procedure.invariant (omega arith)
