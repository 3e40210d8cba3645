use Rattle.object_writing.proofs.Prelude.{refl, arith, fix_entry, on_err, on_err_then, on_ok_then}
use Rattle.object_writing.proofs.Sequences.{none_yet, last_written, last_begun}
use Rattle.object_writing.proofs.EntriesOfItems.{item_written, item_begun, items_ended}
use Rattle.object_writing.proofs.records.content.write_entries.Goals as goal

pub loop-fix-init : goal.loop-fix-init
loop-fix-init g c = none_yet _ _

pub loop-fix-preserved : goal.loop-fix-preserved
loop-fix-preserved g c =
    item_written (fix_entry c.args.referred c.args.kind) c.loop-fix.group c.args.fixes.now
    c.loop-fix.fix-index _ _ _ _ _ _ _
    (omega arith) refl c.loop-fix.invariant c.in_ok-add_fix.ensures.ok c.in_ok-add_fix.ensures.group

pub returns-in_err-add_fix-clause-err : goal.returns-in_err-add_fix-clause-err
returns-in_err-add_fix-clause-err g c =
    on_err c.from_residual.result _
    (item_begun (fix_entry c.args.referred c.args.kind) c.loop-fix.group c.args.fixes.now
    c.loop-fix.fix-index _ _ _ _ _ _
    (omega arith) refl c.loop-fix.invariant c.in_err-add_fix.ensures.err)

pub returns-clause-ok : goal.returns-clause-ok
returns-clause-ok g c =
    on_ok_then c.finish.result _ _ c.finish.ensures.ok
    (λ done. last_written _ _ _ _ _
    (items_ended (fix_entry c.args.referred c.args.kind) c.loop-fix.group c.args.fixes.now
    c.loop-fix.fix-index _ _ _ (omega arith)
    c.loop-fix.invariant) done)

pub returns-clause-err : goal.returns-clause-err
returns-clause-err g c =
    on_err_then c.finish.result _ _ c.finish.ensures.err
    (λ done. last_begun _ _ _ _ _
    (items_ended (fix_entry c.args.referred c.args.kind) c.loop-fix.group c.args.fixes.now
    c.loop-fix.fix-index _ _ _ (omega arith)
    c.loop-fix.invariant) done)
