use Rattle.object_writing.proofs.Prelude.{arith, name_entry, on_err, on_err_then, on_ok_then}
use Rattle.object_writing.proofs.Sequences.{none_yet, last_written, last_begun}
use Rattle.object_writing.proofs.EntriesOfItems.{item_written, item_begun, items_ended}
use Rattle.object_writing.proofs.records.names.write_names.Goals as goal

pub loop-name-init : goal.loop-name-init
loop-name-init g c = none_yet _ _

pub loop-name-preserved : goal.loop-name-preserved
loop-name-preserved g c =
    item_written name_entry c.loop-name.group c.args.names.now c.loop-name.name-index c.name-item.result
    c.name-item.result _ _ _ _ _
    (omega arith) c.name-item.is c.loop-name.invariant c.in_ok-add_name.ensures.ok
    c.in_ok-add_name.ensures.group

pub returns-in_err-add_name-clause-err : goal.returns-in_err-add_name-clause-err
returns-in_err-add_name-clause-err g c =
    on_err c.from_residual.result _
    (item_begun name_entry c.loop-name.group c.args.names.now c.loop-name.name-index c.name-item.result
    c.name-item.result _ _ _ _
    (omega arith) c.name-item.is c.loop-name.invariant c.in_err-add_name.ensures.err)

pub returns-clause-ok : goal.returns-clause-ok
returns-clause-ok g c =
    on_ok_then c.finish.result _ _ c.finish.ensures.ok
    (λ done. last_written _ _ _ _ _
    (items_ended name_entry c.loop-name.group c.args.names.now c.loop-name.name-index _ _ _ (omega arith)
    c.loop-name.invariant) done)

pub returns-clause-err : goal.returns-clause-err
returns-clause-err g c =
    on_err_then c.finish.result _ _ c.finish.ensures.err
    (λ done. last_begun _ _ _ _ _
    (items_ended name_entry c.loop-name.group c.args.names.now c.loop-name.name-index _ _ _ (omega arith)
    c.loop-name.invariant) done)
