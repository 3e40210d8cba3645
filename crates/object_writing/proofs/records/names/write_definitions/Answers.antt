use Rattle.object_writing.proofs.Prelude.{arith, owned_entry, on_err, on_err_then, on_ok_then}
use Rattle.object_writing.proofs.Sequences.{none_yet, last_written, last_begun}
use Rattle.object_writing.proofs.EntriesOfItems.{item_written, item_begun, items_ended}
use Rattle.object_writing.proofs.records.names.write_definitions.Goals as goal

pub loop-public-init : goal.loop-public-init
loop-public-init g c = none_yet _ _

pub loop-public-preserved : goal.loop-public-preserved
loop-public-preserved g c =
    item_written (owned_entry c.args.segment) c.loop-public.group c.args.publics.now
    c.loop-public.public-index c.public-item.result c.public-item.result _ _ _ _ _
    (omega arith) c.public-item.is c.loop-public.invariant c.in_ok-add_public.ensures.ok
    c.in_ok-add_public.ensures.group

pub returns-in_err-add_public-clause-err : goal.returns-in_err-add_public-clause-err
returns-in_err-add_public-clause-err g c =
    on_err c.from_residual.result _
    (item_begun (owned_entry c.args.segment) c.loop-public.group c.args.publics.now c.loop-public.public-index
    c.public-item.result c.public-item.result _ _ _ _
    (omega arith) c.public-item.is c.loop-public.invariant c.in_err-add_public.ensures.err)

pub returns-clause-ok : goal.returns-clause-ok
returns-clause-ok g c =
    on_ok_then c.finish.result _ _ c.finish.ensures.ok
    (λ done. last_written _ _ _ _ _
    (items_ended (owned_entry c.args.segment) c.loop-public.group c.args.publics.now
    c.loop-public.public-index _ _ _ (omega arith)
    c.loop-public.invariant) done)

pub returns-clause-err : goal.returns-clause-err
returns-clause-err g c =
    on_err_then c.finish.result _ _ c.finish.ensures.err
    (λ done. last_begun _ _ _ _ _
    (items_ended (owned_entry c.args.segment) c.loop-public.group c.args.publics.now
    c.loop-public.public-index _ _ _ (omega arith)
    c.loop-public.invariant) done)
