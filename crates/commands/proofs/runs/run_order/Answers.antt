use Rattle.commands.proofs.{Prelude.{refl, tells_no_file, values_in, TellsOutput}, Delivered.{but_changes, but_written}, RunOrders.{memory_refused, ran_plainly, ran_with_files, refused_plainly, refused_with_files, told_by_any}}
use Rattle.commands.proofs.runs.run_order.Goals as goal

pub returns-in-Err-Memory-clause-told : goal.returns-in-Err-Memory-clause-told
returns-in-Err-Memory-clause-told g c = λ refused.
    told_by_any c.args.order.now
    (TellsOutput (g.F.Files.failures c.args.files.now) (g.F.Files.failures c.args.files.now)
    (g.E.Write.contents c.args.err.now) (g.E.Write.contents c.refuse_memory.new.err))
    _ (tells_no_file _ _ _ _ _ _ refl c.refuse_memory.ensures.told)

pub returns-in-Err-Memory-clause-refused : goal.returns-in-Err-Memory-clause-refused
returns-in-Err-Memory-clause-refused g c = λ refused.
    memory_refused c.args.order.now _ _ _ _ _ _ refl c.refuse_memory.ensures.line

pub returns-then-has_outputs-clause-unchanged : goal.returns-then-has_outputs-clause-unchanged
returns-then-has_outputs-clause-unchanged g c =
    but_changes _ _ _ (but_written _ _ _ _ c.in-Ok.ensures.outputs c.run_to_files.ensures.unchanged)

pub returns-then-has_outputs-clause-refused : goal.returns-then-has_outputs-clause-refused
returns-then-has_outputs-clause-refused g c = λ refused.
    refused_with_files c.args.order.now (values_in c.in-Ok.values) _ _ _ _ _ _ c.in-Ok.ensures.values
    c.in-Ok.ensures.outputs _ _ (c.has_outputs.ensures.some c.if-has_outputs.true)
    (c.run_to_files.ensures.refused refused)

pub returns-then-has_outputs-clause-ran : goal.returns-then-has_outputs-clause-ran
returns-then-has_outputs-clause-ran g c = λ refused wrong.
    ran_with_files c.args.order.now (values_in c.in-Ok.values) _ _ _ _ _ _ c.in-Ok.ensures.values
    c.in-Ok.ensures.outputs _ (c.has_outputs.ensures.some c.if-has_outputs.true)
    (c.run_to_files.ensures.ran refused)

pub returns-clause-refused : goal.returns-clause-refused
returns-clause-refused g c = λ refused.
    refused_plainly c.args.order.now (values_in c.in-Ok.values) _ _ _ _ _ _ c.in-Ok.ensures.values
    c.in-Ok.ensures.outputs _ _ (c.has_outputs.ensures.none c.if-has_outputs.false)
    (c.run_with.ensures.refused refused)

pub returns-clause-ran : goal.returns-clause-ran
returns-clause-ran g c = λ refused wrong.
    ran_plainly c.args.order.now (values_in c.in-Ok.values) _ _ _ _ _ _ c.in-Ok.ensures.values
    c.in-Ok.ensures.outputs _ _ (c.has_outputs.ensures.none c.if-has_outputs.false)
    (c.run_with.ensures.ran refused)
