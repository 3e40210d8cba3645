use Rattle.commands.proofs.{Prelude.{◌∙◌, stays_on, values_in, execute_in}, InputFiles.{told_before}, Executed.{not_placed, not_run, runs_merge, told_later}}
use Rattle.commands.proofs.executing.execute_objects.Goals as goal

pub returns-in-Err-clause-told : goal.returns-in-Err-clause-told
returns-in-Err-clause-told g c = λ refused. told_before _ _ _ _ _ _ _ (rw c.as_slice.ensures.value at c.in-Err.ensures.told)

pub returns-in-Err-clause-refused : goal.returns-in-Err-clause-refused
returns-in-Err-clause-refused g c = λ refused. not_placed _ _ _ _ _ _ _ _ (rw c.as_slice.ensures.value at c.in-Err.ensures.cause)

pub returns-clause-unchanged : goal.returns-clause-unchanged
returns-clause-unchanged g c = stays_on _ _ _ c.place_merge.ensures.kept c.run_image-ending.ensures.unchanged

pub returns-clause-told : goal.returns-clause-told
returns-clause-told g c = λ refused. told_later (execute_in c.args.order.now) (values_in c.args.values.now) _ _ _ c.place_merge.ensures.kept (rw c.as_slice.ensures.value at c.in-Ok.ensures.placed) _ _ _ _ _ c.in-Ok.ensures.count
    (rw c.in-Ok.ensures.silent at (c.run_image-ending.ensures.told refused))

pub returns-clause-refused : goal.returns-clause-refused
returns-clause-refused g c = λ refused. not_run _ _ _ _ _ c.place_merge.ensures.kept (rw c.as_slice.ensures.value at c.in-Ok.ensures.placed) _ _ _ _ _ _ _ c.in-Ok.ensures.count
    (rw c.in-Ok.ensures.silent at (c.run_image-ending.ensures.refused refused))

pub returns-clause-count : goal.returns-clause-count
returns-clause-count g c = λ other. c.run_image-ending.ensures.count other ∙ c.in-Ok.ensures.count

pub returns-clause-quiet : goal.returns-clause-quiet
returns-clause-quiet g c = λ other. c.run_image-ending.ensures.quiet other ∙ c.in-Ok.ensures.silent

pub returns-clause-ran : goal.returns-clause-ran
returns-clause-ran g c = λ other. runs_merge _ _ _ _ _ c.place_merge.ensures.kept (rw c.as_slice.ensures.value at c.in-Ok.ensures.placed) _ _ _ _ (c.run_image-ending.ensures.ran other)
