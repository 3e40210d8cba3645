use Rattle.commands.proofs.{Prelude.{refl}, Printed.{printed_of_texts}, PrintedReports.{of_printed, of_stopped}, Untold.{few_built, few_but, few_sources, tells_cause, tells_unwritten}}
use Rattle.commands.proofs.programs.carrying.act.Goals as goal

pub print_built-printing-requires-clause-few : goal.print_built-printing-requires-clause-few
print_built-printing-requires-clause-few g c = few_sources _ _ _ c.in-Ok.ensures.too_many

pub returns-in-Ok-clause-ran : goal.returns-in-Ok-clause-ran
returns-in-Ok-clause-ran g c = λ other.
    printed_of_texts _ _ _ _ _ _ _ _ (few_built _ _ _ c.in-Ok.ensures.too_many) c.in-Ok.ensures.program c.in-Ok.ensures.plan
    c.in-Ok.ensures.construction _
    (of_printed _ _ _ (c.end_run.ensures.printed other) c.print_built-printing.ensures.ok)

pub returns-in-Ok-clause-refused : goal.returns-in-Ok-clause-refused
returns-in-Ok-clause-refused g c = λ refused.
    tells_unwritten _ _ _ _ _ _ _ _ _ _ (few_built _ _ _ c.in-Ok.ensures.too_many) c.in-Ok.ensures.program c.in-Ok.ensures.plan
    c.in-Ok.ensures.construction (c.end_run.ensures.unwritten refused)
    (of_stopped _ _ (c.end_run.ensures.stopped refused) c.print_built-printing.ensures.err)

pub returns-in-Err-Fault-clause-refused : goal.returns-in-Err-Fault-clause-refused
returns-in-Err-Fault-clause-refused g c = λ refused. tells_cause _ _ _ _ _ _ _ _ _ _ _ c.as_slice.ensures.value c.in-Err-Fault.fault-is
    (rw c.in-Err-Fault.field-0-is at c.in-Err-Fault.ensures.refused) (few_but _ _ _ refl (rw c.in-Err-Fault.field-0-is at c.in-Err-Fault.ensures.too_many))
    (rw c.in-Err-Fault.field-0-is at c.in-Err-Fault.ensures.order) c.refuse_sources.ensures.line
