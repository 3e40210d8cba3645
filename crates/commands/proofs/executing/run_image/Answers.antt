use Rattle.commands.proofs.{Prelude.{refl, stops_as, tells_file, tells_no_file}, Executed.{prints_read, stops_read}, PrintedReports.{of_printed, of_stopped}, Untold.{for_file, for_memory, for_reason}}
use Rattle.commands.proofs.executing.run_image.Goals as goal

pub returns-in-Ok-clause-told : goal.returns-in-Ok-clause-told
returns-in-Ok-clause-told g c = λ refused.
    tells_no_file _ _ _ _ _ _ c.in-Ok.ensures.count (c.end_run.ensures.told refused)

pub returns-in-Ok-clause-refused : goal.returns-in-Ok-clause-refused
returns-in-Ok-clause-refused g c = λ refused.
    for_reason _ _ _ _ _ _ _ _ _ c.in-Ok.ensures.count
    (stops_read _ _ _ _ _ _ c.in-Ok.ensures.input _ _ (c.end_run.ensures.unwritten refused)
    (of_stopped _ _ (c.end_run.ensures.stopped refused) c.print_image-printing.ensures.err))

pub returns-in-Ok-clause-ran : goal.returns-in-Ok-clause-ran
returns-in-Ok-clause-ran g c = λ other.
    prints_read _ _ _ _ _ _ c.in-Ok.ensures.input _ _
    (of_printed _ _ _ (c.end_run.ensures.printed other) c.print_image-printing.ensures.ok)

pub returns-in-Err-Fault-clause-told : goal.returns-in-Err-Fault-clause-told
returns-in-Err-Fault-clause-told g c = λ refused. tells_file _ _ _ _ _ _ _ _ refl (rw c.in-Err-Fault.field-0-is at c.in-Err-Fault.ensures.failed)
    (stops_as _ _ _ c.in-Err-Fault.name c.in-Err-Fault.name-is (rw c.in-Err-Fault.field-0-is at c.in-Err-Fault.ensures.stops)) c.refuse_file.ensures.told

pub returns-in-Err-Fault-clause-refused : goal.returns-in-Err-Fault-clause-refused
returns-in-Err-Fault-clause-refused g c = λ refused. for_file _ _ _ _ _ _ _ _ _ _ refl (rw c.in-Err-Fault.field-0-is at c.in-Err-Fault.ensures.failed)
    (stops_as _ _ _ c.in-Err-Fault.name c.in-Err-Fault.name-is (rw c.in-Err-Fault.field-0-is at c.in-Err-Fault.ensures.stops)) c.refuse_file.ensures.told

pub returns-in-Err-Memory-clause-told : goal.returns-in-Err-Memory-clause-told
returns-in-Err-Memory-clause-told g c = λ refused. tells_no_file _ _ _ _ _ _ (rw c.in-Err-Memory.field-0-is at c.in-Err-Memory.ensures.failed) c.refuse_memory.ensures.told

pub returns-in-Err-Memory-clause-refused : goal.returns-in-Err-Memory-clause-refused
returns-in-Err-Memory-clause-refused g c = λ refused. for_memory _ _ _ _ _ _ _ _ (rw c.in-Err-Memory.field-0-is at c.in-Err-Memory.ensures.failed) c.refuse_memory.ensures.line
