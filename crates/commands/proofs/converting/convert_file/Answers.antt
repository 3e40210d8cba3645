use Rattle.commands.proofs.{Prelude.{None, ap, status_of}, Converted.{file_unheld, file_unread, held_printed, held_refused, held_unheld, source_converted, was_tabled}}
use Rattle.commands.proofs.converting.convert_file.Goals as goal

pub returns-in-Err-Fault-clause-converted : goal.returns-in-Err-Fault-clause-converted
returns-in-Err-Fault-clause-converted g c = file_unread _ _ _ _ _ _ _ _ _ _ None _ (ap status_of c.refuse_file.ensures.ending)
    (rw c.in-Err-Fault.field-0-is at c.in-Err-Fault.ensures.failed) c.in-Err-Fault.ensures.kept c.refuse_file.ensures.told

pub returns-in-Err-Memory-clause-converted : goal.returns-in-Err-Memory-clause-converted
returns-in-Err-Memory-clause-converted g c = file_unheld _ _ _ _ _ _ _ _ _ _ None _ (ap status_of c.refuse_memory.ensures.ending)
    (rw c.in-Err-Memory.field-0-is at c.in-Err-Memory.ensures.failed) c.in-Err-Memory.ensures.kept c.refuse_memory.ensures.line

pub returns-in-Ok-converted_file-clause-converted : goal.returns-in-Ok-converted_file-clause-converted
returns-in-Ok-converted_file-clause-converted g c = source_converted _ _ _ _ _ _ _ _ _ _ _ _ _ _ _ c.in-Ok.ensures.kept c.in-Ok.ensures.count c.in-Ok.ensures.bytes
    (held_printed _ _ _ _ _ _ _ _ _ _ _ _ _ _ _ (rw c.as_slice.ensures.value at c.in-Ok-converted_file.ensures.converted)
    (was_tabled _ _ _ c.in-Ok-converted_file.ensures.kept _ _ _ _ _ c.in-Ok-converted_file.ensures.count _ _ _ _ _ c.report.ensures.printed))

pub returns-in-Err-Fault-converted_file-clause-converted : goal.returns-in-Err-Fault-converted_file-clause-converted
returns-in-Err-Fault-converted_file-clause-converted g c = source_converted _ _ _ _ _ _ _ _ _ _ _ _ _ _ _ c.in-Ok.ensures.kept c.in-Ok.ensures.count c.in-Ok.ensures.bytes
    (held_refused _ _ _ _ _ _ _ _ _ _ _ _ None _ _ (ap status_of c.tell_refusal.ensures.ending) c.in-Err-Fault-converted_file.ensures.kept c.tell_refusal.ensures.told
    (rw (c.as_slice.ensures.value, c.in-Err-Fault-converted_file.field-0-is) at c.in-Err-Fault-converted_file.ensures.refused))

pub returns-clause-converted : goal.returns-clause-converted
returns-clause-converted g c = source_converted _ _ _ _ _ _ _ _ _ _ _ _ _ _ _ c.in-Ok.ensures.kept c.in-Ok.ensures.count c.in-Ok.ensures.bytes
    (held_unheld _ _ _ _ _ _ _ _ _ _ _ _ None _ (ap status_of c.refuse_memory-in-Err-Memory-converted_file.ensures.ending) (rw c.in-Err-Memory-converted_file.field-0-is at c.in-Err-Memory-converted_file.ensures.count)
    c.in-Err-Memory-converted_file.ensures.kept c.refuse_memory-in-Err-Memory-converted_file.ensures.line)
