use Rattle.commands.proofs.{Prelude.{None, ap, status_of}, Converted.{tabled_stopped, tabled_unwritten, tabled_without, tabled_written}, Tables.{none_wanted, one_wanted}}
use Rattle.commands.proofs.converting.report.Goals as goal

pub returns-in_default-clause-printed : goal.returns-in_default-clause-printed
returns-in_default-clause-printed g c = tabled_without _ _ _ None _ 0 _ _ _ _ _ (none_wanted c.args.order.now c.in_default.is) c.print.ensures.printed

pub returns-in-Ok-clause-printed : goal.returns-in-Ok-clause-printed
returns-in-Ok-clause-printed g c = tabled_written _ _ _ _ _ _ _ _ _ _ _ _ (one_wanted c.args.order.now _ c.in-Some.is) c.in-Ok.ensures.count (rw c.as_slice.ensures.value at c.in-Ok.ensures.ok)
    c.print-in-Ok.ensures.printed

pub returns-in-Err-Fault-clause-printed : goal.returns-in-Err-Fault-clause-printed
returns-in-Err-Fault-clause-printed g c = tabled_stopped _ _ _ _ _ _ _ _ _ None _ _ (one_wanted c.args.order.now _ c.in-Some.is) (ap status_of c.refuse_file.ensures.ending)
    (rw c.in-Err-Fault.field-0-is at c.in-Err-Fault.ensures.failed) (rw c.as_slice.ensures.value at c.in-Err-Fault.ensures.err) c.refuse_file.ensures.told

pub returns-in-Err-Memory-clause-printed : goal.returns-in-Err-Memory-clause-printed
returns-in-Err-Memory-clause-printed g c = tabled_unwritten _ _ _ _ _ _ _ _ _ None _ _ (one_wanted c.args.order.now _ c.in-Some.is) (ap status_of c.refuse_memory.ensures.ending)
    (rw c.in-Err-Memory.field-0-is at c.in-Err-Memory.ensures.failed) (rw c.as_slice.ensures.value at c.in-Err-Memory.ensures.err) c.refuse_memory.ensures.line
