use Rattle.commands.proofs.{Prelude.{ap, status_of}, Untold.{memory_unwritten, output_unwritten}, Converted.{told_unwritten, told_written}}
use Rattle.commands.proofs.converting.print.Goals as goal

pub returns-in-Ok-clause-printed : goal.returns-in-Ok-clause-printed
returns-in-Ok-clause-printed g c = told_written _ _ _ _ _ _ c.tell.ensures.ending (rw c.as_slice-in-Ok.ensures.value at c.tell.ensures.done) (rw c.as_slice-in-Ok.ensures.value at c.tell.ensures.some)
    (rw c.as_slice-in-Ok.ensures.value at c.tell.ensures.told) (rw c.as_slice.ensures.value at c.in-Ok.ensures.ok)

pub returns-in-Err-Fault-clause-printed : goal.returns-in-Err-Fault-clause-printed
returns-in-Err-Fault-clause-printed g c =
    told_unwritten _ _ _ _ _ _ (ap status_of c.refuse_output.ensures.ending) (output_unwritten _ _ c.refuse_output.ensures.line) (rw c.as_slice.ensures.value at c.in-Err-Fault.ensures.err)

pub returns-in-Err-Memory-clause-printed : goal.returns-in-Err-Memory-clause-printed
returns-in-Err-Memory-clause-printed g c =
    told_unwritten _ _ _ _ _ _ (ap status_of c.refuse_memory.ensures.ending) (memory_unwritten _ _ c.refuse_memory.ensures.line) (rw c.as_slice.ensures.value at c.in-Err-Memory.ensures.err)
