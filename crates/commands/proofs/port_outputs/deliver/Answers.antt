use Rattle.commands.proofs.{Prelude.{inl, inr}, OutputFiles.{ended_or_told, output_told}, RefusedRuns.{file_stops, memory_stops, showing_stops}}
use Rattle.commands.proofs.port_outputs.deliver.Goals as goal

pub returns-in-Ok-clause-told : goal.returns-in-Ok-clause-told
returns-in-Ok-clause-told g c = ended_or_told c.show_run.ensures.told c.in-Ok.ensures.count

pub returns-in-Ok-clause-delivered : goal.returns-in-Ok-clause-delivered
returns-in-Ok-clause-delivered g c = λ other. record { changed = c.in-Ok.ensures.ok; shown = rw c.bytes_for_output.ensures at (c.show_run.ensures.shown other) }

pub returns-in-Err-Fault-clause-told : goal.returns-in-Err-Fault-clause-told
returns-in-Err-Fault-clause-told g c = inr (inl (output_told _ _ _ _ _ _ c.in-Err-Fault.name (rw c.in-Err-Fault.field-0-is at c.in-Err-Fault.ensures.failed) c.in-Err-Fault.name-is
    (rw c.in-Err-Fault.field-0-is at c.in-Err-Fault.ensures.named) c.refuse_file.ensures.told))

pub returns-in-Err-Memory-clause-told : goal.returns-in-Err-Memory-clause-told
returns-in-Err-Memory-clause-told g c = inr (inr (rw c.in-Err-Memory.field-0-is at c.in-Err-Memory.ensures.failed, c.refuse_memory.ensures.told))

pub returns-in-Ok-clause-undelivered : goal.returns-in-Ok-clause-undelivered
returns-in-Ok-clause-undelivered g c = showing_stops _ _ _ _ _ _ _ _ _ _ _ _ _ c.bytes_for_output.ensures c.in-Ok.ensures.count c.in-Ok.ensures.ok c.show_run.ensures.stopped

pub returns-in-Err-Fault-clause-undelivered : goal.returns-in-Err-Fault-clause-undelivered
returns-in-Err-Fault-clause-undelivered g c = inr (file_stops _ _ _ _ _ _ _ _ _ _ _ c.in-Err-Fault.name (rw c.in-Err-Fault.field-0-is at c.in-Err-Fault.ensures.failed) c.in-Err-Fault.name-is
    (rw c.in-Err-Fault.field-0-is at c.in-Err-Fault.ensures.stopped) c.refuse_file.ensures.told)

pub returns-in-Err-Memory-clause-undelivered : goal.returns-in-Err-Memory-clause-undelivered
returns-in-Err-Memory-clause-undelivered g c = inr (memory_stops _ _ _ _ _ _ _ _ _ _ (rw c.in-Err-Memory.field-0-is at c.in-Err-Memory.ensures.failed) c.in-Err-Memory.ensures.left
    c.refuse_memory.ensures.line)
