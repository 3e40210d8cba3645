use Rattle.commands.proofs.{Prelude.{inl, inr, refl}, Untold.{memory_unwritten, output_unwritten}}
use Rattle.commands.proofs.port_outputs.show_run.Goals as goal

pub returns-in-Ok-clause-told : goal.returns-in-Ok-clause-told
returns-in-Ok-clause-told g c = inl refl

pub returns-in-Ok-clause-stopped : goal.returns-in-Ok-clause-stopped
returns-in-Ok-clause-stopped g c = inl refl

pub returns-in-Err-Fault-clause-stopped : goal.returns-in-Err-Fault-clause-stopped
returns-in-Err-Fault-clause-stopped g c =
    inr (record { told = output_unwritten _ _ (rw c.in-Err-Fault.ensures.silent at c.refuse_output.ensures.line); begun = c.in-Err-Fault.ensures.begun })

pub returns-in-Err-Memory-clause-stopped : goal.returns-in-Err-Memory-clause-stopped
returns-in-Err-Memory-clause-stopped g c =
    inr (record { told = memory_unwritten _ _ (rw c.in-Err-Memory.ensures.silent at c.refuse_memory.ensures.line); begun = c.in-Err-Memory.ensures.begun })
