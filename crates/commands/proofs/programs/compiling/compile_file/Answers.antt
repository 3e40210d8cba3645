use Rattle.commands.proofs.{Prelude.{refl, ◌∙◌, tells_file, tells_no_file, kept_others, kept_then_others, kept_then_stopped, written_others}, Compiled.{compiles, not_compiled, stops_at_object, stops_at_source, stops_compiling}, Untold.{for_fault, for_object, for_source, without_memory}}
use Rattle.commands.proofs.programs.compiling.compile_file.Goals as goal

pub returns-in-Err-Fault-clause-told : goal.returns-in-Err-Fault-clause-told
returns-in-Err-Fault-clause-told g c = λ refused. tells_file _ _ _ _ _ _ _ _ refl (rw c.in-Err-Fault.field-0-is at c.in-Err-Fault.ensures.failed)
    (stops_at_source _ _ _) c.refuse_file.ensures.told

pub returns-in-Err-Memory-clause-told : goal.returns-in-Err-Memory-clause-told
returns-in-Err-Memory-clause-told g c = λ refused. tells_no_file _ _ _ _ _ _ (rw c.in-Err-Memory.field-0-is at c.in-Err-Memory.ensures.failed) c.refuse_memory.ensures.told

pub returns-in-Err-Fault-compiling-clause-told : goal.returns-in-Err-Fault-compiling-clause-told
returns-in-Err-Fault-compiling-clause-told g c = λ refused. tells_no_file _ _ _ _ _ _ c.in-Ok.ensures.count c.refuse_sources.ensures.told

pub returns-in-Err-Memory-compiling-clause-told : goal.returns-in-Err-Memory-compiling-clause-told
returns-in-Err-Memory-compiling-clause-told g c = λ refused. tells_no_file _ _ _ _ _ _ c.in-Ok.ensures.count c.refuse_memory-in-Err-Memory-compiling.ensures.told

pub returns-in-Err-Fault-write_file-clause-told : goal.returns-in-Err-Fault-write_file-clause-told
returns-in-Err-Fault-write_file-clause-told g c = λ refused. tells_file _ _ _ _ _ _ _ _ c.in-Ok.ensures.count (rw c.in-Err-Fault-write_file.field-0-is at c.in-Err-Fault-write_file.ensures.failed)
    (stops_at_object _ _ _ _ c.in-Ok.ensures.bytes) c.refuse_file-in-Err-Fault-write_file.ensures.told

pub returns-clause-told : goal.returns-clause-told
returns-clause-told g c = λ refused. tells_no_file _ _ _ _ _ _ ((rw c.in-Err-Memory-write_file.field-0-is at c.in-Err-Memory-write_file.ensures.failed) ∙ c.in-Ok.ensures.count) c.refuse_memory-in-Err-Memory-write_file.ensures.told

pub returns-in-Ok-write_file-clause-compiled : goal.returns-in-Ok-write_file-clause-compiled
returns-in-Ok-write_file-clause-compiled g c = λ done. compiles _ _ _ _ _ _ _ c.read_file.ensures.kept c.in-Ok.ensures.bytes
    (rw c.as_slice.ensures.value at c.in-Ok-compiling.ensures.compiled) (rw c.as_slice-2.ensures.value at c.in-Ok-write_file.ensures.ok)

pub returns-clause-refused : goal.returns-clause-refused
returns-clause-refused g c = λ other. stops_compiling _ _ _ _ _ _ _ c.read_file.ensures.kept c.in-Ok.ensures.bytes
    (rw c.as_slice.ensures.value at c.in-Ok-compiling.ensures.compiled) (rw c.as_slice-2.ensures.value at c.in-Err-Memory-write_file.ensures.err)

pub returns-in-Err-Fault-clause-others : goal.returns-in-Err-Fault-clause-others
returns-in-Err-Fault-clause-others g c = kept_others _ _ _ c.read_file.ensures.kept

pub returns-in-Err-Fault-clause-refused : goal.returns-in-Err-Fault-clause-refused
returns-in-Err-Fault-clause-refused g c = λ other. not_compiled _ _ _ _ c.read_file.ensures.kept

pub returns-in-Err-Memory-clause-others : goal.returns-in-Err-Memory-clause-others
returns-in-Err-Memory-clause-others g c = kept_others _ _ _ c.read_file.ensures.kept

pub returns-in-Err-Memory-clause-refused : goal.returns-in-Err-Memory-clause-refused
returns-in-Err-Memory-clause-refused g c = λ other. not_compiled _ _ _ _ c.read_file.ensures.kept

pub returns-in-Err-Fault-compiling-clause-others : goal.returns-in-Err-Fault-compiling-clause-others
returns-in-Err-Fault-compiling-clause-others g c = kept_others _ _ _ c.read_file.ensures.kept

pub returns-in-Err-Fault-compiling-clause-refused : goal.returns-in-Err-Fault-compiling-clause-refused
returns-in-Err-Fault-compiling-clause-refused g c = λ other. not_compiled _ _ _ _ c.read_file.ensures.kept

pub returns-in-Err-Memory-compiling-clause-others : goal.returns-in-Err-Memory-compiling-clause-others
returns-in-Err-Memory-compiling-clause-others g c = kept_others _ _ _ c.read_file.ensures.kept

pub returns-in-Err-Memory-compiling-clause-refused : goal.returns-in-Err-Memory-compiling-clause-refused
returns-in-Err-Memory-compiling-clause-refused g c = λ other. not_compiled _ _ _ _ c.read_file.ensures.kept

pub returns-in-Ok-write_file-clause-others : goal.returns-in-Ok-write_file-clause-others
returns-in-Ok-write_file-clause-others g c =
    kept_then_others _ _ _ _ c.read_file.ensures.kept (written_others _ _ _ _ c.in-Ok-write_file.ensures.ok)

pub returns-in-Err-Fault-write_file-clause-others : goal.returns-in-Err-Fault-write_file-clause-others
returns-in-Err-Fault-write_file-clause-others g c =
    kept_then_stopped _ _ _ _ _ c.read_file.ensures.kept c.in-Err-Fault-write_file.ensures.err

pub returns-in-Err-Fault-write_file-clause-refused : goal.returns-in-Err-Fault-write_file-clause-refused
returns-in-Err-Fault-write_file-clause-refused g c = λ other. stops_compiling _ _ _ _ _ _ _ c.read_file.ensures.kept c.in-Ok.ensures.bytes
    (rw c.as_slice.ensures.value at c.in-Ok-compiling.ensures.compiled) (rw c.as_slice-2.ensures.value at c.in-Err-Fault-write_file.ensures.err)

pub returns-clause-others : goal.returns-clause-others
returns-clause-others g c = kept_then_stopped _ _ _ _ _ c.read_file.ensures.kept c.in-Err-Memory-write_file.ensures.err

pub returns-in-Err-Fault-clause-refusal : goal.returns-in-Err-Fault-clause-refusal
returns-in-Err-Fault-clause-refusal g c = λ refused. for_source _ _ _ _ _ _ _ refl (rw c.in-Err-Fault.field-0-is at c.in-Err-Fault.ensures.failed) c.refuse_file.ensures.told

pub returns-in-Err-Memory-clause-refusal : goal.returns-in-Err-Memory-clause-refusal
returns-in-Err-Memory-clause-refusal g c = λ refused. without_memory _ _ _ _ _ _ (rw c.in-Err-Memory.field-0-is at c.in-Err-Memory.ensures.failed) c.refuse_memory.ensures.line

pub returns-in-Err-Fault-compiling-clause-refusal : goal.returns-in-Err-Fault-compiling-clause-refusal
returns-in-Err-Fault-compiling-clause-refusal g c = λ refused. for_fault _ _ _ _ _ _ _ _ c.in-Ok.ensures.count c.in-Ok.ensures.bytes
    (rw c.as_slice.ensures.value at (rw c.in-Err-Fault-compiling.field-0-is at c.in-Err-Fault-compiling.ensures.refused)) c.refuse_sources.ensures.line

pub returns-in-Err-Memory-compiling-clause-refusal : goal.returns-in-Err-Memory-compiling-clause-refusal
returns-in-Err-Memory-compiling-clause-refusal g c = λ refused. without_memory _ _ _ _ _ _ c.in-Ok.ensures.count c.refuse_memory-in-Err-Memory-compiling.ensures.line

pub returns-in-Err-Fault-write_file-clause-refusal : goal.returns-in-Err-Fault-write_file-clause-refusal
returns-in-Err-Fault-write_file-clause-refusal g c = λ refused. for_object _ _ _ _ _ _ _ _ _ c.in-Ok.ensures.count
    (rw c.in-Err-Fault-write_file.field-0-is at c.in-Err-Fault-write_file.ensures.failed) c.in-Ok.ensures.bytes
    (rw c.as_slice.ensures.value at c.in-Ok-compiling.ensures.compiled) c.refuse_file-in-Err-Fault-write_file.ensures.told

pub returns-clause-refusal : goal.returns-clause-refusal
returns-clause-refusal g c = λ refused. without_memory _ _ _ _ _ _ ((rw c.in-Err-Memory-write_file.field-0-is at c.in-Err-Memory-write_file.ensures.failed) ∙ c.in-Ok.ensures.count)
    c.refuse_memory-in-Err-Memory-write_file.ensures.line
