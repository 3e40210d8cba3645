use Rattle.object_commands.proofs.{Prelude.{refl, ◌∙◌, stops_as, stops_before, stops_last, tells_file, tells_no_file}, FilesWritten.{stops_linking, kept_others, kept_then_others, kept_then_stopped, not_linked, written_others}}
use Rattle.object_commands.proofs.linking.link_files.Goals as goal

pub returns-in-Err-Fault-clause-told : goal.returns-in-Err-Fault-clause-told
returns-in-Err-Fault-clause-told g c =
    λ refused. tells_file _ _ _ _ _ _ _ _ refl (rw c.in-Err-Fault.field-0-is at c.in-Err-Fault.ensures.failed)
    (stops_before _ _ _ _ (stops_as _ _ _ c.in-Err-Fault.name c.in-Err-Fault.name-is
    (rw c.in-Err-Fault.field-0-is at c.in-Err-Fault.ensures.stops))) c.refuse_file.ensures.told

pub returns-in-Err-Memory-clause-told : goal.returns-in-Err-Memory-clause-told
returns-in-Err-Memory-clause-told g c =
    λ refused. tells_no_file _ _ _ _ _ _ (rw c.in-Err-Memory.field-0-is at c.in-Err-Memory.ensures.failed)
    c.refuse_memory.ensures.told

pub returns-in-Err-Fault-merging-clause-told : goal.returns-in-Err-Fault-merging-clause-told
returns-in-Err-Fault-merging-clause-told g c =
    λ refused. tells_no_file _ _ _ _ _ _ c.in-Ok.ensures.count c.refuse_merge.ensures.told

pub returns-in-Err-Memory-merging-clause-told : goal.returns-in-Err-Memory-merging-clause-told
returns-in-Err-Memory-merging-clause-told g c =
    λ refused. tells_no_file _ _ _ _ _ _ c.in-Ok.ensures.count
    c.refuse_memory-in-Err-Memory-merging.ensures.told

pub returns-in-Err-Fault-write_file-clause-told : goal.returns-in-Err-Fault-write_file-clause-told
returns-in-Err-Fault-write_file-clause-told g c =
    λ refused. tells_file _ _ _ _ _ _ _ _ c.in-Ok.ensures.count
    (rw c.in-Err-Fault-write_file.field-0-is at c.in-Err-Fault-write_file.ensures.failed)
    (stops_last _ _ _ _ c.in-Ok.ensures.texts) c.refuse_file-in-Err-Fault-write_file.ensures.told

pub returns-clause-told : goal.returns-clause-told
returns-clause-told g c =
    λ refused. tells_no_file _ _ _ _ _ _
    ((rw c.in-Err-Memory-write_file.field-0-is at c.in-Err-Memory-write_file.ensures.failed)
    ∙ c.in-Ok.ensures.count) c.refuse_memory-in-Err-Memory-write_file.ensures.told

pub returns-clause-refused : goal.returns-clause-refused
returns-clause-refused g c = λ other. stops_linking _ _ _ _ _ _ _ c.in-Ok.ensures.kept c.in-Ok.ensures.texts
    (rw c.as_slice.ensures.value at c.in-Ok-merging.ensures)
    (rw c.as_slice-2.ensures.value at c.in-Err-Memory-write_file.ensures.err)

pub returns-in-Err-Fault-clause-others : goal.returns-in-Err-Fault-clause-others
returns-in-Err-Fault-clause-others g c = kept_others _ _ _ c.read_files.ensures.kept

pub returns-in-Err-Fault-clause-refused : goal.returns-in-Err-Fault-clause-refused
returns-in-Err-Fault-clause-refused g c = λ other. not_linked _ _ _ _ c.read_files.ensures.kept

pub returns-in-Err-Memory-clause-others : goal.returns-in-Err-Memory-clause-others
returns-in-Err-Memory-clause-others g c = kept_others _ _ _ c.read_files.ensures.kept

pub returns-in-Err-Memory-clause-refused : goal.returns-in-Err-Memory-clause-refused
returns-in-Err-Memory-clause-refused g c = λ other. not_linked _ _ _ _ c.read_files.ensures.kept

pub returns-in-Err-Fault-merging-clause-others : goal.returns-in-Err-Fault-merging-clause-others
returns-in-Err-Fault-merging-clause-others g c = kept_others _ _ _ c.read_files.ensures.kept

pub returns-in-Err-Fault-merging-clause-refused : goal.returns-in-Err-Fault-merging-clause-refused
returns-in-Err-Fault-merging-clause-refused g c = λ other. not_linked _ _ _ _ c.read_files.ensures.kept

pub returns-in-Err-Memory-merging-clause-others : goal.returns-in-Err-Memory-merging-clause-others
returns-in-Err-Memory-merging-clause-others g c = kept_others _ _ _ c.read_files.ensures.kept

pub returns-in-Err-Memory-merging-clause-refused : goal.returns-in-Err-Memory-merging-clause-refused
returns-in-Err-Memory-merging-clause-refused g c = λ other. not_linked _ _ _ _ c.read_files.ensures.kept

pub returns-in-Ok-write_file-clause-others : goal.returns-in-Ok-write_file-clause-others
returns-in-Ok-write_file-clause-others g c =
    kept_then_others _ _ _ _ c.read_files.ensures.kept (written_others _ _ _ _ c.in-Ok-write_file.ensures.ok)

pub returns-in-Err-Fault-write_file-clause-others : goal.returns-in-Err-Fault-write_file-clause-others
returns-in-Err-Fault-write_file-clause-others g c =
    kept_then_stopped _ _ _ _ _ c.read_files.ensures.kept c.in-Err-Fault-write_file.ensures.err

pub returns-in-Err-Fault-write_file-clause-refused : goal.returns-in-Err-Fault-write_file-clause-refused
returns-in-Err-Fault-write_file-clause-refused g c =
    λ other. stops_linking _ _ _ _ _ _ _ c.in-Ok.ensures.kept c.in-Ok.ensures.texts
    (rw c.as_slice.ensures.value at c.in-Ok-merging.ensures)
    (rw c.as_slice-2.ensures.value at c.in-Err-Fault-write_file.ensures.err)

pub returns-clause-others : goal.returns-clause-others
returns-clause-others g c =
    kept_then_stopped _ _ _ _ _ c.read_files.ensures.kept c.in-Err-Memory-write_file.ensures.err
