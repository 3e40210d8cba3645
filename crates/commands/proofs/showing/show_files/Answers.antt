use Rattle.commands.proofs.{Prelude.{refl, stops_as, tells_file, tells_no_file}, InputFiles.{same_texts}, Names.{stops_in_files}, Shown.{files_refused, files_shown}, Untold.{for_file, for_memory, for_reason}}
use Rattle.commands.proofs.showing.show_files.Goals as goal

pub returns-in-Ok-clause-printed : goal.returns-in-Ok-clause-printed
returns-in-Ok-clause-printed g c = λ done.
    files_shown _ _ _ _ _ _ _ c.as_slice.ensures.value c.in-Ok.ensures.texts (same_texts _ _ _ c.as_slice-in-Ok.ensures.value) _ _
    (c.show_texts.ensures.printed done)

pub returns-in-Ok-clause-refused : goal.returns-in-Ok-clause-refused
returns-in-Ok-clause-refused g c = λ refused. for_reason _ _ _ _ _ _ _ _ _ c.in-Ok.ensures.count
    (files_refused _ _ _ _ _ _ _ c.as_slice.ensures.value c.in-Ok.ensures.texts (same_texts _ _ _ c.as_slice-in-Ok.ensures.value) _ _ _ _ (c.show_texts.ensures.refused refused))

pub returns-in-Ok-clause-told : goal.returns-in-Ok-clause-told
returns-in-Ok-clause-told g c = λ refused. tells_no_file _ _ _ _ _ _ c.in-Ok.ensures.count (c.show_texts.ensures.told refused)

pub returns-in-Err-Fault-clause-refused : goal.returns-in-Err-Fault-clause-refused
returns-in-Err-Fault-clause-refused g c = λ refused. for_file _ _ _ _ _ _ _ _ _ _ refl (rw c.in-Err-Fault.field-0-is at c.in-Err-Fault.ensures.failed)
    (stops_as _ _ _ c.in-Err-Fault.name c.in-Err-Fault.name-is
    (stops_in_files _ _ _ _ c.as_slice.ensures.value (rw c.in-Err-Fault.field-0-is at c.in-Err-Fault.ensures.stops))) c.refuse_file.ensures.told

pub returns-in-Err-Fault-clause-told : goal.returns-in-Err-Fault-clause-told
returns-in-Err-Fault-clause-told g c = λ refused. tells_file _ _ _ _ _ _ _ _ refl (rw c.in-Err-Fault.field-0-is at c.in-Err-Fault.ensures.failed)
    (stops_as _ _ _ c.in-Err-Fault.name c.in-Err-Fault.name-is
    (stops_in_files _ _ _ _ c.as_slice.ensures.value (rw c.in-Err-Fault.field-0-is at c.in-Err-Fault.ensures.stops))) c.refuse_file.ensures.told

pub returns-in-Err-Memory-clause-refused : goal.returns-in-Err-Memory-clause-refused
returns-in-Err-Memory-clause-refused g c = λ refused. for_memory _ _ _ _ _ _ _ _ (rw c.in-Err-Memory.field-0-is at c.in-Err-Memory.ensures.failed)
    c.refuse_memory.ensures.line

pub returns-in-Err-Memory-clause-told : goal.returns-in-Err-Memory-clause-told
returns-in-Err-Memory-clause-told g c = λ refused. tells_no_file _ _ _ _ _ _ (rw c.in-Err-Memory.field-0-is at c.in-Err-Memory.ensures.failed)
    c.refuse_memory.ensures.told
