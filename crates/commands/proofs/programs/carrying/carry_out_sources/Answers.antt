use Rattle.commands.proofs.{Prelude.{refl, ◌∙◌, stays_on, stops_as, tells_file, tells_no_file, stops_before}, InputFiles.{files_of_order, refused_after, same_texts, told_after, told_before}, Names.{stops_in_files}, Printed.{prints_files}, Untold.{for_file, for_memory, refuses_files}}
use Rattle.commands.proofs.programs.carrying.carry_out_sources.Goals as goal

pub returns-in-Ok-clause-unchanged : goal.returns-in-Ok-clause-unchanged
returns-in-Ok-clause-unchanged g c = stays_on _ _ _ c.read_files.ensures.kept c.carry_out_texts.ensures.unchanged

pub returns-in-Ok-clause-told : goal.returns-in-Ok-clause-told
returns-in-Ok-clause-told g c = λ refused. told_after _ _ _ _ _ _ _ _ c.read_files.ensures.kept (files_of_order _ _ _ _ c.as_slice.ensures.value c.in-Ok.ensures.texts) c.in-Ok.ensures.count _ _
    (c.carry_out_texts.ensures.told refused)

pub returns-in-Ok-clause-refused : goal.returns-in-Ok-clause-refused
returns-in-Ok-clause-refused g c = λ refused. refused_after _ _ _ _ _ _ _ _ c.read_files.ensures.kept (files_of_order _ _ _ _ c.as_slice.ensures.value c.in-Ok.ensures.texts) c.in-Ok.ensures.count _ _ _ _ _ _
    (λ why. refuses_files _ _ _ _ _ _ _ _ _ _ _ c.as_slice.ensures.value refl c.in-Ok.ensures.texts (same_texts _ _ _ c.as_slice-in-Ok.ensures.value) _ c.read_files.ensures.kept why)
    (c.carry_out_texts.ensures.refused refused)

pub returns-in-Ok-clause-count : goal.returns-in-Ok-clause-count
returns-in-Ok-clause-count g c = λ other. c.carry_out_texts.ensures.count other ∙ c.in-Ok.ensures.count

pub returns-in-Ok-clause-ran : goal.returns-in-Ok-clause-ran
returns-in-Ok-clause-ran g c = λ other. prints_files _ _ _ _ _ _ _ _ _ _ _ c.as_slice.ensures.value refl c.in-Ok.ensures.texts (same_texts _ _ _ c.as_slice-in-Ok.ensures.value) _ c.read_files.ensures.kept
    (c.carry_out_texts.ensures.ran other)

pub returns-in-Err-Fault-clause-told : goal.returns-in-Err-Fault-clause-told
returns-in-Err-Fault-clause-told g c = λ refused. told_before _ _ _ _ _ _ _ (tells_file _ _ _ _ _ _ _ _ refl (rw c.in-Err-Fault.field-0-is at c.in-Err-Fault.ensures.failed)
    (stops_as _ _ _ c.in-Err-Fault.name c.in-Err-Fault.name-is
    (stops_in_files _ _ _ _ c.as_slice.ensures.value (rw c.in-Err-Fault.field-0-is at c.in-Err-Fault.ensures.stops))) c.refuse_file.ensures.told)

pub returns-in-Err-Fault-clause-refused : goal.returns-in-Err-Fault-clause-refused
returns-in-Err-Fault-clause-refused g c = λ refused. for_file _ _ _ _ _ _ _ _ _ _ refl (rw c.in-Err-Fault.field-0-is at c.in-Err-Fault.ensures.failed)
    (stops_before _ _ _ _ (stops_as _ _ _ c.in-Err-Fault.name c.in-Err-Fault.name-is
    (stops_in_files _ _ _ _ c.as_slice.ensures.value (rw c.in-Err-Fault.field-0-is at c.in-Err-Fault.ensures.stops)))) c.refuse_file.ensures.told

pub returns-in-Err-Memory-clause-told : goal.returns-in-Err-Memory-clause-told
returns-in-Err-Memory-clause-told g c = λ refused. tells_no_file _ _ _ _ _ _ (rw c.in-Err-Memory.field-0-is at c.in-Err-Memory.ensures.failed) c.refuse_memory.ensures.told

pub returns-in-Err-Memory-clause-refused : goal.returns-in-Err-Memory-clause-refused
returns-in-Err-Memory-clause-refused g c = λ refused. for_memory _ _ _ _ _ _ _ _ (rw c.in-Err-Memory.field-0-is at c.in-Err-Memory.ensures.failed) c.refuse_memory.ensures.line
