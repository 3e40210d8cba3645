use Rattle.commands.proofs.{Prelude.{refl, ap, ◌∙◌, stops_as, tells_file, tells_no_file, texts_of}, Names.{stops_in_files}, Untold.{for_file, for_memory, for_reason}, NeedTold.{no_need_by, prints_by, prints_need_of, refused_not_done, refuses_need_of}}
use Rattle.commands.proofs.needing.tell_of_files.Goals as goal

pub returns-in-Err-Fault-clause-told : goal.returns-in-Err-Fault-clause-told
returns-in-Err-Fault-clause-told g c = λ refused. tells_file _ _ _ _ _ _ _ _ refl (rw c.in-Err-Fault.field-0-is at c.in-Err-Fault.ensures.failed)
    (stops_as _ _ _ c.in-Err-Fault.name c.in-Err-Fault.name-is
    (stops_in_files _ _ _ _ c.as_slice-names.ensures.value (rw c.in-Err-Fault.field-0-is at c.in-Err-Fault.ensures.stops))) c.refuse_file.ensures.told

pub returns-in-Err-Memory-clause-told : goal.returns-in-Err-Memory-clause-told
returns-in-Err-Memory-clause-told g c = λ refused. tells_no_file _ _ _ _ _ _ (rw c.in-Err-Memory.field-0-is at c.in-Err-Memory.ensures.failed) c.refuse_memory.ensures.told

pub returns-in-Ok-sources_of-clause-told : goal.returns-in-Ok-sources_of-clause-told
returns-in-Ok-sources_of-clause-told g c = λ refused. tells_no_file _ _ _ _ _ _ c.in-Ok.ensures.count (c.print_need.ensures.told refused)

pub returns-in-Ok-sources_of-clause-printed : goal.returns-in-Ok-sources_of-clause-printed
returns-in-Ok-sources_of-clause-printed g c = λ done. prints_by _ _ _ _ _ c.as_slice-names.ensures.value
    (prints_need_of _ _ _ _ _ _ c.in-Ok.ensures.texts
    (ap texts_of c.as_slice-in-Ok-sources_of.ensures.value ∙ (rw c.as_slice.ensures.value at c.in-Ok-sources_of.ensures)) (c.print_need.ensures.printed done))

pub returns-clause-told : goal.returns-clause-told
returns-clause-told g c = λ refused. tells_no_file _ _ _ _ _ _ c.in-Ok.ensures.count c.refuse_memory-in-Err.ensures.told

pub returns-in-Err-Fault-clause-refused : goal.returns-in-Err-Fault-clause-refused
returns-in-Err-Fault-clause-refused g c = λ refused. for_file _ _ _ _ _ _ _ _ _ _ refl (rw c.in-Err-Fault.field-0-is at c.in-Err-Fault.ensures.failed)
    (stops_as _ _ _ c.in-Err-Fault.name c.in-Err-Fault.name-is
    (stops_in_files _ _ _ _ c.as_slice-names.ensures.value (rw c.in-Err-Fault.field-0-is at c.in-Err-Fault.ensures.stops))) c.refuse_file.ensures.told

pub returns-in-Err-Memory-clause-refused : goal.returns-in-Err-Memory-clause-refused
returns-in-Err-Memory-clause-refused g c = λ refused. for_memory _ _ _ _ _ _ _ _ (rw c.in-Err-Memory.field-0-is at c.in-Err-Memory.ensures.failed) c.refuse_memory.ensures.line

pub returns-in-Ok-sources_of-clause-refused : goal.returns-in-Ok-sources_of-clause-refused
returns-in-Ok-sources_of-clause-refused g c = λ refused. for_reason _ _ _ _ _ _ _ _ _ c.in-Ok.ensures.count
    (refuses_need_of _ _ _ _ _ _ _ _ _ c.as_slice-names.ensures.value c.in-Ok.ensures.texts
    (ap texts_of c.as_slice-in-Ok-sources_of.ensures.value ∙ (rw c.as_slice.ensures.value at c.in-Ok-sources_of.ensures))
    (no_need_by _ _ _ _ _ c.as_slice-names.ensures.value (c.print_need.ensures.refused refused))
    (c.print_need.ensures.stopped (refused_not_done _ refused)))

pub returns-clause-refused : goal.returns-clause-refused
returns-clause-refused g c = λ refused. for_memory _ _ _ _ _ _ _ _ c.in-Ok.ensures.count c.refuse_memory-in-Err.ensures.line
