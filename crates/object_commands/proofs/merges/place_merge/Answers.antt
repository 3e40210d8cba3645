use Rattle.object_commands.proofs.{Prelude.{refl, stops_as, tells_file, tells_no_file}, Merged.{for_file, for_memory, not_merged, told_later}}
use Rattle.object_commands.proofs.merges.place_merge.Goals as goal

pub returns-in-Err-Fault-clause-told : goal.returns-in-Err-Fault-clause-told
returns-in-Err-Fault-clause-told g c =
    tells_file _ _ _ _ _ _ _ _ refl (rw c.in-Err-Fault.field-0-is at c.in-Err-Fault.ensures.failed)
    (stops_as _ _ _ c.in-Err-Fault.name c.in-Err-Fault.name-is
    (rw c.in-Err-Fault.field-0-is at c.in-Err-Fault.ensures.stops)) c.refuse_file.ensures.told

pub returns-in-Err-Fault-clause-cause : goal.returns-in-Err-Fault-clause-cause
returns-in-Err-Fault-clause-cause g c =
    for_file _ _ _ _ _ _ _ _ refl _ (rw c.in-Err-Fault.field-0-is at c.in-Err-Fault.ensures.failed)
    (stops_as _ _ _ c.in-Err-Fault.name c.in-Err-Fault.name-is
    (rw c.in-Err-Fault.field-0-is at c.in-Err-Fault.ensures.stops)) c.refuse_file.ensures.told

pub returns-in-Err-Memory-clause-told : goal.returns-in-Err-Memory-clause-told
returns-in-Err-Memory-clause-told g c =
    tells_no_file _ _ _ _ _ _ (rw c.in-Err-Memory.field-0-is at c.in-Err-Memory.ensures.failed)
    c.refuse_memory.ensures.told

pub returns-in-Err-Memory-clause-cause : goal.returns-in-Err-Memory-clause-cause
returns-in-Err-Memory-clause-cause g c =
    for_memory _ _ _ _ _ _ _ (rw c.in-Err-Memory.field-0-is at c.in-Err-Memory.ensures.failed)
    c.refuse_memory.ensures.line

pub returns-clause-told : goal.returns-clause-told
returns-clause-told g c =
    told_later c.place_texts.result _ _ _ _ _ _ c.in-Ok.ensures.count c.place_texts.ensures.told

pub returns-clause-cause : goal.returns-clause-cause
returns-clause-cause g c =
    not_merged _ _ _ _ _ _ _ c.in-Ok.ensures.count c.place_texts.result _ c.in-Ok.ensures.texts
    (rw c.as_slice.ensures.value at c.place_texts.ensures.cause)
