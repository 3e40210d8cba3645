use Rattle.object_commands.proofs.{Prelude.{refl, stops_alone, tells_file, tells_no_file}, Merged.{told_later}, FilesPlaced.{file_placed}}
use Rattle.object_commands.proofs.placing.place_file.Goals as goal

pub returns-in-Err-Fault-clause-told : goal.returns-in-Err-Fault-clause-told
returns-in-Err-Fault-clause-told g c =
    tells_file _ _ _ _ _ _ _ _ refl (rw c.in-Err-Fault.field-0-is at c.in-Err-Fault.ensures.failed)
    (stops_alone _ _) c.refuse_file.ensures.told

pub returns-in-Err-Memory-clause-told : goal.returns-in-Err-Memory-clause-told
returns-in-Err-Memory-clause-told g c =
    tells_no_file _ _ _ _ _ _ (rw c.in-Err-Memory.field-0-is at c.in-Err-Memory.ensures.failed)
    c.refuse_memory.ensures.told

pub returns-in-Ok-clause-told : goal.returns-in-Ok-clause-told
returns-in-Ok-clause-told g c =
    told_later c.place_bytes.result _ _ _ _ _ _ c.in-Ok.ensures.count c.place_bytes.ensures.told

pub returns-in-Ok-clause-placed : goal.returns-in-Ok-clause-placed
returns-in-Ok-clause-placed g c =
    file_placed (λ p. p.object) (λ p. p.absolute) _ _ _ _ _ c.place_bytes.result c.in-Ok.ensures.bytes
    c.as_slice.ensures.value c.place_bytes.ensures.placed
