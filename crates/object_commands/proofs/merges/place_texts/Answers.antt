use Rattle.object_commands.proofs.Merged.{tells_fault, tells_unplaced}
use Rattle.object_commands.proofs.merges.place_texts.Goals as goal

pub returns-in-Err-Fault-clause-cause : goal.returns-in-Err-Fault-clause-cause
returns-in-Err-Fault-clause-cause g c =
    tells_fault _ _ _ _ _ _ c.in-Err-Fault.fault c.in-Err-Fault.fault-is
    (rw c.in-Err-Fault.field-0-is at c.in-Err-Fault.ensures.fault) c.refuse_merge.ensures.line

pub returns-in-Err-Fault-locate-clause-cause : goal.returns-in-Err-Fault-locate-clause-cause
returns-in-Err-Fault-locate-clause-cause g c =
    tells_unplaced _ _ _ _ _ _ _ c.in-Err-Fault-locate.fault c.in-Err-Fault-locate.fault-is
    c.in-Ok.ensures.merges
    (rw c.module.ensures at (rw c.in-Err-Fault-locate.field-0-is at c.in-Err-Fault-locate.ensures.refused))
    c.refuse_place.ensures.line
