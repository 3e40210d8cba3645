use Rattle.object_commands.proofs.{Prelude.{◌∙◌}, Refused.{tells_later}, FilesPlaced.{begins_places}}
use Rattle.object_commands.proofs.placing.print_places.Goals as goal

pub returns-in-Err-Fault-clause-refused : goal.returns-in-Err-Fault-clause-refused
returns-in-Err-Fault-clause-refused g c = λ other.
    let placed = c.in-Ok.placed in
    begins_places _ _ _ placed.object placed.absolute c.as_slice.result.now _ _ c.in-Ok.ensures.placed
    (c.as_slice.ensures.value ∙ c.in-Ok-printed.ensures) c.in-Err-Fault.ensures.err

pub returns-clause-refused : goal.returns-clause-refused
returns-clause-refused g c = λ other.
    let placed = c.in-Ok.placed in
    begins_places _ _ _ placed.object placed.absolute c.as_slice.result.now _ _ c.in-Ok.ensures.placed
    (c.as_slice.ensures.value ∙ c.in-Ok-printed.ensures) c.in-Err-Memory.ensures.err

pub returns-in-Err-printed-clause-told : goal.returns-in-Err-printed-clause-told
returns-in-Err-printed-clause-told g c =
    λ refused. tells_later _ _ _ _ _ _ _ c.in-Ok.ensures.silent c.in-Ok.ensures.count
    c.refuse_memory.ensures.told

pub returns-in-Err-Fault-clause-told : goal.returns-in-Err-Fault-clause-told
returns-in-Err-Fault-clause-told g c =
    λ refused. tells_later _ _ _ _ _ _ _ c.in-Ok.ensures.silent c.in-Ok.ensures.count
    c.refuse_output.ensures.told

pub returns-clause-told : goal.returns-clause-told
returns-clause-told g c =
    λ refused. tells_later _ _ _ _ _ _ _ c.in-Ok.ensures.silent c.in-Ok.ensures.count
    c.refuse_memory-in-Err-Memory.ensures.told
