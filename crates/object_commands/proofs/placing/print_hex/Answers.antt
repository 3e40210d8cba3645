use Rattle.object_commands.proofs.{Refused.{tells_later}, Rooms.{leaves_room, no_refusal}}
use Rattle.object_commands.proofs.placing.print_hex.Goals as goal

pub returns-in-Err-Fault-clause-told : goal.returns-in-Err-Fault-clause-told
returns-in-Err-Fault-clause-told g c =
    λ refused. tells_later _ _ _ _ _ _ _ c.in-Ok.ensures.silent c.in-Ok.ensures.count
    c.refuse_output.ensures.told

pub returns-in-Err-Memory-clause-told : goal.returns-in-Err-Memory-clause-told
returns-in-Err-Memory-clause-told g c =
    λ refused. tells_later _ _ _ _ _ _ _ c.in-Ok.ensures.silent c.in-Ok.ensures.count
    c.refuse_memory.ensures.told

pub returns-in-Some-clause-told : goal.returns-in-Some-clause-told
returns-in-Some-clause-told g c =
    λ refused. tells_later _ _ _ _ _ _ _ c.in-Ok.ensures.silent c.in-Ok.ensures.count
    c.refuse_place.ensures.told

pub write_placed-written-requires : goal.write_placed-written-requires
write_placed-written-requires g c =
    leaves_room _ _ _ _ c.in-Ok.ensures.placed.placed
    (no_refusal c.refusal_of_jump.result _ c.refusal_of_jump.ensures c.in_default.not-Some)
