use Rattle.declared.proofs.Prelude.{◌≡◌, drop, map, ◌++◌, object_view, frame_object}
use Rattle.declared.proofs.slots.FrameSlots.new.Given as goal

abbrev pub invariant-loop-object : goal.invariant-loop-object
invariant-loop-object l =
    (l.slots.objects ++ map frame_object (map object_view (drop l.object-index l.object-items))
    ≡ map frame_object (map object_view l.object-items))
    × (l.slots.procedures ≡ l.initial.slots.procedures)
