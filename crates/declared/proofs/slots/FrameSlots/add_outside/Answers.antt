use Rattle.declared.proofs.SlotSums.{outside_added}
use Rattle.declared.proofs.slots.FrameSlots.add_outside.Goals as goal

pub invariant_of-self-2 : goal.invariant_of-self-2
invariant_of-self-2 c =
    rw c.in_ok-push.ensures.items
    (outside_added c.self.inside.objects.items c.self.inside.frame_sizes.items c.self.invariant)
