use Rattle.declared.proofs.Prelude.{◌<◌, length, arith, get_or_read}
use Rattle.declared.proofs.SlotSums.{inside_added, unknown_added}
use Rattle.declared.proofs.slots.FrameSlots.add_inside.Goals as goal

pub invariant_of-self-then-procedure-len : goal.invariant_of-self-then-procedure-len
invariant_of-self-then-procedure-len c =
    rw c.in_ok-push.ensures.items
    (unknown_added c.self.inside.objects.items c.self.inside.frame_sizes.items c.args.procedure c.args.size
    c.self.invariant (omega arith))

pub invariant_of-self-2 : goal.invariant_of-self-2
invariant_of-self-2 c =
    let within : c.args.procedure < length c.self.inside.frame_sizes.items = omega arith in
    rw c.in_ok-push-2.ensures.items
    (inside_added c.self.inside.objects.items c.self.inside.frame_sizes.items c.args.procedure
    c.index-start.result.now c.args.size c.in-Some.end c.self.invariant within
    (get_or_read c.self.inside.frame_sizes.items c.args.procedure c.index-start.result.now within
    c.index-start.ensures 0)
    c.in-Some.ensures.1)
