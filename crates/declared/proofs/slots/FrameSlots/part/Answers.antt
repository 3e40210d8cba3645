use Rattle.declared.proofs.Prelude.{◌≡◌, ◌+◌, ◌≤◌, get_or, length, take, sym, ◌∙◌, arith, sizes_in, total}
use Rattle.declared.proofs.Cuts.{piece_within}
use Rattle.declared.proofs.SlotSums.{part_not_there, part_there}
use Rattle.declared.proofs.slots.FrameSlots.part.Goals as goal

pub returns-then-eq-clause-size : goal.returns-then-eq-clause-size
returns-then-eq-clause-size c =
    (part_there c.self.inside.objects.items c.deref.result.now c.self.inside.frame_sizes.items c.args.self.now
    c.args.object c.args.procedure c.in-Some.slot.now c.self.invariant c.self.view_is c.deref.ensures.value
    c.in-Some.ensures.lookup.3.0 c.in-Some.ensures.lookup.1 (sym c.eq.ensures ∙ c.if-eq.true) c.requires).0

pub returns-then-eq-clause-within : goal.returns-then-eq-clause-within
returns-then-eq-clause-within c =
    let there : (c.in-Some.slot.now.size
    ≡ get_or (sizes_in c.args.procedure c.args.self.now.objects) c.args.object 0)
    × (c.in-Some.slot.now.start
    ≡ total (take c.args.object (sizes_in c.args.procedure c.args.self.now.objects))) =
    part_there c.self.inside.objects.items c.deref.result.now c.self.inside.frame_sizes.items c.args.self.now
    c.args.object c.args.procedure c.in-Some.slot.now c.self.invariant c.self.view_is c.deref.ensures.value
    c.in-Some.ensures.lookup.3.0 c.in-Some.ensures.lookup.1 (sym c.eq.ensures ∙ c.if-eq.true) c.requires in
    let within : total (take c.args.object (sizes_in c.args.procedure c.args.self.now.objects))
    + get_or (sizes_in c.args.procedure c.args.self.now.objects) c.args.object 0
    ≤ total (sizes_in c.args.procedure c.args.self.now.objects) =
    piece_within (sizes_in c.args.procedure c.args.self.now.objects) c.args.object in
    omega arith

pub returns-else-eq-clause-size : goal.returns-else-eq-clause-size
returns-else-eq-clause-size c =
    part_not_there c.self.inside.objects.items c.deref.result.now c.args.self.now
    (length c.self.inside.frame_sizes.items) c.args.object c.args.procedure c.in-Some.slot.now c.self.view_is
    c.deref.ensures.value c.in-Some.ensures.lookup.3.0 c.in-Some.ensures.lookup.1
    (sym c.eq.ensures ∙ c.if-eq.false)
