use Rattle.declared.proofs.Prelude.{◌+◌, ap, slice_range}
use Rattle.declared.proofs.FrameBytes.{part_is}
use Rattle.declared.proofs.frames.Frames.bytes_of.Goals as goal

pub returns : goal.returns
returns c =
    part_is c.self.inside.current c.self.inside.callers.items c.self.inside.bytes.items _ c.args.self.now
    c.in-Some.frame c.args.object c.part-part.result.start c.part-part.result.size c.self.view_is c.in-Some.is
    c.part-part.ensures.size c.part-part.ensures.start
    (ap
    (λ all. slice_range all c.part-part.result.start (c.part-part.result.start + c.part-part.result.size))
    c.deref.ensures.value)
