use Rattle.declared.proofs.Prelude.{ap, ◌≡◌, ◌∙◌, Some, length, arith, OpenFrame, frames_in, open_frames}
use Rattle.declared.proofs.FrameBytes.{opened_first, opened_last}
use Rattle.declared.proofs.frames.Frames.open.Goals as goal
use Rattle.declared.proofs.frames.Frames.open.Goals.{in-Some+in_default-push, in_default}

pub returns : goal.returns
returns c =
    let frame : OpenFrame =
    record { slots = c.args.slots; procedure = c.args.procedure; base = c.len-base.result } in
    let is_base : length c.self.inside.bytes.items ≡ c.len-base.result =
    omega (arith, c.len-base.ensures, c.self.inside.bytes.ok) in
    elim c.match-self.branch [
      | in-Some+in_default-push w ↦
          ap (λ inside. frames_in (open_frames (Some frame) inside.callers.items) inside.bytes.items)
          w.self-inside-is
          ∙ opened_last frame w.in-Some.caller c.self.inside.current c.self.inside.callers.items
          w.push.new.self.items c.args.self.now c.self.inside.bytes.items c.add_zeros.new.bytes.items
          c.frame_size.result c.self.view_is w.in-Some.is w.in_default-push.ensures.items is_base
          c.frame_size.ensures c.in_ok-add_zeros.ensures
      | in_default w ↦
          ap (λ inside. frames_in (open_frames (Some frame) inside.callers.items) inside.bytes.items)
          w.self-inside-is
          ∙ opened_first frame c.self.inside.current c.self.inside.callers.items c.args.self.now
          c.self.inside.bytes.items c.add_zeros.new.bytes.items c.frame_size.result
          c.self.view_is w.in_default.is
          is_base c.frame_size.ensures c.in_ok-add_zeros.ensures
    ]
