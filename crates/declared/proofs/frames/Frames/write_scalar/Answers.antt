use Rattle.declared.proofs.Prelude.{◌≡◌, ◌+◌, ◌/◌, ◌%◌, ap, sym, ◌∙◌, arith, with_items, with_items_is, frame_with_byte, frame_with_scalar, with_current, frames_in, open_frames}
use Rattle.declared.proofs.FrameBytes.{changed_twice, next_written, part_written}
use Rattle.declared.proofs.frames.Frames.write_scalar.Goals as goal

pub returns-in-Byte : goal.returns-in-Byte
returns-in-Byte c =
    ap (frames_in (open_frames c.self.inside.current c.self.inside.callers.items))
    (with_items_is c.self.inside.bytes c.set_byte_of.new.bytes
    (c.set_byte_of.auto.bytes ∙ c.deref_mut.ensures.len))
    ∙ part_written c.self.inside.current c.self.inside.callers.items c.self.inside.bytes.items
    c.set_byte_of.new.bytes c.args.self.now c.in-Some.frame c.args.object c.args.offset
    c.part-part.result.start
    c.part-part.result.size (c.args.number % 256) c.self.view_is c.in-Some.is c.part-part.ensures.size
    c.part-part.ensures.start (rw c.deref_mut.ensures.value at c.set_byte_of.ensures)
    ∙ ap (λ scalar. with_current (frame_with_scalar scalar c.args.object c.args.offset c.args.number)
    c.args.self.now)
    (sym c.in-Byte.is)

pub returns-in-Address : goal.returns-in-Address
returns-in-Address c =
    let low : frames_in (open_frames c.self.inside.current c.self.inside.callers.items)
    (with_items c.self.inside.bytes c.set_byte_of.new.bytes).items
    ≡ with_current (frame_with_byte c.args.object c.args.offset (c.args.number % 256)) c.args.self.now =
    ap (frames_in (open_frames c.self.inside.current c.self.inside.callers.items))
    (with_items_is c.self.inside.bytes c.set_byte_of.new.bytes
    (c.set_byte_of.auto.bytes ∙ c.deref_mut.ensures.len))
    ∙ part_written c.self.inside.current c.self.inside.callers.items c.self.inside.bytes.items
    c.set_byte_of.new.bytes c.args.self.now c.in-Some.frame c.args.object c.args.offset
    c.part-part.result.start
    c.part-part.result.size (c.args.number % 256) c.self.view_is c.in-Some.is c.part-part.ensures.size
    c.part-part.ensures.start (rw c.deref_mut.ensures.value at c.set_byte_of.ensures) in
    ap (frames_in (open_frames c.self.inside.current c.self.inside.callers.items))
    (with_items_is (with_items c.self.inside.bytes c.set_byte_of.new.bytes) c.set_byte_of-in-Address.new.bytes
    (c.set_byte_of-in-Address.auto.bytes ∙ c.deref_mut-in-Address.ensures.len))
    ∙ part_written c.self.inside.current c.self.inside.callers.items
    (with_items c.self.inside.bytes c.set_byte_of.new.bytes).items c.set_byte_of-in-Address.new.bytes
    (with_current (frame_with_byte c.args.object c.args.offset (c.args.number % 256)) c.args.self.now)
    c.in-Some.frame c.args.object (c.args.offset + 1) c.part-part.result.start c.part-part.result.size
    (c.args.number / 256) low c.in-Some.is c.part-part.ensures.size c.part-part.ensures.start
    (next_written (with_items c.self.inside.bytes c.set_byte_of.new.bytes).items
    c.set_byte_of-in-Address.new.bytes c.args.offset c.saturating_add-next.result c.part-part.result.start
    c.part-part.result.size (c.args.number / 256) c.saturating_add-next.ensures (omega arith)
    (rw c.deref_mut-in-Address.ensures.value at c.set_byte_of-in-Address.ensures))
    ∙ changed_twice (frame_with_byte c.args.object c.args.offset (c.args.number % 256))
    (frame_with_byte c.args.object (c.args.offset + 1) (c.args.number / 256)) c.args.self.now
    ∙ ap (λ scalar. with_current (frame_with_scalar scalar c.args.object c.args.offset c.args.number)
    c.args.self.now)
    (sym c.in-Address.is)
