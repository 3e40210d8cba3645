use Rattle.steps8080.proofs.Prelude.{◌+◌, ◌≤◌, length, arith, subst, sym}
use Rattle.steps8080.specs.internal.Labels.{AreKept}
use Rattle.steps8080.proofs.Labels.{flags_resized, table_resized}
use Rattle.steps8080.proofs.writer.Writer.reach.Goals as goal

pub invariant_of-self-in_err-resize-2 : goal.invariant_of-self-in_err-resize-2
invariant_of-self-in_err-resize-2 c =
    let least : length c.self.inside.labels.items ≤ c.args.number.index + 1 =
    omega (arith, c.if-index-len.false, c.len.ensures, c.self.inside.labels.ok.0) in
    subst (λ table. AreKept table c.resize.new.self.items c.self.inside.code)
    (sym c.in_err-resize-2.ensures.items)
    (flags_resized c.self.inside.labels.items c.self.inside.is_marked.items c.resize.new.self.items
    c.self.inside.code (c.args.number.index + 1) _ c.resize.new.self.len c.self.invariant least
    c.in_ok-resize.ensures.items c.resize.new.self.ok.0 c.in_ok-resize.ensures.len)

pub invariant_of-self-2 : goal.invariant_of-self-2
invariant_of-self-2 c =
    let least : length c.self.inside.labels.items ≤ c.args.number.index + 1 =
    omega (arith, c.if-index-len.false, c.len.ensures, c.self.inside.labels.ok.0) in
    table_resized c.self.inside.labels.items c.resize-2.new.self.items
    c.resize.new.self.items c.self.inside.code
    (c.args.number.index + 1) _ c.resize-2.new.self.len
    (flags_resized c.self.inside.labels.items c.self.inside.is_marked.items c.resize.new.self.items
    c.self.inside.code (c.args.number.index + 1) _ c.resize.new.self.len c.self.invariant least
    c.in_ok-resize.ensures.items c.resize.new.self.ok.0 c.in_ok-resize.ensures.len)
    least c.in_ok-resize-2.ensures.items c.resize-2.new.self.ok.0
    (omega (arith, c.in_ok-resize-2.ensures.len, c.resize.new.self.ok.0, c.in_ok-resize.ensures.len))
