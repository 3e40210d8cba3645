use Rattle.steps8080.proofs.Prelude.{◌≡◌, ◌<◌, ◌∙◌, inl, inr, true, length, refl, sym, ap, arith, Written, is_marked}
use Rattle.steps8080.proofs.Labels.{flag_there, one_flag_set}
use Rattle.steps8080.proofs.Numbered.{writes_mark, writes_no_mark}
use Rattle.steps8080.proofs.writer.Writer.mark.Goals as goal

pub returns-then-index : goal.returns-then-index
returns-then-index c =
    let same : length c.self.inside.labels.items ≡ length c.label_of.new.self.labels =
    ap (λ (written : Written). length written.labels) c.self.view_is in
    let within : c.args.number.index < length c.self.inside.is_marked.items =
    omega (arith, c.in_ok-label.ensures.reached, same, c.self.invariant.long) in
    let flag : is_marked c.self.inside.is_marked.items c.args.number.index ≡ true =
    flag_there c.self.inside.is_marked.items c.args.number.index c.index.result.now c.index.ensures c.if-index.true
    within in
    writes_no_mark c.args.self.now c.args.self.now c.label_of.new.self c.args.number.index refl
    c.in_ok-label.ensures.items c.in_ok-label.ensures.labels c.in_ok-label.ensures.counted
    c.in_ok-label.ensures.marked
    c.in_ok-label.ensures.externals
    (ap (λ (written : Written). is_marked written.marked c.args.number.index) (sym c.self.view_is) ∙ flag)

pub returns : goal.returns
returns c =
    let found = c.in_ok-label.ensures in
    writes_mark c.args.self.now c.label_of.new.self _ c.bind.new.self _ c.args.number.index c.in_ok-label.label
    c.self.view_is found.items found.labels found.counted
    (λ other given. elim (one_flag_set c.self.inside.is_marked.items c.args.number.index other given) [
      | inl old ↦ inl (found.marked other
          (ap (λ (written : Written). is_marked written.marked other) (sym c.self.view_is) ∙ old))
      | inr same ↦ inr same
    ])
    found.externals found.found c.in_ok-bind.ensures.ok
