use Rattle.typed_expressions.proofs.Prelude.{◌≡◌, ◌+◌, ◌-◌, ◌/◌, ap, sym, ◌∙◌, Ok, rules, arith}
use Rattle.typed_expressions.proofs.Filled.{elements_at_least}
use Rattle.typed_expressions.proofs.filling.elements_for.Goals as goal

pub returns-in-Ok : goal.returns-in-Ok
returns-in-Ok c =
    let is : c.in-Ok.elements ≡ (c.args.used - 1) / c.args.each + 1 = search rules in
    elements_at_least c.args.place c.args.used c.args.each (omega arith) (c.requires (omega arith))
    ∙ ap (λ elements. Ok elements) (sym is)
