use Rattle.codegen8080.proofs.Prelude.{sym, ◌∙◌}
use Rattle.codegen8080.proofs.Planning.{none_popped}
use Rattle.codegen8080.proofs.procedures.plan_popped_at.Goals as goal

pub returns-in-None : goal.returns-in-None
returns-in-None c =
    none_popped c.args.parameters.now c.args.plan.now c.args.index c.get.result c.get.ensures.lookup
    (sym c.copied.ensures ∙ c.in-None.is)
