use Rattle.exprgen8080.proofs.Prelude.{◌≤◌, refl, length, subst}
use Rattle.exprgen8080.proofs.Emitting.{no_call_added}
use Rattle.exprgen8080.proofs.emission.Emission.call_procedure.Goals as goal

pub returns-in-None-clause-items : goal.returns-in-None-clause-items
returns-in-None-clause-items c =
    no_call_added c.args.tree.now c.args.procedure c.args.self.now _
    (subst (λ list. length list ≤ c.args.procedure) c.deref.ensures.value c.in-None.ensures.lookup.3)
    refl c.none-self.ensures
