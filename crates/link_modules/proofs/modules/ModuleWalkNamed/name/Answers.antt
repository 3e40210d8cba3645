use Rattle.link_modules.proofs.Prelude.{IsTrue, ap, sym, subst, ◌∙◌, ObjectModule, is_name}
use Rattle.link_modules.proofs.modules.ModuleWalkNamed.name.Goals as goal

pub returns-clause-same : goal.returns-clause-same
returns-clause-same c =
    c.self.invariant.named ∙ ap (λ (object : ObjectModule). object.name) c.self.view_is

pub returns-clause-valid : goal.returns-clause-valid
returns-clause-valid c =
    subst (λ name. IsTrue (is_name name)) (sym c.self.invariant.named) (c.self.invariant.valid).name
