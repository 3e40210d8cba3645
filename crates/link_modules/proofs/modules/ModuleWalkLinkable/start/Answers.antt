use Rattle.link_modules.proofs.Prelude.{ap, ◌∙◌, ObjectModule}
use Rattle.link_modules.proofs.modules.ModuleWalkLinkable.start.Goals as goal

pub returns : goal.returns
returns c = c.start.ensures.start ∙ ap (λ (object : ObjectModule). object.start) c.self.view_is
