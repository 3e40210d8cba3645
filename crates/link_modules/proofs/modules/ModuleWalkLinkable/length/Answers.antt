use Rattle.link_modules.proofs.Prelude.{map, ap, ◌∙◌, ObjectModule, length_of, owned_public_view, length_kept}
use Rattle.link_modules.proofs.modules.ModuleWalkLinkable.length.Goals as goal

pub returns : goal.returns
returns c =
    c.length.ensures
    ∙ length_kept c.self.inside.object.now (map owned_public_view c.self.inside.publics.now)
    c.self.inside.externals.now c.args.segment
    ∙ ap (λ (object : ObjectModule). length_of object c.args.segment) c.self.view_is
