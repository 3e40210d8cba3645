use Rattle.link_modules.proofs.Prelude.{map, ap, ◌∙◌, ObjectModule, alignment_of, owned_public_view, alignment_kept}
use Rattle.link_modules.proofs.modules.ModuleWalkLinkable.alignment.Goals as goal

pub returns : goal.returns
returns c =
    c.alignment.ensures
    ∙ alignment_kept c.self.inside.object.now (map owned_public_view c.self.inside.publics.now)
    c.self.inside.externals.now c.args.segment
    ∙ ap (λ (object : ObjectModule). alignment_of object c.args.segment) c.self.view_is
