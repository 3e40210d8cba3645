use Rattle.steps8080.proofs.Kept.{scalar_is_kept}
use Rattle.steps8080.proofs.sites.site.Site.scalar.Goals as goal

pub returns : goal.returns
returns c = scalar_is_kept c.args.self.now c.args.number c.traits.result c.traits.ensures
