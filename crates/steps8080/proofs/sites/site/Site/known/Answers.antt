use Rattle.steps8080.proofs.Kept.{known_is_kept}
use Rattle.steps8080.proofs.sites.site.Site.known.Goals as goal

pub returns : goal.returns
returns c = known_is_kept c.args.self.now c.args.number c.traits.result c.traits.ensures
