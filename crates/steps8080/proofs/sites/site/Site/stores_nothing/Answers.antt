use Rattle.steps8080.proofs.Kept.{stores_nothing_is_kept}
use Rattle.steps8080.proofs.sites.site.Site.stores_nothing.Goals as goal

pub returns : goal.returns
returns c = stores_nothing_is_kept c.args.self.now c.args.number c.traits.result c.traits.ensures
