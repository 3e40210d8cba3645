use Rattle.steps8080.proofs.Kept.{is_quiet_is_kept}
use Rattle.steps8080.proofs.sites.site.Site.is_quiet.Goals as goal

pub returns : goal.returns
returns c = is_quiet_is_kept c.args.self.now c.args.number c.traits.result c.traits.ensures
