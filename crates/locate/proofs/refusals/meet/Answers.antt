use Rattle.locate.proofs.Tests.{meet_is}
use Rattle.locate.proofs.refusals.meet.Goals as goal

pub returns : goal.returns
returns c = meet_is c.overlap.result c.args.left c.args.right c.overlap.ensures.meets
