use Rattle.placing.proofs.Claiming.{meets_same}
use Rattle.placing.proofs.claims.ranges_meet.Goals as goal

pub returns : goal.returns
returns c = meets_same c.overlap.result c.args.left c.args.right c.overlap.ensures.meets
