use Rattle.placing.proofs.RangeTests.{overlap_is}
use Rattle.placing.proofs.ranges.overlaps.Goals as goal

pub returns : goal.returns
returns c = overlap_is c.overlap.result c.args.left c.args.right c.overlap.ensures.meets
