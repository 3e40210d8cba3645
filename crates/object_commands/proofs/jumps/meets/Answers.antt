use Rattle.object_commands.proofs.Prelude.{meet_is}
use Rattle.object_commands.proofs.jumps.meets.Goals as goal

pub returns : goal.returns
returns c = meet_is _ _ _ (rw c.range_from-other.ensures at c.overlap.ensures.meets)
