use Rattle.explaining.proofs.Prelude.{length}
use Rattle.explaining.proofs.parts.add_meetings.Given as goal

-- fewer parts are left after each turn
abbrev pub decreases-loop-rest : goal.decreases-loop-rest
decreases-loop-rest l = length l.rest
