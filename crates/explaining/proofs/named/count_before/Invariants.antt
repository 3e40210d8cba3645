use Rattle.explaining.proofs.Prelude.{length}
use Rattle.explaining.proofs.named.count_before.Given as goal

-- fewer words are left after each turn
abbrev pub decreases-loop-rest : goal.decreases-loop-rest
decreases-loop-rest l = length l.rest
