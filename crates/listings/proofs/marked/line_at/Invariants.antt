use Rattle.listings.proofs.Prelude.{length}
use Rattle.listings.proofs.marked.line_at.Given as goal

abbrev pub decreases-loop-rest : goal.decreases-loop-rest
decreases-loop-rest l = length l.rest
