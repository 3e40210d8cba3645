use Rattle.placing.proofs.Prelude.{ℕ, ap, ◌∙◌, length, length-replicate, no_ends}
use Rattle.placing.proofs.reaches.no_ends.Goals as goal

pub returns-clause-none : goal.returns-clause-none
unfolding no_ends
returns-clause-none c = c.in_ok-ends.ensures

pub returns-clause-size : goal.returns-clause-size
returns-clause-size c = ap length c.in_ok-ends.ensures ∙ length-replicate {A = ℕ} 65536 0
