use Rattle.hex80.proofs.Prelude.{refl, unmarked}
use Rattle.hex80.proofs.read.unmarked.Goals as goal

pub returns : goal.returns
unfolding unmarked
returns c = refl
