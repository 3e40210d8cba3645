use Rattle.object_reading.proofs.Prelude.{refl, no_marks}
use Rattle.object_reading.proofs.rules.marks.no_marks.Goals as goal

pub returns : goal.returns
unfolding no_marks
returns c = refl
