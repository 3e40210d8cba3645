use Rattle.codegen8080.proofs.Driving.{emits_after}
use Rattle.codegen8080.proofs.carrying.turn.Goals as goal

pub returns : goal.returns
returns c = emits_after _ _ _ _ _ _ c.add.result c.in_ok-jump_on.ensures c.add.ensures
