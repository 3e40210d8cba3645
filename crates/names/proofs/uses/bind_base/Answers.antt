use Rattle.names.proofs.Prelude.{arith}
use Rattle.names.proofs.BindingWalks.{bound_none}
use Rattle.names.proofs.uses.bind_base.Goals as goal

pub returns-in_default : goal.returns-in_default
returns-in_default c = grind (arith, bound_none)

pub returns-in_default-2 : goal.returns-in_default-2
returns-in_default-2 c = grind (arith, bound_none)
