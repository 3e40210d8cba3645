use Rattle.names.proofs.Prelude.{arith}
use Rattle.names.proofs.BindingWalks.{bound_none}
use Rattle.names.proofs.uses.bind_restricted.Goals as goal

pub returns-in-Constant : goal.returns-in-Constant
returns-in-Constant c = grind (arith, bound_none)
