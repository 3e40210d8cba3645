use Rattle.names.proofs.Prelude.{arith}
use Rattle.names.proofs.BindingWalks.{bound_none}
use Rattle.names.proofs.uses.bind_optional.Goals as goal

pub returns-in-None : goal.returns-in-None
returns-in-None c = grind (arith, bound_none)
