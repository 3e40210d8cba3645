use Rattle.names.proofs.Prelude.{arith}
use Rattle.names.proofs.BindingWalks.{bound_cons_ok, fails_cons}
use Rattle.names.proofs.uses.bind_iteration.Goals as goal

pub returns-in_err-bind_name : goal.returns-in_err-bind_name
returns-in_err-bind_name c = grind (arith, fails_cons)

pub returns : goal.returns
returns c = grind (arith, bound_cons_ok)
