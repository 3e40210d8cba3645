use Rattle.names.proofs.Prelude.{arith}
use Rattle.names.proofs.BindingWalks.{bound_append_ok, fails_append}
use Rattle.names.proofs.uses.bind_bounds.Goals as goal

pub returns-in_err-bind_expression : goal.returns-in_err-bind_expression
returns-in_err-bind_expression c = grind (arith, fails_append)

pub returns-in_err-bind_expression-2 : goal.returns-in_err-bind_expression-2
returns-in_err-bind_expression-2 c = grind (arith, bound_append_ok, fails_append)

pub returns : goal.returns
returns c = grind (arith, bound_append_ok)
