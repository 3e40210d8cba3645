use Rattle.names.proofs.Prelude.{arith}
use Rattle.names.proofs.BindingWalks.{bound_append_ok, fails_append}
use Rattle.names.proofs.uses.bind_assignment.Goals as goal

pub returns-in_err-bind_reference : goal.returns-in_err-bind_reference
returns-in_err-bind_reference c = grind (arith, fails_append)

pub returns-in_err-bind_targets : goal.returns-in_err-bind_targets
returns-in_err-bind_targets c = grind (arith, bound_append_ok, fails_append)

pub returns : goal.returns
returns c = grind (arith, bound_append_ok)
