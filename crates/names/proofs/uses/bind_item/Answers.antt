use Rattle.names.proofs.Prelude.{arith}
use Rattle.names.proofs.BindingWalks.{bound_append_ok, bound_none, fails_append}
use Rattle.names.proofs.uses.bind_item.Goals as goal

pub returns-in_err-bind_base : goal.returns-in_err-bind_base
returns-in_err-bind_base c = grind (arith, fails_append)

pub returns-in_err-bind_restricted : goal.returns-in_err-bind_restricted
returns-in_err-bind_restricted c = grind (arith, bound_append_ok, fails_append)

pub returns-in-Some-value_list : goal.returns-in-Some-value_list
returns-in-Some-value_list c = grind (arith, bound_append_ok, bound_none)

pub returns-in-None : goal.returns-in-None
returns-in-None c = grind (arith, bound_append_ok, bound_none)
