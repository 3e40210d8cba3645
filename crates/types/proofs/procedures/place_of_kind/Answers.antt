use Rattle.types.proofs.Prelude.{arith, if_tree_is, do_tree_is, loop_tree_is, case_tree_is}
use Rattle.types.proofs.Places.{place_of_first}
use Rattle.types.proofs.procedures.place_of_kind.Goals as goal

pub returns-in-Assignment : goal.returns-in-Assignment
returns-in-Assignment c = grind (arith, place_of_first)

pub returns-in-If : goal.returns-in-If
returns-in-If c = grind (arith, if_tree_is)

pub returns-in-Loop : goal.returns-in-Loop
returns-in-Loop c = grind (arith, loop_tree_is)

pub returns-in-Case : goal.returns-in-Case
returns-in-Case c = grind (arith, case_tree_is)
