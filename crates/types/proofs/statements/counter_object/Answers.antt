use Rattle.types.proofs.Prelude.{rules, answers_fault}
use Rattle.types.proofs.Counters.{counter_fails}
use Rattle.typed_trees.specs.Views.{object_view}
use Rattle.typed_expressions.specs.internal.Views.{known_view}
use Rattle.types.specs.internal.Walking.{counter_view}
use Rattle.types.proofs.statements.counter_object.Goals as goal

pub returns-in_err-scalar : goal.returns-in_err-scalar
returns-in_err-scalar c =
    answers_fault counter_view c.from_residual-in_err-scalar.result c.in_err-scalar.field-0.0 _ (search rules)
    (counter_fails (known_view c.args.known.now) c.args.number c.args.name
    (object_view c.in_ok-object.object.now) _ c.in_ok-object.ensures c.in_err-scalar.ensures)
