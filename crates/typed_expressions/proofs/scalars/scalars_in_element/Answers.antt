use Rattle.typed_expressions.proofs.Prelude.{ap, arith, length, rules, type_view}
use Rattle.typed_expressions.proofs.LeftScalars.{element_runs, run_length}
use Rattle.typed_expressions.proofs.scalars.scalars_in_element.Goals as goal

pub loop-position-init : goal.loop-position-init
loop-position-init c = omega (arith, ap length (element_runs (type_view c.args.object_type.now)))

pub loop-position-preserved : goal.loop-position-preserved
loop-position-preserved c =
    let is =
    run_length (type_view c.args.object_type.now) c.loop-position.position
    c.in_ok-run_at.field-0 (search rules) in
    omega arith
