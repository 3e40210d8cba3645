use Rattle.typed_expressions.proofs.Prelude.{refl, arith, type_view}
use Rattle.typed_expressions.proofs.LeftScalars.{left_ended, runs_past}
use Rattle.typed_expressions.proofs.scalars.Scalars.new.Goals as goal

pub returns : goal.returns
returns c =
    left_ended (type_view c.args.object_type.now) _ refl
    (runs_past (type_view c.args.object_type.now) _ (omega arith))
