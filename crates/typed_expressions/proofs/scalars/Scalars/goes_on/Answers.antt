use Rattle.typed_expressions.proofs.Prelude.{◌∙◌, rules, arith, type_view}
use Rattle.typed_expressions.proofs.LeftScalars.{left_found, run_absent, run_empty}
use Rattle.typed_expressions.proofs.scalars.Scalars.goes_on.Goals as goal
use Rattle.typed_expressions.proofs.scalars.Scalars.goes_on.Goals.{in-Some+else-run-gt0, in_default}

pub returns-then-run-gt0-clause-left : goal.returns-then-run-gt0-clause-left
returns-then-run-gt0-clause-left c =
    rw c.loop-position.invariant.kept
    (left_found (type_view c.args.object_type.now) c.args.self.now c.loop-position.position c.in-Some.run'
    c.requires c.loop-position.invariant.left (search rules))

pub loop-position-preserved : goal.loop-position-preserved
loop-position-preserved c =
    record {
      left = elim c.match-run_at.branch [
        | in-Some+else-run-gt0 w ↦
            run_empty (type_view c.args.object_type.now) c.loop-position.position w.in-Some.run' (cc)
            w.if-run-gt0.false ∙ c.loop-position.invariant.left
        | in_default w ↦
            run_absent (type_view c.args.object_type.now) c.loop-position.position (omega arith) (cc)
            ∙ c.loop-position.invariant.left
      ];
      kept = c.loop-position.invariant.kept;
    }
