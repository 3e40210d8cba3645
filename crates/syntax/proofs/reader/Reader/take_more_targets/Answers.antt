use Rattle.syntax.proofs.Prelude.{sym, ◌∙◌, arith, err_from_is_err_and}
use Rattle.syntax.proofs.StatementTargets.{targets-fails, targets-more, targets-end, target-smaller}
use Rattle.syntax.proofs.reader.Reader.take_more_targets.Goals as goal

pub returns-in_err-target : goal.returns-in_err-target
returns-in_err-target c =
    let p = err_from_is_err_and c.from_residual.result c.from_residual.ensures.1 in
    rw (p.1, p.2) (targets-fails _ _ _ _ _ _ c.more.invariant
    (sym c.more-test.true ∙ c.at_mark.ensures) c.skip.ensures c.in_err-target.ensures)

pub more-smaller : goal.more-smaller
more-smaller c = grind (arith, target-smaller)

pub more-preserved : goal.more-preserved
more-preserved c = grind (arith, targets-more)

pub returns : goal.returns
returns c = grind (arith, targets-end)
