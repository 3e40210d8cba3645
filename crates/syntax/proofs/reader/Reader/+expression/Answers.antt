use Rattle.syntax.proofs.Prelude.{arith, expression_level, expression_tree, expression}
use Rattle.syntax.proofs.ExpressionSound.{expression-keeps}
use Rattle.syntax.proofs.ListLoops.{list_more, list_ends, list_fails, gives_exit}
use Rattle.syntax.proofs.ExpressionLoops.{shorter_after, expression_at, expression-deep, expression_less_at, operators_end, operators_go_on, operators_do_not_go_on, operators_too_deep, primary_name, primary_constant, primary_parenthesized, primary_location}
use Rattle.syntax.proofs.MeasuredHeights.{arguments_of_map}
use Rattle.syntax.proofs.reader.Reader.+expression.Goals as goal

pub expressions-returns-in_err-next-clause-gives : goal.expressions-returns-in_err-next-clause-gives
expressions-returns-in_err-next-clause-gives t c =
    let keeps = expression-keeps c.args.room expression_level in
    gives_exit _ c.from_residual-in_err-next.result _ _ _ c.from_residual-in_err-next.ensures.1
    (list_fails (expression c.args.room expression_level) keeps expression_tree _ _ _ _ _ _
    c.more.invariant.all
    c.at_mark.ensures c.more-test.true c.skip.ensures c.in_err-next.ensures.gives)

pub expressions-more-smaller : goal.expressions-more-smaller
expressions-more-smaller t c =
    shorter_after c.args.room expression_level _ _ _ _ c.skip.ensures c.in_ok-next.ensures.gives

pub expressions-more-preserved : goal.expressions-more-preserved
expressions-more-preserved t c =
    let keeps = expression-keeps c.args.room expression_level in
    record {
      all =
          list_more (expression c.args.room expression_level) keeps expression_tree _ _ _ _ _ _ _ _
          c.more.invariant.all c.at_mark.ensures c.more-test.true c.skip.ensures c.in_ok-next.ensures.gives
          c.in_ok-push.ensures.view;
      fits = omega (arith, c.in_ok-push.ensures.height, c.in_ok-next.ensures.fits, c.more.invariant.fits);
    }

pub expressions-returns-clause-gives : goal.expressions-returns-clause-gives
expressions-returns-clause-gives t c =
    let keeps = expression-keeps c.args.room expression_level in
    list_ends (expression c.args.room expression_level) keeps expression_tree _ _ _ _ _ c.more.invariant.all
    c.at_mark.ensures c.more-test.false c.shrink.ensures.view

pub operators-returns-then-left-room-clause-gives : goal.operators-returns-then-left-room-clause-gives
operators-returns-then-left-room-clause-gives t c =
    operators_too_deep c.args.room c.args.level c.more.left.height c.more.left.level _ _ _ _ _
    c.more.invariant.all c.in-Some.ensures c.more.left.leveled c.more.left.measured c.if-left-room.true
    c.too_deep.ensures

pub operators-returns-in_err-right-clause-gives : goal.operators-returns-in_err-right-clause-gives
operators-returns-in_err-right-clause-gives t c =
    gives_exit _ c.from_residual.result _ _ _ c.from_residual.ensures.1
    (operators_do_not_go_on c.args.room c.args.level c.level_of.result c.more.left.height c.more.left.level _
    _ _ _ _ _ c.more.invariant.all c.in-Some.ensures c.more.left.leveled c.more.left.measured
    (omega arith) c.skip.ensures c.level_of.ensures.level c.in_err-right.ensures.gives)

pub operators-more-smaller : goal.operators-more-smaller
operators-more-smaller t c = shorter_after c.args.room _ _ _ _ _ c.skip.ensures c.in_ok-right.ensures.gives

pub operators-more-preserved : goal.operators-more-preserved
operators-more-preserved t c =
    record {
      all =
          operators_go_on c.args.room c.args.level c.level_of.result c.more.left.height c.more.left.level _ _
          _ _ _ _ _ _ c.more.invariant.all c.in-Some.ensures c.more.left.leveled c.more.left.measured
          (omega arith) c.skip.ensures c.level_of.ensures.level c.in_ok-right.ensures.gives
          c.in_ok-left.ensures.view;
      fits = omega (arith, c.in_ok-left.ensures.height, c.in_ok-right.ensures.fits, c.if-left-room.false);
    }

pub operators-returns-clause-gives : goal.operators-returns-clause-gives
operators-returns-clause-gives t c = grind (arith, operators_end)

pub expression-returns-then-room-eq0-clause-gives : goal.expression-returns-then-room-eq0-clause-gives
expression-returns-then-room-eq0-clause-gives t c =
    expression-deep _ _ _ _ c.if-room-eq0.true c.too_deep.ensures

pub expression-returns-in_err-left-clause-gives : goal.expression-returns-in_err-left-clause-gives
expression-returns-in_err-left-clause-gives t c = grind (arith, expression_at)

pub expression-returns-clause-gives : goal.expression-returns-clause-gives
expression-returns-clause-gives t c = grind (arith, expression_at)

pub primary-returns-then-at_mark-clause-gives : goal.primary-returns-then-at_mark-clause-gives
primary-returns-then-at_mark-clause-gives t c = grind (arith, primary_parenthesized)

pub primary-returns-then-at_mark-2-clause-gives : goal.primary-returns-then-at_mark-2-clause-gives
primary-returns-then-at_mark-2-clause-gives t c = grind (arith, primary_location)

pub primary-returns-in_default-clause-gives : goal.primary-returns-in_default-clause-gives
primary-returns-in_default-clause-gives t c = grind (arith, primary_constant)

pub primary-returns-clause-gives : goal.primary-returns-clause-gives
primary-returns-clause-gives t c = grind (arith, primary_name)

pub assigned_value-returns-in_err-value-clause-gives : goal.assigned_value-returns-in_err-value-clause-gives
assigned_value-returns-in_err-value-clause-gives t c = grind (arith, expression_less_at)

pub assigned_value-returns-in_err-take_mark-2-clause-gives : goal.assigned_value-returns-in_err-take_mark-2-clause-gives
assigned_value-returns-in_err-take_mark-2-clause-gives t c = grind (arith, expression_less_at)

pub assigned_value-returns-clause-gives : goal.assigned_value-returns-clause-gives
assigned_value-returns-clause-gives t c = grind (arith, expression_less_at)

pub arguments-returns-clause-gives : goal.arguments-returns-clause-gives
arguments-returns-clause-gives t c = grind (arith, arguments_of_map)
