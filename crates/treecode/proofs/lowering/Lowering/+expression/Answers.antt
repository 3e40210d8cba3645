use Rattle.treecode.proofs.Prelude.{List, ap, sym, ◌∙◌, arith, IfOk-weaker, arguments_view, layout_view, ExpressionNumber, nodes_of, numbers_in}
use Rattle.treecode.proofs.ArgumentLoop.{argument_added, arguments_all_added}
use Rattle.treecode.proofs.PutNodes.{arguments_put, beside_arguments, beside_expressions, holds_on_ok}
use Rattle.treecode.proofs.lowering.Lowering.+expression.Goals as goal

pub expression-returns-clause-kept : goal.expression-returns-clause-kept
expression-returns-clause-kept t c =
    holds_on_ok c.add_expression.result
    (beside_expressions c.form.new.self c.add_expression.new.self c.add_expression.ensures.kept
    ∙ c.in_ok-form.ensures.kept)

pub arguments-loop-argument-preserved : goal.arguments-loop-argument-preserved
arguments-loop-argument-preserved t c = (
  c.in_ok-number.ensures.kept ∙ (c.loop-argument.invariant).0,
  argument_added (layout_view c.args.storage.now) (nodes_of c.loop-argument.self.tree)
      c.loop-argument.numbers.items _
      c.args.arguments.now c.loop-argument.argument-index (c.loop-argument.invariant).1
      c.argument-item.result (nodes_of c.expression.new.self.tree) c.in_ok-number.number c.push.new.self.items
      (omega arith) c.argument-item.is c.in_ok-number.ensures.ok c.in_ok-push.ensures.items,
)

pub arguments-returns-clause-kept : goal.arguments-returns-clause-kept
arguments-returns-clause-kept t c =
    holds_on_ok c.add_arguments.result
    (beside_arguments c.loop-argument.self c.add_arguments.new.self c.add_arguments.ensures.kept
    ∙ (c.loop-argument.invariant).0)

pub arguments-returns-clause-ok : goal.arguments-returns-clause-ok
arguments-returns-clause-ok t c =
    IfOk-weaker c.add_arguments.result _ _
    (λ range added.
    arguments_put c.loop-argument.self.tree c.add_arguments.new.self
    (numbers_in (layout_view c.args.storage.now) (nodes_of c.args.self.now.tree)
    (arguments_view c.args.arguments.now))
    c.as_slice.result.now range
    (sym
    (arguments_all_added (layout_view c.args.storage.now) (nodes_of c.loop-argument.self.tree)
    c.loop-argument.numbers.items _ c.args.arguments.now c.loop-argument.argument-index
    (c.loop-argument.invariant).1
    (omega arith))
    ∙ ap (λ (all : List ExpressionNumber). (nodes_of c.loop-argument.self.tree, all))
    (sym c.as_slice.ensures.value))
    c.add_arguments.ensures.kept added.0 added.1 added.2)
    c.add_arguments.ensures.ok
