-- What holds of each expression and of each iteration holds of every head.
use Rattle.typed_trees.specs.declared.expression.TypedExpression.{TypedExpression as Expression}
use Rattle.typed_trees.specs.declared.statement.TypedHead.{TypedHead as Head}
use Rattle.typed_trees.specs.declared.statement.TypedHead.TheVariants as heads
use Rattle.typed_trees.specs.declared.statement.TypedIteration.{TypedIteration as Iteration}
use Rattle.typed_trees.specs.TypedTrees.{TypedExpression, TypedIteration, TypedHead, WhileHead, CountHead, of_head}
use Rattle.typed_trees.specs.Views.{expression_view, iteration_view, head_view}

-- one predicate follows from another
pub head_gives : {given wanted : TypedExpression → Type 0} {counted counts : TypedIteration → Type 0}
    → ((expression : TypedExpression) → given expression → wanted expression)
    → ((iteration : TypedIteration) → counted iteration → counts iteration)
    → (head : TypedHead) → of_head given counted head → of_head wanted counts head
head_gives of_expression of_iteration (WhileHead condition) holds = of_expression condition holds
head_gives of_expression of_iteration (CountHead iteration) holds = of_iteration iteration holds

-- a predicate holds of each view
pub head_views : (wanted : TypedExpression → Type 0) (counts : TypedIteration → Type 0)
    → ((expression : Expression) → wanted (expression_view expression))
    → ((iteration : Iteration) → counts (iteration_view iteration))
    → (head : Head) → of_head wanted counts (head_view head)
head_views wanted counts of_expression of_iteration (heads.While condition) = of_expression condition
head_views wanted counts of_expression of_iteration (heads.Count iteration) = of_iteration iteration
