-- The head of a loop is as high as what it holds, one expression alone or an iteration.
use Rattle.typed_laws.proofs.Prelude.{◌+◌, ◌*◌, ◌≤◌, arith, ExpressionTree, IterationTree, LoopHeadTree, TypedExpression, TypedIteration, TypedHead, TypedModule, TypesHold, TypesHoldInIteration, TypesHoldInHead, Within, expression_height, iteration_height, head_height, height_of, height_of_iteration, height_of_head, plain_expression, plain_iteration, plain_head, untyped_expression, untyped_iteration, untyped_head}
use Rattle.trees.specs.Trees.{WhileHead, CountHead}
use Rattle.typed_trees.specs.TypedTrees.{WhileHead as TypedWhile, CountHead as TypedCount}

-- a typed head, beside the levels that it takes in the text
pub head_within : (typed : TypedModule) (within : Within)
    → ((expression : TypedExpression) → TypesHold typed within expression
    → height_of expression ≤ 17 * expression_height (untyped_expression typed expression))
    → ((iteration : TypedIteration) → TypesHoldInIteration typed within iteration
    → height_of_iteration iteration ≤ 1 + 17 * iteration_height (untyped_iteration typed iteration))
    → (head : TypedHead) → TypesHoldInHead typed within head
    → height_of_head head ≤ 1 + 17 * head_height (untyped_head typed head)
head_within typed within of_expression of_iteration (TypedWhile condition) holds =
    let part = of_expression condition holds in omega (arith, part)
head_within typed within of_expression of_iteration (TypedCount iteration) holds = of_iteration iteration holds

-- a head in the text, without what typed trees do not keep
pub head_lower :
    ((tree : ExpressionTree) → expression_height (plain_expression tree) ≤ expression_height tree)
    → ((tree : IterationTree) → iteration_height (plain_iteration tree) ≤ iteration_height tree)
    → (head : LoopHeadTree) → head_height (plain_head head) ≤ head_height head
head_lower of_expression of_iteration (WhileHead condition) = of_expression condition
head_lower of_expression of_iteration (CountHead iteration) = of_iteration iteration
