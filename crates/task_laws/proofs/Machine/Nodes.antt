-- The node with a number: the entry of the tables, if the expression with this number is a tree.
use Rattle.task_laws.proofs.Prelude.{◌≡◌, ℕ, Some, slice_get, ap, ◌∙◌, type_of, TypedExpression, Expression, ExpressionNumber, IsExpression, IsNode, IsForm, traits_of, Facts, expression, knowing, Context, IsSound, nodes_in}

-- the node that is found at the number of a tree
pub record NodeOf (context : Context) (number : ExpressionNumber) (tree : TypedExpression) : Type 0 where
  pub found : Expression
  pub is_there : slice_get (nodes_in context).expressions number.index ≡ Some found
  pub at_site : (facts : Facts) → expression (knowing context.site facts) number ≡ Some found
  pub scalar : found.traits.scalar ≡ type_of tree
  pub traits : found.traits ≡ traits_of (nodes_in context) (type_of tree) found.form
  pub form : IsForm (nodes_in context) context.storage number.index found.form tree

pub node_of :
    {context : Context} {bound : ℕ} {number : ExpressionNumber} {tree : TypedExpression}
    → IsSound context
    → IsExpression (nodes_in context) context.storage bound number.index tree
    → NodeOf context number tree
unfolding expression
node_of {context = context} {number = number} sound (IsNode {expression = found} below there scalar form) =
    record {
      found = found;
      is_there = there;
      at_site = λ facts. there;
      scalar = scalar;
      traits =
          sound.lowered.traits number.index found there
          ∙ ap (λ given. traits_of (nodes_in context) given found.form) scalar;
      form = form;
    }
