-- Conditions with the same facts at all their jumps.
use Rattle.std.specs.Prelude.{Bool, true, false}
use Rattle.trees.specs.declared.expression.BinaryOperator.{BinaryOperator}
use Rattle.trees.specs.declared.expression.BinaryOperator.TheVariants.{And, Or}
use Rattle.trees.specs.declared.expression.UnaryOperator.TheVariants.{Not}
use Rattle.typed_trees.specs.TypedTrees.{TypedExpression, BinaryNode, ConversionNode, FunctionNode, UnaryNode}

-- an operator that is neither AND nor OR
abbrev pub is_plain : BinaryOperator → Bool
is_plain And = false
is_plain Or = false
is_plain operator = true

-- Whether the facts at the end of the code of a condition hold at each of its jumps to the label. Inside NOT
-- and conversions it is not AND or OR, and no other operator that code looks through.
abbrev pub jumps_once : TypedExpression → Bool
jumps_once (ConversionNode scalar inner) = jumps_once inner
jumps_once (UnaryNode scalar Not operand) = jumps_once operand
jumps_once (UnaryNode scalar operator operand) = false
jumps_once (BinaryNode operands operator left right) = is_plain operator
jumps_once (FunctionNode function operand) = false
jumps_once tree = true
