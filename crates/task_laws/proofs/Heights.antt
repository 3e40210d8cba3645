-- Each expression has some height.
use Rattle.task_laws.proofs.Prelude.{AssignmentNode, BinaryNode, CallNode, ConversionNode, FunctionNode, InputNode, ListNode, LocationNode, NumberNode, PartOf, ShiftNode, TypedExpression, TypedReference, UnaryNode, ValueNode, arith, height_of, height_of_reference, ◌≤◌}

-- an expression has a height
pub some_height : (tree : TypedExpression) → 1 ≤ height_of tree
some_height (NumberNode scalar number origin) = omega arith
some_height (ValueNode scalar (PartOf object one member offset other)) = omega arith
some_height (LocationNode (PartOf object one member offset other)) = omega arith
some_height (ListNode list) = omega arith
some_height (ConversionNode scalar inner) = some_height inner
some_height (AssignmentNode target inner) = omega arith
some_height (UnaryNode scalar operator operand) = omega arith
some_height (BinaryNode operands operator left right) = omega arith
some_height (CallNode procedure scalar given) = omega arith
some_height (FunctionNode function operand) = omega arith
some_height (ShiftNode scalar function moved count) = omega arith
some_height (InputNode port) = omega arith

pub reference_height : (part : TypedReference) → 1 ≤ height_of_reference part
reference_height (PartOf object one member offset two) = omega arith
