-- The types of typed expressions (PL/M-80 Programming Manual, "Expressions and assignments").
use Rattle.trees.specs.declared.declaration.ScalarType.{ScalarType}
use Rattle.trees.specs.declared.declaration.ScalarType.TheVariants.{Byte, Address}
use Rattle.trees.specs.declared.expression.BinaryOperator.{BinaryOperator}
use Rattle.trees.specs.declared.expression.BinaryOperator.TheVariants.{Equal, Less, Greater, LessOrEqual, GreaterOrEqual, Unequal}
use Rattle.trees.specs.Functions.{type_of_function}
use Rattle.typed_trees.specs.TypedTrees.{TypedExpression, NumberNode, ValueNode, LocationNode, ListNode, ConversionNode, AssignmentNode, UnaryNode, BinaryNode, CallNode, FunctionNode, ShiftNode, InputNode, TypedTarget, StoredIn, SentTo}

-- the type of the value that goes to a target
abbrev pub type_of_target : TypedTarget → ScalarType
type_of_target (StoredIn from to reference) = from
type_of_target (SentTo from port) = from

-- a comparison gives a BYTE, and any other operator what its operands are
abbrev pub type_of_result : BinaryOperator → ScalarType → ScalarType
type_of_result Equal operands = Byte
type_of_result Less operands = Byte
type_of_result Greater operands = Byte
type_of_result LessOrEqual operands = Byte
type_of_result GreaterOrEqual operands = Byte
type_of_result Unequal operands = Byte
type_of_result operator operands = operands

-- the type of an expression, which its first node gives
abbrev pub type_of : TypedExpression → ScalarType
type_of (NumberNode scalar value origin) = scalar
type_of (ValueNode scalar reference) = scalar
type_of (LocationNode reference) = Address
type_of (ListNode list) = Address
type_of (ConversionNode scalar inner) = scalar
type_of (AssignmentNode target value) = type_of_target target
type_of (UnaryNode scalar operator operand) = scalar
type_of (BinaryNode operands operator left right) = type_of_result operator operands
type_of (CallNode procedure scalar values) = scalar
type_of (FunctionNode function operand) = type_of_function function
type_of (ShiftNode scalar function value count) = scalar
type_of (InputNode port) = Byte
