-- The nodes of typed expressions, and the conversions in them (PL/M-80 Programming Manual, "Expressions and
-- assignments").
use Rattle.std.specs.Prelude.{ℕ, List, ◌∷◌}
use Rattle.trees.specs.declared.declaration.ScalarType.{ScalarType}
use Rattle.trees.specs.declared.declaration.ScalarType.TheVariants.{Byte, Address}
use Rattle.trees.specs.declared.expression.BinaryOperator.{BinaryOperator}
use Rattle.trees.specs.declared.expression.BinaryOperator.TheVariants.{Multiply, Divide, Modulo}
use Rattle.typed_trees.specs.declared.parts.ShiftFunction.{ShiftFunction}
use Rattle.typed_trees.specs.declared.parts.ShiftFunction.TheVariants.{RotateLeft, RotateRight}
use Rattle.typed_trees.specs.TypedTrees.{TypedExpression, ConversionNode, BinaryNode, ShiftNode, TypedReference, TypedTarget, StoredIn, SentTo, TypedArguments, MoreArguments}
use Rattle.typed_trees.specs.ExpressionTypes.{type_of}

-- an expression of one type as one of another: itself if they are the same
abbrev pub converted : (to from : ScalarType) → TypedExpression → TypedExpression
converted Byte Byte expression = expression
converted Address Address expression = expression
converted to from expression = ConversionNode to expression

abbrev pub as_type : ScalarType → TypedExpression → TypedExpression
as_type to expression = converted to (type_of expression) expression

-- the type to which two types are extended: BYTE only if both are BYTE
abbrev pub common_type : ScalarType → ScalarType → ScalarType
common_type Byte Byte = Byte
common_type left right = Address

-- the type to which operands are extended: * / and MOD work on ADDRESS, and the others on the common type
abbrev pub type_of_operands : BinaryOperator → ScalarType → ScalarType → ScalarType
type_of_operands Multiply left right = Address
type_of_operands Divide left right = Address
type_of_operands Modulo left right = Address
type_of_operands operator left right = common_type left right

abbrev pub on_operands : ScalarType → BinaryOperator → TypedExpression → TypedExpression → TypedExpression
on_operands operands operator left right =
    BinaryNode operands operator (as_type operands left) (as_type operands right)

abbrev pub binary_node : BinaryOperator → TypedExpression → TypedExpression → TypedExpression
binary_node operator left right =
    on_operands (type_of_operands operator (type_of left) (type_of right)) operator left right

-- a shift preserves the type of the value, and a rotation works on its low byte; the count is its low byte
abbrev pub type_of_shift : ShiftFunction → ScalarType → ScalarType
type_of_shift RotateLeft value = Byte
type_of_shift RotateRight value = Byte
type_of_shift function value = value

abbrev pub shift_to : ScalarType → ShiftFunction → TypedExpression → TypedExpression → TypedExpression
shift_to scalar function value count = ShiftNode scalar function (as_type scalar value) (as_type Byte count)

abbrev pub shift_node : ShiftFunction → TypedExpression → TypedExpression → TypedExpression
shift_node function value count = shift_to (type_of_shift function (type_of value)) function value count

-- arguments as values of these types, one for each
abbrev pub arguments_as : List ScalarType → TypedArguments → TypedArguments
arguments_as (scalar ∷ scalars) (MoreArguments first others) =
    MoreArguments (as_type scalar first) (arguments_as scalars others)
arguments_as scalars arguments = arguments

-- where a value goes, before its type is known
pub data Destination : Type 0 where
  Variable : (scalar : ScalarType) → TypedReference → Destination
  Port : ℕ → Destination

abbrev pub target_of : Destination → (from : ScalarType) → TypedTarget
target_of (Variable scalar reference) from = StoredIn from scalar reference
target_of (Port port) from = SentTo from port
