-- The results of operators and built-in functions (PL/M-80 Programming Manual, "Expressions and assignments" and
-- "Built-in procedures"). All values are numbers from 0 on.
use Rattle.std.specs.Prelude.{ℕ, ◌+◌, ◌-◌, ◌*◌, ◌/◌, ◌%◌, ◌^◌, ◌==◌, Bool, not, nat_le, nat_lt, Option, Some, None, if◌then◌else◌, bit_and, bit_or, bit_xor}
use Rattle.trees.specs.declared.declaration.ScalarType.{ScalarType}
use Rattle.trees.specs.declared.declaration.ScalarType.TheVariants.{Byte, Address}
use Rattle.trees.specs.declared.expression.BinaryOperator.{BinaryOperator}
use Rattle.trees.specs.declared.expression.BinaryOperator.TheVariants.{Or, Xor, And, Equal, Less, Greater, LessOrEqual, GreaterOrEqual, Unequal, Add, Subtract, Multiply, Divide, Modulo}
use Rattle.trees.specs.declared.expression.UnaryOperator.{UnaryOperator}
use Rattle.trees.specs.declared.expression.UnaryOperator.TheVariants.{Not, Negate}
use Rattle.typed_trees.specs.declared.parts.ShiftFunction.{ShiftFunction}
use Rattle.typed_trees.specs.declared.parts.ShiftFunction.TheVariants.{ShiftLeft, ShiftRight, RotateLeft, RotateRight}
use Rattle.trees.specs.declared.functions.UnaryFunction.{UnaryFunction}
use Rattle.trees.specs.declared.functions.UnaryFunction.TheVariants.{Low, High, Double}

-- how many values a type has
abbrev pub values_of : ScalarType → ℕ
values_of Byte = 256
values_of Address = 65536

-- a value as one of a type: of an ADDRESS that becomes a BYTE the low byte stays
abbrev pub as_type : ScalarType → ℕ → ℕ
as_type scalar number = number % values_of scalar

-- a condition is true if its lowest bit is 1
abbrev pub is_true : ℕ → Bool
is_true number = number % 2 == 1

-- the result of a comparison
abbrev pub truth : Bool → ℕ
truth holds = if holds then 255 else 0

-- the result of an operator on operands of a type, or None: there is no quotient and no remainder by 0
abbrev pub result_of : ScalarType → BinaryOperator → (left right : ℕ) → Option ℕ
result_of operands Or left right = Some (bit_or left right)
result_of operands Xor left right = Some (bit_xor left right)
result_of operands And left right = Some (bit_and left right)
result_of operands Equal left right = Some (truth (left == right))
result_of operands Less left right = Some (truth (nat_lt left right))
result_of operands Greater left right = Some (truth (nat_lt right left))
result_of operands LessOrEqual left right = Some (truth (nat_le left right))
result_of operands GreaterOrEqual left right = Some (truth (nat_le right left))
result_of operands Unequal left right = Some (truth (not (left == right)))
result_of operands Add left right = Some ((left + right) % values_of operands)
result_of operands Subtract left right = Some ((left + (values_of operands - right)) % values_of operands)
result_of operands Multiply left right = Some ((left * right) % values_of operands)
result_of operands Divide left right = if right == 0 then None else Some (left / right)
result_of operands Modulo left right = if right == 0 then None else Some (left % right)

-- NOT changes each bit of the type, and `-` takes from 0
abbrev pub result_of_one : ScalarType → UnaryOperator → ℕ → ℕ
result_of_one scalar Not operand = (values_of scalar - 1) - operand
result_of_one scalar Negate operand = (values_of scalar - operand) % values_of scalar

-- LOW is the low byte, HIGH the high byte (0 of a BYTE), and DOUBLE the value itself, as an ADDRESS
abbrev pub function_of : UnaryFunction → ℕ → ℕ
function_of Low operand = operand % 256
function_of High operand = operand / 256
function_of Double operand = operand

-- a byte turned to the left by a count below 8
abbrev pub turned : (byte count : ℕ) → ℕ
turned byte count = (byte * 2 ^ count) % 256 + byte * 2 ^ count / 256

-- a value of a type shifted, which is 0 by as many bits as it has or more; the low byte turned
abbrev pub shifted : ScalarType → ShiftFunction → (number count : ℕ) → ℕ
shifted scalar ShiftLeft number count = (number * 2 ^ count) % values_of scalar
shifted scalar ShiftRight number count = number / 2 ^ count
shifted scalar RotateLeft number count = turned (number % 256) (count % 8)
shifted scalar RotateRight number count = turned (number % 256) ((8 - count % 8) % 8)
