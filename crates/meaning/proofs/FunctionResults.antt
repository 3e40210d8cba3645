-- The results of LOW, HIGH and DOUBLE, by the byte that they take and by their types.
use Rattle.meaning.proofs.Prelude.{◌≡◌, ℕ, ◌%◌, ◌/◌, ◌<◌, refl, arith, Byte, Address, values_of}
use Rattle.trees.specs.declared.functions.ByteOfValue.TheVariants.{LowByte, HighByte}
use Rattle.trees.specs.declared.functions.UnaryFunction.{UnaryFunction}
use Rattle.trees.specs.declared.functions.UnaryFunction.TheVariants.{Low, High, Double}
use Rattle.trees.specs.declared.declaration.ScalarType.{ScalarType}
use Rattle.trees.specs.Functions.{type_of_function}
use Rattle.trees.specs.internal.Functions.{byte_taken}
use Rattle.meaning.specs.Values.{function_of}

-- a function that takes the low byte of its operand keeps it
pub low_byte_kept : (function : UnaryFunction) → byte_taken function ≡ LowByte → (operand : ℕ)
    → function_of function operand % 256 ≡ operand % 256
low_byte_kept Low is operand = omega arith
low_byte_kept High is operand = absurd cc
low_byte_kept Double is operand = refl

-- a function that takes the high byte of its operand gives it
pub high_byte_given : (function : UnaryFunction) → byte_taken function ≡ HighByte → (operand : ℕ)
    → function_of function operand ≡ operand / 256
high_byte_given Low is operand = absurd cc
high_byte_given High is operand = refl
high_byte_given Double is operand = absurd cc

-- a function that gives an ADDRESS gives its operand
pub operand_given : (function : UnaryFunction) → type_of_function function ≡ Address → (operand : ℕ)
    → function_of function operand ≡ operand
operand_given Low is operand = absurd cc
operand_given High is operand = absurd cc
operand_given Double is operand = refl

-- the result for an operand of its type is of the type of the result
pub function_fits : (function : UnaryFunction) (of : ScalarType) (operand : ℕ) → operand < values_of of
    → function_of function operand < values_of (type_of_function function)
function_fits Low of operand small = omega arith
function_fits High Byte operand small = omega (arith, small)
function_fits High Address operand small = omega (arith, small)
function_fits Double Byte operand small = omega (arith, small)
function_fits Double Address operand small = small
