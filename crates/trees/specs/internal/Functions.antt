-- The bytes of the results of LOW, HIGH and DOUBLE.
use Rattle.trees.specs.declared.functions.ByteOfValue.{ByteOfValue}
use Rattle.trees.specs.declared.functions.ByteOfValue.TheVariants.{LowByte, HighByte}
use Rattle.trees.specs.declared.functions.UnaryFunction.{UnaryFunction}
use Rattle.trees.specs.declared.functions.UnaryFunction.TheVariants.{Low, High, Double}

-- the byte of its operand that is the low byte of the result of a function
abbrev pub byte_taken : UnaryFunction → ByteOfValue
byte_taken Low = LowByte
byte_taken High = HighByte
byte_taken Double = LowByte

-- one of two: the first for the low byte of a value, the second for the high byte
abbrev pub for_byte : {A : Type 0} → ByteOfValue → (low high : A) → A
for_byte LowByte low high = low
for_byte HighByte low high = high
