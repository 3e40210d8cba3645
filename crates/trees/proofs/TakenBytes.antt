-- The bytes of the results of LOW, HIGH and DOUBLE.
use Rattle.std.proofs.Common.{◌≡◌, ◌⊎◌, inl, inr, refl}
use Rattle.trees.specs.declared.declaration.ScalarType.TheVariants.{Address, Byte}
use Rattle.trees.specs.declared.functions.ByteOfValue.{ByteOfValue}
use Rattle.trees.specs.declared.functions.ByteOfValue.TheVariants.{LowByte, HighByte}
use Rattle.trees.specs.declared.functions.UnaryFunction.{UnaryFunction}
use Rattle.trees.specs.declared.functions.UnaryFunction.TheVariants.{Low, High, Double}
use Rattle.trees.specs.Functions.{type_of_function}
use Rattle.trees.specs.internal.Functions.{byte_taken, for_byte}

-- a function takes one of two bytes
pub taken : (function : UnaryFunction)
    → (byte_taken function ≡ LowByte) ⊎ (byte_taken function ≡ HighByte)
taken function = by (byte_taken function) refl
  where
    by : (byte : ByteOfValue) → byte_taken function ≡ byte
        → (byte_taken function ≡ LowByte) ⊎ (byte_taken function ≡ HighByte)
    by LowByte is = inl is
    by HighByte is = inr is

-- what holds of the one for each byte
pub by_byte : {A : Type 0} (P : A → Type 0) (byte : ByteOfValue) (low high : A)
    → (byte ≡ LowByte → P low)
    → (byte ≡ HighByte → P high)
    → P (for_byte byte low high)
by_byte P LowByte low high one other = one refl
by_byte P HighByte low high one other = other refl

-- a function that takes the high byte gives a BYTE
pub high_is_byte : (function : UnaryFunction) → byte_taken function ≡ HighByte
    → type_of_function function ≡ Byte
high_is_byte Low is = refl
high_is_byte High is = refl
high_is_byte Double is = absurd cc

-- a function that gives an ADDRESS takes the low byte
pub address_takes_low : (function : UnaryFunction) → type_of_function function ≡ Address
    → byte_taken function ≡ LowByte
address_takes_low Low is = refl
address_takes_low High is = absurd cc
address_takes_low Double is = refl
