-- The numbers that constants are, or the fault of one that is not a number.
use Rattle.std.specs.Prelude.{ℕ, List, [], ◌∷◌, Ok}
use Rattle.trees.specs.Trees.{ConstantTree, NumberConstant, StringConstant, OffsetTree}
use Rattle.typing.specs.declared.fault.Cause.TheVariants.{StringNotNumber}
use Rattle.typing.specs.internal.Checks.{Checked, ◌>>=◌, found}
use Rattle.typing.specs.Constants.{number_of_characters, moved_by}

-- the number that a constant is; a string that is empty or has more than two characters is not a number
abbrev pub number_of_constant : ConstantTree → Checked ℕ
number_of_constant (NumberConstant number) = Ok number.value
number_of_constant (StringConstant string) =
    found (number_of_characters string.characters) StringNotNumber string.place

abbrev pub with_offsets : ℕ → List OffsetTree → Checked ℕ
with_offsets sum [] = Ok sum
with_offsets sum (offset ∷ others) = do
  number ← number_of_constant offset.constant
  with_offsets (moved_by sum offset.sign number) others
