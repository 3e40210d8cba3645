-- Constants, the numbers that they stand for, and the lists of them (PL/M-80 Programming Manual, "Constants").
use Rattle.std.specs.Prelude.{ℕ, ◌+◌, ◌-◌, ◌*◌, ◌/◌, ◌%◌, List, [], ◌∷◌, Option, Some, None, nat_le, if◌then◌else◌, flat_map, ◌++◌, length}
use Rattle.trees.specs.declared.declaration.ScalarType.{ScalarType}
use Rattle.trees.specs.declared.declaration.ScalarType.TheVariants.{Byte, Address}
use Rattle.trees.specs.declared.declaration.Sign.{Sign}
use Rattle.trees.specs.declared.declaration.Sign.TheVariants.{Plus, Minus}
use Rattle.trees.specs.declared.identifier.Place.{Place}
use Rattle.trees.specs.Trees.{ConstantTree, NumberConstant, StringConstant}
use Rattle.typed_trees.specs.declared.parts.ConstantItem.TheVariants.{ConstantList}
use Rattle.typed_trees.specs.declared.parts.NumberOrigin.TheVariants.{FromDigits, FromString}
use Rattle.typed_trees.specs.declared.parts.NumberOrigin.{NumberOrigin}
use Rattle.typed_trees.specs.TypedTrees.{Constants}

-- a number up to 255 is a BYTE, and a greater one an ADDRESS
abbrev pub type_of_number : ℕ → ScalarType
type_of_number value = if nat_le value 255 then Byte else Address

-- the number that a string of one or two characters stands for, the first character high
abbrev pub number_of_characters : List ℕ → Option ℕ
number_of_characters (character ∷ []) = Some character
number_of_characters (high ∷ low ∷ []) = Some (256 * high + low)
number_of_characters characters = None

-- the place of a constant
abbrev pub place_of_constant : ConstantTree → Place
place_of_constant (NumberConstant number) = number.place
place_of_constant (StringConstant string) = string.place

-- constants added to a number and subtracted from it, from the left, modulo 65536
abbrev pub moved_by : ℕ → Sign → ℕ → ℕ
moved_by sum Plus number = (sum + number) % 65536
moved_by sum Minus number = (sum + (65536 - number)) % 65536

-- the bytes of a constant in a list `.(..)`: one up to 255, else two, the low one first; a string gives its
-- characters
abbrev pub bytes_of_number : ℕ → List ℕ
bytes_of_number number = if nat_le number 255 then number ∷ [] else number % 256 ∷ number / 256 ∷ []

abbrev pub bytes_of_constant : ConstantTree → List ℕ
bytes_of_constant (NumberConstant number) = bytes_of_number number.value
bytes_of_constant (StringConstant string) = string.characters

abbrev pub bytes_of_constants : List ConstantTree → List ℕ
bytes_of_constants constants = flat_map bytes_of_constant constants

-- a number, or a string that stands for one
abbrev pub origin_of : ConstantTree → NumberOrigin
origin_of (NumberConstant number) = FromDigits
origin_of (StringConstant string) = FromString

-- a constant list gets the next number and is added after the constants so far
abbrev pub with_list : List ConstantTree → Constants → Constants
with_list list constants = record {
  lists = constants.lists ++ bytes_of_constants list ∷ [];
  items = constants.items ++ ConstantList (length constants.lists) ∷ [];
}
