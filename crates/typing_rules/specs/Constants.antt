-- Which numbers constants stand for (PL/M-80 Programming Manual, "Constants").
use Rattle.std.specs.Prelude.{◌≡◌, ℕ, ◌+◌, ◌*◌, ◌≤◌, [], ◌∷◌}
use Rattle.trees.specs.declared.identifier.Number.{Number}
use Rattle.trees.specs.Trees.{StringTree, ConstantTree, NumberConstant, StringConstant, ConstantLeaf, ArgumentTrees, NoArguments, MoreArguments}

-- a number, or a string of one or two characters, the first one high
pub data IsNumber : ConstantTree → ℕ → Type 0 where
  digits : {number : Number} → IsNumber (NumberConstant number) number.value
  one_character : {string : StringTree} {character : ℕ}
      → string.characters ≡ character ∷ []
      → IsNumber (StringConstant string) character
  two_characters : {string : StringTree} {high low : ℕ}
      → string.characters ≡ high ∷ low ∷ []
      → IsNumber (StringConstant string) (256 * high + low)

-- the argument of INPUT or OUTPUT: a number up to 255, or a string of one character, which stands there alone
pub data IsPort : ArgumentTrees → ℕ → Type 0 where
  port_number : {number : Number}
      → number.value ≤ 255
      → IsPort (MoreArguments (ConstantLeaf (NumberConstant number)) NoArguments) number.value
  port_character : {string : StringTree} {character : ℕ}
      → string.characters ≡ character ∷ []
      → character ≤ 255
      → IsPort (MoreArguments (ConstantLeaf (StringConstant string)) NoArguments) character
