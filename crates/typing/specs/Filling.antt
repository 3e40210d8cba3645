-- What AT, INITIAL and DATA say of an object: addresses, values, and how much they fill (PL/M-80 Programming Manual,
-- "The AT attribute", "The INITIAL attribute", "The DATA attribute").
use Rattle.std.specs.Prelude.{ℕ, ◌+◌, ◌-◌, ◌/◌, max, List, [], ◌∷◌, length, Option, sum_by}
use Rattle.trees.specs.declared.declaration.ScalarType.{ScalarType}
use Rattle.trees.specs.declared.identifier.Place.{Place}
use Rattle.trees.specs.Trees.{StringConstant, OriginTree, ConstantOrigin, LocationOrigin, RestrictedTree}
use Rattle.typed_trees.specs.declared.parts.AtAddress.TheVariants.{AtNumber, AtObject}
use Rattle.typed_trees.specs.declared.parts.AtAddress.{AtAddress}
use Rattle.typed_trees.specs.declared.parts.InitialValue.{InitialValue}
use Rattle.typing.specs.Constants.{place_of_constant}
use Rattle.typing.specs.References.{place_of}

-- whether the objects of other modules may be located
pub data Reach : Type 0 where
  ThisModule : Reach
  OtherModulesToo : Reach

-- the value of a restricted expression: a number, or a distance from where an object begins
pub data RestrictedValue : Type 0 where
  ANumber : ℕ → RestrictedValue
  FromObject : (object : ℕ) → (offset : ℕ) → RestrictedValue

-- where AT puts an object
abbrev pub address_of : RestrictedValue → AtAddress
address_of (ANumber number) = AtNumber number
address_of (FromObject object offset) = AtObject object offset

-- values that fill the first scalars of some, and the scalars after those
pub record Filled : Type 0 where
  pub values : List InitialValue
  pub left : List ScalarType

abbrev pub filled_with : InitialValue → List ScalarType → Filled
filled_with value left = record { values = value ∷ []; left = left }

abbrev pub and_before : InitialValue → Filled → Filled
and_before value filled = record filled { values = value ∷ filled.values }

abbrev pub place_of_origin : OriginTree → Place
place_of_origin (ConstantOrigin constant) = place_of_constant constant
place_of_origin (LocationOrigin name) = place_of name

-- how many elements an object is declared with: none for one that is not an array, a given number, or as many as
-- its list needs
pub data Extents : Type 0 where
  NoArray : Extents
  Elements : ℕ → Extents
  AsListed : Extents

-- the contents of an object: its dimension and its values
pub record Contents : Type 0 where
  pub dimension : Option ℕ
  pub values : List InitialValue

-- how many scalars a value takes at most
abbrev pub scalars_at_most : OriginTree → ℕ
scalars_at_most (ConstantOrigin (StringConstant string)) = max 1 (length string.characters)
scalars_at_most origin = 1

-- a number of elements with enough scalars for a list
abbrev pub enough_elements : List RestrictedTree → ℕ
enough_elements values = sum_by (λ (restricted : RestrictedTree). scalars_at_most restricted.origin) values

-- the least number of elements of `each` scalars that hold `used` scalars
abbrev pub elements_for : (used each : ℕ) → ℕ
elements_for used each = (used + each - 1) / each
