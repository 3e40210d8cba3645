-- The values of restricted expressions, and what INITIAL and DATA fill, by functions.
use Rattle.std.specs.Prelude.{ℕ, ◌-◌, List, [], ◌∷◌, ◌++◌, length, Some, None, Ok, nat_le, nat_lt}
use Rattle.trees.specs.declared.declaration.ScalarType.{ScalarType}
use Rattle.trees.specs.declared.declaration.ScalarType.TheVariants.{Byte, Address}
use Rattle.trees.specs.declared.identifier.Identifier.{Identifier}
use Rattle.trees.specs.declared.identifier.Place.{Place}
use Rattle.trees.specs.Trees.{StringTree, StringConstant, OriginTree, ConstantOrigin, LocationOrigin, OffsetTree, RestrictedTree}
use Rattle.names.specs.declared.entity.Binding.{Binding}
use Rattle.names.specs.declared.entity.Binding.TheVariants.{Declared}
use Rattle.names.specs.declared.entity.Entity.TheVariants.{Object, Procedure}
use Rattle.typing.specs.declared.fault.Cause.TheVariants.{NoVariable, StringNotNumber, ImpliedWithoutValues, NoFixedAddress, NotByte, TooManyValues, NoLocation}
use Rattle.typed_trees.specs.declared.parts.AtAddress.{AtAddress}
use Rattle.typed_trees.specs.declared.parts.InitialValue.TheVariants.{ByteValue, WordValue, LocationValue}
use Rattle.typed_trees.specs.declared.parts.InitialValue.{InitialValue}
use Rattle.typed_trees.specs.TypedTrees.{ObjectType, Home, BasedOn, Elsewhere, Nowhere, InFrame}
use Rattle.typed_trees.specs.Sizes.{scalars_of_element, scalars_of_elements}
use Rattle.typing.specs.internal.Checks.{Checked, ◌>>=◌, refuse, require, found}
use Rattle.typing.specs.Constants.{number_of_characters}
use Rattle.typing.specs.internal.ConstantChecks.{number_of_constant, with_offsets}
use Rattle.typing.specs.References.{Known, place_of}
use Rattle.typing.specs.internal.ReferenceChecks.{bound, object_of}
use Rattle.typing.specs.Filling.{Reach, OtherModulesToo, ThisModule, RestrictedValue, ANumber, FromObject, address_of, Filled, filled_with, and_before, place_of_origin, Extents, NoArray, Elements, AsListed, Contents, enough_elements, elements_for}

-- An object whose address is known before the program runs: one with a place of its own, or, if that is
-- allowed, one of another module. The variables of a REENTRANT procedure have no location.
abbrev pub with_address : Reach → Home → (number : ℕ) (place : Place) → Checked ℕ
with_address reach (InFrame procedure) number place = refuse NoLocation place
with_address reach (BasedOn base) number place = refuse NoFixedAddress place
with_address ThisModule Elsewhere number place = refuse NoFixedAddress place
with_address OtherModulesToo Elsewhere number place = Ok number
with_address reach Nowhere number place = refuse NoFixedAddress place
with_address reach home number place = Ok number

abbrev pub static_bound : Reach → Known → Binding → Identifier → Checked ℕ
static_bound reach known (Declared (Object number)) name = do
  object ← object_of known name number
  with_address reach object.home number (place_of name)
static_bound reach known (Declared (Procedure number)) name = refuse NoLocation (place_of name)
static_bound reach known binding name = refuse NoVariable (place_of name)

abbrev pub static_object : Reach → Known → Identifier → Checked ℕ
static_object reach known name = do
  binding ← bound known name
  static_bound reach known binding name

abbrev pub restricted_value : Reach → Known → OriginTree → List OffsetTree → Checked RestrictedValue
restricted_value reach known (ConstantOrigin constant) offsets = do
  number ← number_of_constant constant
  sum ← with_offsets number offsets
  Ok (ANumber sum)
restricted_value reach known (LocationOrigin name) offsets = do
  object ← static_object reach known name
  offset ← with_offsets 0 offsets
  Ok (FromObject object offset)

abbrev pub at_address : Known → RestrictedTree → Checked AtAddress
at_address known restricted = do
  value ← restricted_value ThisModule known restricted.origin restricted.offsets
  Ok (address_of value)

-- A value takes one scalar. A BYTE takes a number up to 255, and no location; an ADDRESS takes any value.
abbrev pub fill_scalar : (place : Place) → List ScalarType → RestrictedValue → Checked Filled
fill_scalar place (Byte ∷ left) (ANumber number) = do
  _ ← require (nat_le number 255) NotByte place
  Ok (filled_with (ByteValue number) left)
fill_scalar place (Address ∷ left) (ANumber number) = Ok (filled_with (WordValue number) left)
fill_scalar place (Address ∷ left) (FromObject object offset) =
    Ok (filled_with (LocationValue object offset) left)
fill_scalar place (Byte ∷ left) (FromObject object offset) = refuse NotByte place
fill_scalar place [] restricted = refuse TooManyValues place

-- the characters of a string take a BYTE each
abbrev pub fill_characters : (place : Place) → List ℕ → List ScalarType → Checked Filled
fill_characters place [] scalars = Ok (record { values = []; left = scalars })
fill_characters place (character ∷ others) (Byte ∷ left) = do
  filled ← fill_characters place others left
  Ok (and_before (ByteValue character) filled)
fill_characters place characters scalars = refuse TooManyValues place

-- A string that stands alone and begins at a BYTE fills one BYTE a character; at an ADDRESS it is one number. If
-- nothing is left to fill, only the empty string is allowed.
abbrev pub fill_string : StringTree → List ScalarType → Checked Filled
fill_string string [] = fill_characters string.place string.characters []
fill_string string (Byte ∷ left) = fill_characters string.place string.characters (Byte ∷ left)
fill_string string (Address ∷ left) = do
  number ← found (number_of_characters string.characters) StringNotNumber string.place
  Ok (filled_with (WordValue number) left)

abbrev pub fill_value : Known → List ScalarType → OriginTree → List OffsetTree → Checked Filled
fill_value known scalars (ConstantOrigin (StringConstant string)) [] = fill_string string scalars
fill_value known scalars origin offsets = do
  value ← restricted_value OtherModulesToo known origin offsets
  fill_scalar (place_of_origin origin) scalars value

-- the values of a list fill scalars from the first on
abbrev pub fill : Known → List RestrictedTree → List ScalarType → Checked Filled
fill known [] scalars = Ok (record { values = []; left = scalars })
fill known (restricted ∷ others) scalars = do
  first ← fill_value known scalars restricted.origin restricted.offsets
  rest ← fill known others first.left
  Ok (record { values = first.values ++ rest.values; left = rest.left })

-- an array that is as long as its list, which is not empty
abbrev pub contents_as_listed : (place : Place) → (used each : ℕ) → List InitialValue → Checked Contents
contents_as_listed place used each values = do
  _ ← require (nat_lt 0 used) ImpliedWithoutValues place
  Ok (record { dimension = Some (elements_for used each); values = values })

-- an object with these extents, filled by a list
abbrev pub contents : Known → (place : Place) → ObjectType → Extents → List RestrictedTree → Checked Contents
contents known place object_type NoArray values = do
  filled ← fill known values (scalars_of_element object_type)
  Ok (record { dimension = None; values = filled.values })
contents known place object_type (Elements count) values = do
  filled ← fill known values (scalars_of_elements count object_type)
  Ok (record { dimension = Some count; values = filled.values })
contents known place object_type AsListed values = do
  filled ← fill known values (scalars_of_elements (enough_elements values) object_type)
  contents_as_listed place
      (length (scalars_of_elements (enough_elements values) object_type) - length filled.left)
      (length (scalars_of_element object_type))
      filled.values
