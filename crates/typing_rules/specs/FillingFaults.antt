-- Which faults restricted expressions have, and what INITIAL and DATA fill an object with: a rule for each cause.
use Rattle.std.specs.Prelude.{◌≡◌, ℕ, ◌<◌, List, [], ◌∷◌}
use Rattle.trees.specs.declared.declaration.ScalarType.{ScalarType}
use Rattle.trees.specs.declared.declaration.ScalarType.TheVariants.{Byte, Address}
use Rattle.trees.specs.declared.identifier.Identifier.{Identifier}
use Rattle.trees.specs.declared.identifier.Place.{Place}
use Rattle.trees.specs.Trees.{StringTree, ConstantTree, StringConstant, OriginTree, ConstantOrigin, LocationOrigin, OffsetTree, RestrictedTree}
use Rattle.names.specs.declared.entity.Binding.TheVariants.{Declared}
use Rattle.names.specs.declared.entity.Entity.TheVariants.{Procedure}
use Rattle.typed_trees.specs.TypedTrees.{ObjectType, Home, BasedOn, Elsewhere, Nowhere, InFrame, TypedObject}
use Rattle.typed_trees.specs.Sizes.{scalars_of_element, scalars_of_elements}
use Rattle.typing.specs.declared.fault.Cause.{Cause}
use Rattle.typing.specs.declared.fault.Cause.TheVariants.{UnknownName, NoVariable, StringNotNumber, ImpliedWithoutValues, NoFixedAddress, NotByte, TooManyValues, NoLocation}
use Rattle.typing.specs.declared.fault.Fault.{Fault}
use Rattle.typing.specs.Filling.{Reach, ThisModule, OtherModulesToo, RestrictedValue, ANumber, FromObject, Filled, place_of_origin, Extents, NoArray, Elements, AsListed, enough_elements}
use Rattle.typing.specs.References.{Known}
use Rattle.typing_rules.specs.Constants.{IsNumber}
use Rattle.typing_rules.specs.ExpressionFaults.{IsNoNumber}
use Rattle.typing_rules.specs.Filling.{HasAddress, RestrictedTyping, IsNoString, ValueFills, ListFills, used_of}
use Rattle.typing_rules.specs.Names.{StandsFor, IsUnknown, IsVariable, IsNoVariable, at_name}

-- C17 and C15: why an object has no address that is known. (No text meets the first rule, since a list or an AT in a
-- REENTRANT procedure is refused before, nor the last one: parameters have neither.)
pub data NoAddress : Reach → Home → Cause → Type 0 where
  in_frame : {reach : Reach} {procedure : ℕ} → NoAddress reach (InFrame procedure) NoLocation
  based : {reach : Reach} {base : ℕ} → NoAddress reach (BasedOn base) NoFixedAddress
  of_other_module : NoAddress ThisModule Elsewhere NoFixedAddress
  nowhere : {reach : Reach} → NoAddress reach Nowhere NoFixedAddress

-- C15
pub data NumberFault : ConstantTree → Fault → Type 0 where
  string_is_no_number : {string : StringTree}
      → IsNoNumber string
      → NumberFault (StringConstant string) (record { cause = StringNotNumber; place = string.place })

pub data OffsetsFault : List OffsetTree → Fault → Type 0 where
  in_first_offset : {offset : OffsetTree} {others : List OffsetTree} {fault : Fault}
      → NumberFault offset.constant fault
      → OffsetsFault (offset ∷ others) fault
  in_other_offsets : {offset : OffsetTree} {others : List OffsetTree} {number : ℕ} {fault : Fault}
      → IsNumber offset.constant number
      → OffsetsFault others fault
      → OffsetsFault (offset ∷ others) fault

pub data RestrictedFault (reach : Reach) (known : Known) : OriginTree → List OffsetTree → Fault → Type 0 where
  in_number : {constant : ConstantTree} {offsets : List OffsetTree} {fault : Fault}
      → NumberFault constant fault
      → RestrictedFault reach known (ConstantOrigin constant) offsets fault
  after_number : {constant : ConstantTree} {offsets : List OffsetTree} {number : ℕ} {fault : Fault}
      → IsNumber constant number
      → OffsetsFault offsets fault
      → RestrictedFault reach known (ConstantOrigin constant) offsets fault
  -- C11
  unknown_origin : {name : Identifier} {offsets : List OffsetTree}
      → IsUnknown known name
      → RestrictedFault reach known (LocationOrigin name) offsets (at_name UnknownName name)
  -- C17
  origin_is_procedure : {name : Identifier} {offsets : List OffsetTree} {number : ℕ}
      → StandsFor known name (Declared (Procedure number))
      → RestrictedFault reach known (LocationOrigin name) offsets (at_name NoLocation name)
  -- C13
  origin_is_no_variable : {name : Identifier} {offsets : List OffsetTree}
      → IsNoVariable known name
      → ((number : ℕ) → ¬ StandsFor known name (Declared (Procedure number)))
      → RestrictedFault reach known (LocationOrigin name) offsets (at_name NoVariable name)
  no_address : {name : Identifier} {offsets : List OffsetTree} {number : ℕ} {object : TypedObject}
      {cause : Cause}
      → IsVariable known name number object
      → NoAddress reach object.home cause
      → RestrictedFault reach known (LocationOrigin name) offsets (at_name cause name)
  after_location : {name : Identifier} {offsets : List OffsetTree} {number : ℕ} {object : TypedObject}
      {fault : Fault}
      → IsVariable known name number object
      → HasAddress reach object.home
      → OffsetsFault offsets fault
      → RestrictedFault reach known (LocationOrigin name) offsets fault

-- C15: a value that its scalar cannot take, or for which there is none
pub data ScalarFault (place : Place) : List ScalarType → RestrictedValue → Fault → Type 0 where
  number_for_byte : {left : List ScalarType} {number : ℕ}
      → 255 < number
      → ScalarFault place (Byte ∷ left) (ANumber number) (record { cause = NotByte; place = place })
  location_for_byte : {left : List ScalarType} {object offset : ℕ}
      → ScalarFault place (Byte ∷ left) (FromObject object offset) (record { cause = NotByte; place = place })
  no_scalar_left :
      {value : RestrictedValue} → ScalarFault place [] value (record { cause = TooManyValues; place = place })

-- C15: a string with more characters than BYTEs are left for it
pub data CharactersFault (place : Place) : List ℕ → List ScalarType → Fault → Type 0 where
  no_byte_left : {character : ℕ} {others : List ℕ}
      → CharactersFault place (character ∷ others) [] (record { cause = TooManyValues; place = place })
  meets_an_address : {character : ℕ} {others : List ℕ} {left : List ScalarType}
      → CharactersFault place (character ∷ others) (Address ∷ left) (record { cause = TooManyValues; place = place })
  in_other_characters : {character : ℕ} {others : List ℕ} {left : List ScalarType} {fault : Fault}
      → CharactersFault place others left fault
      → CharactersFault place (character ∷ others) (Byte ∷ left) fault

pub data StringFault (string : StringTree) : List ScalarType → Fault → Type 0 where
  string_at_the_end : {fault : Fault}
      → CharactersFault string.place string.characters [] fault
      → StringFault string [] fault
  string_at_byte : {left : List ScalarType} {fault : Fault}
      → CharactersFault string.place string.characters (Byte ∷ left) fault
      → StringFault string (Byte ∷ left) fault
  -- C15
  string_at_an_address : {left : List ScalarType}
      → IsNoNumber string
      → StringFault string (Address ∷ left) (record { cause = StringNotNumber; place = string.place })

pub data FillFault (known : Known) (scalars : List ScalarType) : OriginTree → List OffsetTree → Fault → Type 0 where
  in_string : {string : StringTree} {fault : Fault}
      → StringFault string scalars fault
      → FillFault known scalars (ConstantOrigin (StringConstant string)) [] fault
  in_restricted : {origin : OriginTree} {offsets : List OffsetTree} {fault : Fault}
      → IsNoString origin offsets
      → RestrictedFault OtherModulesToo known origin offsets fault
      → FillFault known scalars origin offsets fault
  -- the value is judged by itself first, then whether its scalar takes it
  in_scalar : {origin : OriginTree} {offsets : List OffsetTree} {value : RestrictedValue} {fault : Fault}
      → IsNoString origin offsets
      → RestrictedTyping OtherModulesToo known origin offsets value
      → ScalarFault (place_of_origin origin) scalars value fault
      → FillFault known scalars origin offsets fault

pub data FillsFault (known : Known) : List RestrictedTree → List ScalarType → Fault → Type 0 where
  in_first_fill : {restricted : RestrictedTree} {others : List RestrictedTree} {scalars : List ScalarType}
      {fault : Fault}
      → FillFault known scalars restricted.origin restricted.offsets fault
      → FillsFault known (restricted ∷ others) scalars fault
  in_other_fills : {restricted : RestrictedTree} {others : List RestrictedTree} {scalars : List ScalarType}
      {first : Filled} {fault : Fault}
      → ValueFills known scalars restricted.origin restricted.offsets first
      → FillsFault known others first.left fault
      → FillsFault known (restricted ∷ others) scalars fault

pub data ContentsFault (known : Known) (place : Place) (object_type : ObjectType) :
    Extents → List RestrictedTree → Fault → Type 0 where
  in_no_array : {values : List RestrictedTree} {fault : Fault}
      → FillsFault known values (scalars_of_element object_type) fault
      → ContentsFault known place object_type NoArray values fault
  in_elements : {count : ℕ} {values : List RestrictedTree} {fault : Fault}
      → FillsFault known values (scalars_of_elements count object_type) fault
      → ContentsFault known place object_type (Elements count) values fault
  in_as_listed : {values : List RestrictedTree} {fault : Fault}
      → FillsFault known values (scalars_of_elements (enough_elements values) object_type) fault
      → ContentsFault known place object_type AsListed values fault
  -- C15: `(*)` with a list that holds nothing
  list_holds_nothing : {values : List RestrictedTree} {filled : Filled}
      → ListFills known values (scalars_of_elements (enough_elements values) object_type) filled
      → used_of values object_type filled ≡ 0
      → ContentsFault known place object_type AsListed values (record { cause = ImpliedWithoutValues; place = place })
