-- When restricted expressions are well typed, and what INITIAL and DATA fill an object with (PL/M-80 Programming Manual,
-- "The AT attribute", "The INITIAL attribute", "The DATA attribute").
use Rattle.std.specs.Prelude.{ℕ, ◌-◌, ◌<◌, ◌≤◌, List, [], ◌∷◌, ◌++◌, length, Some, None}
use Rattle.trees.specs.declared.declaration.ScalarType.{ScalarType}
use Rattle.trees.specs.declared.declaration.ScalarType.TheVariants.{Byte, Address}
use Rattle.trees.specs.declared.identifier.Identifier.{Identifier}
use Rattle.trees.specs.declared.identifier.Number.{Number}
use Rattle.trees.specs.Trees.{StringTree, ConstantTree, NumberConstant, StringConstant, OriginTree, ConstantOrigin, LocationOrigin, OffsetTree, RestrictedTree}
use Rattle.typed_trees.specs.declared.parts.AtAddress.{AtAddress}
use Rattle.typed_trees.specs.declared.parts.InitialValue.TheVariants.{ByteValue, WordValue, LocationValue}
use Rattle.typed_trees.specs.declared.parts.InitialValue.{InitialValue}
use Rattle.typed_trees.specs.TypedTrees.{ObjectType, Home, InData, InConstants, Placed, Elsewhere, TypedObject}
use Rattle.typed_trees.specs.Sizes.{scalars_of_element, scalars_of_elements}
use Rattle.typing.specs.Constants.{moved_by}
use Rattle.typing.specs.Filling.{Reach, OtherModulesToo, RestrictedValue, ANumber, FromObject, Filled, filled_with, and_before, Extents, NoArray, Elements, AsListed, Contents, enough_elements, elements_for}
use Rattle.typing.specs.References.{Known}
use Rattle.typing_rules.specs.Constants.{IsNumber}
use Rattle.typing_rules.specs.Names.{IsVariable}

-- An object whose address is known before the program runs: one with a place of its own or, in INITIAL and DATA, one of
-- another module.
pub data HasAddress : Reach → Home → Type 0 where
  in_data : {reach : Reach} {values : List InitialValue} → HasAddress reach (InData values)
  in_constants : {reach : Reach} {values : List InitialValue} → HasAddress reach (InConstants values)
  placed : {reach : Reach} {at : AtAddress} → HasAddress reach (Placed at)
  elsewhere : HasAddress OtherModulesToo Elsewhere

-- numbers added to a sum and subtracted from it, from the left
pub data OffsetsTyping : ℕ → List OffsetTree → ℕ → Type 0 where
  no_offsets : {sum : ℕ} → OffsetsTyping sum [] sum
  next_offset : {sum number total : ℕ} {offset : OffsetTree} {others : List OffsetTree}
      → IsNumber offset.constant number
      → OffsetsTyping (moved_by sum offset.sign number) others total
      → OffsetsTyping sum (offset ∷ others) total

-- a restricted expression: constants, or the location of an object with constants after it
pub data RestrictedTyping (reach : Reach) (known : Known) : OriginTree → List OffsetTree → RestrictedValue → Type 0 where
  from_number : {constant : ConstantTree} {offsets : List OffsetTree} {number total : ℕ}
      → IsNumber constant number
      → OffsetsTyping number offsets total
      → RestrictedTyping reach known (ConstantOrigin constant) offsets (ANumber total)
  from_object : {name : Identifier} {offsets : List OffsetTree} {number offset : ℕ} {object : TypedObject}
      → IsVariable known name number object
      → HasAddress reach object.home
      → OffsetsTyping 0 offsets offset
      → RestrictedTyping reach known (LocationOrigin name) offsets (FromObject number offset)

-- a value at the first of some scalars: a number up to 255 at a BYTE, any at an ADDRESS, a location at an ADDRESS
pub data FillsScalar : List ScalarType → RestrictedValue → Filled → Type 0 where
  a_byte : {left : List ScalarType} {number : ℕ}
      → number ≤ 255
      → FillsScalar (Byte ∷ left) (ANumber number) (filled_with (ByteValue number) left)
  a_word : {left : List ScalarType} {number : ℕ}
      → FillsScalar (Address ∷ left) (ANumber number) (filled_with (WordValue number) left)
  a_location : {left : List ScalarType} {object offset : ℕ}
      → FillsScalar (Address ∷ left) (FromObject object offset) (filled_with (LocationValue object offset) left)

-- the characters of a string, a BYTE each
pub data CharactersFill : List ℕ → List ScalarType → Filled → Type 0 where
  no_characters :
      {scalars : List ScalarType} → CharactersFill [] scalars (record { values = []; left = scalars })
  next_character : {character : ℕ} {others : List ℕ} {left : List ScalarType} {filled : Filled}
      → CharactersFill others left filled
      → CharactersFill (character ∷ others) (Byte ∷ left) (and_before (ByteValue character) filled)

-- a string that stands alone: one that begins at an ADDRESS fills it as a number, any other fills a BYTE with each character
pub data StringFills (string : StringTree) : List ScalarType → Filled → Type 0 where
  at_the_end : {filled : Filled} → CharactersFill string.characters [] filled → StringFills string [] filled
  at_byte : {left : List ScalarType} {filled : Filled}
      → CharactersFill string.characters (Byte ∷ left) filled
      → StringFills string (Byte ∷ left) filled
  at_an_address : {left : List ScalarType} {number : ℕ}
      → IsNumber (StringConstant string) number
      → StringFills string (Address ∷ left) (filled_with (WordValue number) left)

-- what is not a string that stands alone
pub data IsNoString : OriginTree → List OffsetTree → Type 0 where
  a_number : {number : Number} {offsets : List OffsetTree}
      → IsNoString (ConstantOrigin (NumberConstant number)) offsets
  located : {name : Identifier} {offsets : List OffsetTree} → IsNoString (LocationOrigin name) offsets
  moved : {string : StringTree} {offset : OffsetTree} {others : List OffsetTree}
      → IsNoString (ConstantOrigin (StringConstant string)) (offset ∷ others)

-- a value of INITIAL or DATA
pub data ValueFills (known : Known) (scalars : List ScalarType) : OriginTree → List OffsetTree → Filled → Type 0 where
  a_string : {string : StringTree} {filled : Filled}
      → StringFills string scalars filled
      → ValueFills known scalars (ConstantOrigin (StringConstant string)) [] filled
  a_value : {origin : OriginTree} {offsets : List OffsetTree} {value : RestrictedValue} {filled : Filled}
      → IsNoString origin offsets
      → RestrictedTyping OtherModulesToo known origin offsets value
      → FillsScalar scalars value filled
      → ValueFills known scalars origin offsets filled

-- the values of a list, which fill scalars from the first on
pub data ListFills (known : Known) : List RestrictedTree → List ScalarType → Filled → Type 0 where
  no_more_values :
      {scalars : List ScalarType} → ListFills known [] scalars (record { values = []; left = scalars })
  and_then : {restricted : RestrictedTree} {others : List RestrictedTree} {scalars : List ScalarType}
      {first rest : Filled}
      → ValueFills known scalars restricted.origin restricted.offsets first
      → ListFills known others first.left rest
      → ListFills known (restricted ∷ others) scalars (record { values = first.values ++ rest.values; left = rest.left })

-- how many scalars a list has filled
abbrev pub used_of : List RestrictedTree → ObjectType → Filled → ℕ
used_of values object_type filled =
    length (scalars_of_elements (enough_elements values) object_type) - length filled.left

-- The dimension and the contents of an object. One that is as long as its list has the least number of elements that hold
-- the list, which fills one scalar at least.
pub data ContentsTyping (known : Known) (object_type : ObjectType) : Extents → List RestrictedTree → Contents → Type 0 where
  of_no_array : {values : List RestrictedTree} {filled : Filled}
      → ListFills known values (scalars_of_element object_type) filled
      → ContentsTyping known object_type NoArray values (record { dimension = None; values = filled.values })
  of_elements : {count : ℕ} {values : List RestrictedTree} {filled : Filled}
      → ListFills known values (scalars_of_elements count object_type) filled
      → ContentsTyping known object_type (Elements count) values (record { dimension = Some count; values = filled.values })
  as_long : {values : List RestrictedTree} {filled : Filled}
      → ListFills known values (scalars_of_elements (enough_elements values) object_type) filled
      → 0 < used_of values object_type filled
      → ContentsTyping known object_type AsListed values (record {
        dimension = Some (elements_for (used_of values object_type filled) (length (scalars_of_element object_type)));
        values = filled.values;
      })
