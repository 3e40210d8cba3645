-- Restricted expressions and what fills objects: what the typing gives of them is what the rules give, and so
-- is the fault.
use Rattle.typing_rules.proofs.Prelude.{◌≡◌, ◌∙◌, ℕ, false, List, [], ◌∷◌, Some, Ok, Err, nat_le, refl, sym, ap, subst, arith, slice_get, leb-true, leb-false, le-leb, lt-leb, ScalarType, Identifier, Place, ConstantTree, NumberConstant, StringConstant, StringTree, Binding, Declared, BuiltInName, UnknownLabel, Object, Procedure, Label, Definition, binding_of, ObjectType, TypedObject, Cause, NoVariable, StringNotNumber, UnknownName, Fault, Checked, ◌>>=◌, number_of_characters, number_of_constant, Known, IsNumber, digits, StandsFor, IsVariable, at_name}
use Rattle.std.specs.Prelude.{nat_lt}
use Rattle.std.proofs.lemmas.Bool.{ltb-true, ltb-false, lt-ltb}
use Rattle.trees.specs.declared.declaration.ScalarType.TheVariants.{Byte, Address}
use Rattle.trees.specs.Trees.{OriginTree, ConstantOrigin, LocationOrigin, OffsetTree, RestrictedTree}
use Rattle.typed_trees.specs.TypedTrees.{Home, InData, InConstants, Placed, BasedOn, Elsewhere, Nowhere, InFrame}
use Rattle.typed_trees.specs.Sizes.{scalars_of_element, scalars_of_elements}
use Rattle.typing.specs.declared.fault.Cause.TheVariants.{ImpliedWithoutValues, NotByte, TooManyValues}
use Rattle.typing.specs.Constants.{moved_by}
use Rattle.typing.specs.internal.ConstantChecks.{with_offsets}
use Rattle.typing.specs.Filling.{Reach, ThisModule, OtherModulesToo, RestrictedValue, ANumber, FromObject, Filled, place_of_origin, Extents, NoArray, Elements, AsListed, Contents, enough_elements}
use Rattle.typing.specs.internal.FillingChecks.{with_address, static_bound, restricted_value, fill_scalar, fill_characters, fill_string, fill_value, fill, contents}
use Rattle.typing_rules.specs.Filling.{HasAddress, in_data, in_constants, placed, elsewhere, OffsetsTyping, no_offsets, next_offset, RestrictedTyping, from_number, from_object, FillsScalar, a_byte, a_word, a_location, CharactersFill, no_characters, next_character, StringFills, at_the_end, at_byte, at_an_address, IsNoString, a_number, located, moved, ValueFills, a_string, a_value, ListFills, no_more_values, and_then, used_of, ContentsTyping, of_no_array, of_elements, as_long}
use Rattle.typing_rules.specs.FillingFaults.{NoAddress, in_frame, based, of_other_module, nowhere, NumberFault, string_is_no_number, OffsetsFault, in_first_offset, in_other_offsets, RestrictedFault, in_number, after_number, unknown_origin, origin_is_procedure, origin_is_no_variable, no_address, after_location, ScalarFault, number_for_byte, location_for_byte, no_scalar_left, CharactersFault, no_byte_left, meets_an_address, in_other_characters, StringFault, string_at_the_end, string_at_byte, string_at_an_address, FillFault, in_string, in_restricted, in_scalar, FillsFault, in_first_fill, in_other_fills, ContentsFault, in_no_array, in_elements, in_as_listed, list_holds_nothing}
use Rattle.typing_rules.proofs.Judged.{Judged, judged_ok, judged_fault, then_judged, judged_more, then_when, is_found, then_found, fault_of, then_ok, then_fault, passed, failed, got, got_none}
use Rattle.typing_rules.proofs.ReferencesJudged.{is_no_variable}
use Rattle.typing_rules.proofs.ExpressionsJudged.{string_is_number, string_is_none}
use Rattle.typing_rules.proofs.ExpressionsTyped.{number_is}
use Rattle.typing_rules.proofs.ExpressionsRefused.{is_nothing, NoObject, no_object, no_number_is}

-- constants
pub constant_judged : (constant : ConstantTree)
    → Judged (IsNumber constant) (NumberFault constant) (number_of_constant constant)
constant_judged (NumberConstant number) = judged_ok digits
constant_judged (StringConstant string) =
    is_found (number_of_characters string.characters) StringNotNumber string.place
    (λ none. string_is_no_number (string_is_none string none))
    (λ number some. string_is_number string number string.characters refl some)

constant_fault : {constant : ConstantTree} {fault : Fault} → NumberFault constant fault
    → number_of_constant constant ≡ Err fault
constant_fault (string_is_no_number {string = string} none) =
    got_none _ _ (no_number_is string string.characters none refl)

offsets_judged : (offsets : List OffsetTree) (sum : ℕ)
    → Judged (OffsetsTyping sum offsets) (OffsetsFault offsets) (with_offsets sum offsets)
offsets_judged [] sum = judged_ok no_offsets
offsets_judged (offset ∷ others) sum =
    then_judged (constant_judged offset.constant) (λ fault is. in_first_offset is) (λ number is.
    judged_more (offsets_judged others (moved_by sum offset.sign number))
    (λ fault its. in_other_offsets is its)
    (λ total its. next_offset is its))

offsets_are : {sum total : ℕ} {offsets : List OffsetTree} → OffsetsTyping sum offsets total
    → with_offsets sum offsets ≡ Ok total
offsets_are no_offsets = refl
offsets_are (next_offset is others) = then_ok _ (number_is is) (offsets_are others)

offsets_fault : {offsets : List OffsetTree} {fault : Fault} (sum : ℕ) → OffsetsFault offsets fault
    → with_offsets sum offsets ≡ Err fault
offsets_fault sum (in_first_offset is) = then_fault _ (constant_fault is)
offsets_fault sum (in_other_offsets {offset = offset} {number = number} is others) =
    then_ok _ (number_is is) (offsets_fault (moved_by sum offset.sign number) others)

-- addresses
address_judged : (reach : Reach) (home : Home) (number : ℕ) (place : Place)
    → Judged (λ found. HasAddress reach home × (found ≡ number))
    (λ fault. (cause : Cause) × NoAddress reach home cause × (fault ≡ fault_of cause place))
    (with_address reach home number place)
address_judged reach (InFrame procedure) number place = judged_fault (_, in_frame, refl)
address_judged reach (BasedOn base) number place = judged_fault (_, based, refl)
address_judged ThisModule Elsewhere number place = judged_fault (_, of_other_module, refl)
address_judged OtherModulesToo Elsewhere number place = judged_ok (elsewhere, refl)
address_judged reach Nowhere number place = judged_fault (_, nowhere, refl)
address_judged reach (InData values) number place = judged_ok (in_data, refl)
address_judged reach (InConstants values) number place = judged_ok (in_constants, refl)
address_judged reach (Placed at) number place = judged_ok (placed, refl)

address_is : {reach : Reach} {home : Home} (number : ℕ) (place : Place)
    → HasAddress reach home
    → with_address reach home number place ≡ Ok number
address_is number place in_data = refl
address_is number place in_constants = refl
address_is number place placed = refl
address_is number place elsewhere = refl

address_fault : {reach : Reach} {home : Home} {cause : Cause} (number : ℕ) (place : Place)
    → NoAddress reach home cause
    → with_address reach home number place ≡ Err (fault_of cause place)
address_fault number place in_frame = refl
address_fault number place based = refl
address_fault number place of_other_module = refl
address_fault number place nowhere = refl

-- the object of a location
abbrev ObjectJudged : Reach → Known → Identifier → List OffsetTree → Checked ℕ → Type 0
ObjectJudged reach known name offsets checked =
    Judged (λ number. (object : TypedObject) × IsVariable known name number object
    × HasAddress reach object.home)
    (RestrictedFault reach known (LocationOrigin name) offsets)
    checked

bound_object_judged : (reach : Reach) (known : Known) (name : Identifier)
    (offsets : List OffsetTree) (binding : Binding)
    → StandsFor known name binding
    → ObjectJudged reach known name offsets (static_bound reach known binding name)
bound_object_judged reach known name offsets (Declared (Object number)) named =
    then_found (slice_get known.objects number) NoVariable name.place
    (λ none. origin_is_no_variable (is_no_variable _ named (λ other object e listed. absurd cc))
    (λ other e. absurd cc))
    (λ object listed.
    let is : IsVariable known name number object = record { named = named; listed = listed } in
    judged_more (address_judged reach object.home number name.place)
    (λ fault none. subst (RestrictedFault reach known (LocationOrigin name) offsets) (sym none.2)
    (no_address is none.1))
    (λ found has. (object, subst (λ it. IsVariable known name it object) (sym has.1) is, has.0)))
bound_object_judged reach known name offsets (Declared (Procedure number)) named =
    judged_fault (origin_is_procedure named)
bound_object_judged reach known name offsets (Declared (Label number)) named =
    judged_fault
    (origin_is_no_variable (is_no_variable _ named (λ other object e listed. absurd cc))
    (λ other e. absurd cc))
bound_object_judged reach known name offsets (Declared Definition) named =
    judged_fault
    (origin_is_no_variable (is_no_variable _ named (λ other object e listed. absurd cc))
    (λ other e. absurd cc))
bound_object_judged reach known name offsets (BuiltInName built_in) named =
    judged_fault
    (origin_is_no_variable (is_no_variable _ named (λ other object e listed. absurd cc))
    (λ other e. absurd cc))
bound_object_judged reach known name offsets UnknownLabel named =
    judged_fault
    (origin_is_no_variable (is_no_variable _ named (λ other object e listed. absurd cc))
    (λ other e. absurd cc))

pub restricted_judged : (reach : Reach) (known : Known) (origin : OriginTree) (offsets : List OffsetTree)
    → Judged (RestrictedTyping reach known origin offsets) (RestrictedFault reach known origin offsets)
    (restricted_value reach known origin offsets)
restricted_judged reach known (ConstantOrigin constant) offsets =
    then_judged (constant_judged constant) (λ fault is. in_number is) (λ number is.
    then_judged (offsets_judged offsets number) (λ fault its. after_number is its) (λ total its.
    judged_ok (from_number is its)))
restricted_judged reach known (LocationOrigin name) offsets =
    then_judged
    (then_found (binding_of known.here name.name) UnknownName name.place unknown_origin (λ binding named.
    bound_object_judged reach known name offsets binding named))
    (λ fault is. is) (λ number is.
    then_judged (offsets_judged offsets 0) (λ fault its. after_location is.1 is.2 its) (λ offset its.
    judged_ok (from_object is.1 is.2 its)))

pub restricted_is : {reach : Reach} {known : Known} {origin : OriginTree} {offsets : List OffsetTree}
    {value : RestrictedValue}
    → RestrictedTyping reach known origin offsets value
    → restricted_value reach known origin offsets ≡ Ok value
restricted_is (from_number is offsets) = then_ok _ (number_is is) (then_ok _ (offsets_are offsets) refl)
restricted_is (from_object is has offsets) =
    then_ok _ (then_ok _ (got _ _ is.named) (then_ok _ (got _ _ is.listed) (address_is _ _ has)))
    (then_ok _ (offsets_are offsets) refl)

no_origin_is : (reach : Reach) (known : Known) (name : Identifier) (binding : Binding)
    → NoObject known binding
    → ((number : ℕ) → ¬ (binding ≡ Declared (Procedure number)))
    → static_bound reach known binding name ≡ Err (at_name NoVariable name)
no_origin_is reach known name (Declared (Object number)) none neither =
    then_fault _
    (got_none _ _ (is_nothing (slice_get known.objects number) (λ object e. none number object refl e)))
no_origin_is reach known name (Declared (Procedure number)) none neither = absurd (neither number refl)
no_origin_is reach known name (Declared (Label number)) none neither = refl
no_origin_is reach known name (Declared Definition) none neither = refl
no_origin_is reach known name (BuiltInName built_in) none neither = refl
no_origin_is reach known name UnknownLabel none neither = refl

pub restricted_fault : {reach : Reach} {known : Known} {origin : OriginTree}
    {offsets : List OffsetTree} {fault : Fault}
    → RestrictedFault reach known origin offsets fault
    → restricted_value reach known origin offsets ≡ Err fault
restricted_fault (in_number is) = then_fault _ (constant_fault is)
restricted_fault (after_number {number = number} is offsets) =
    then_ok _ (number_is is) (then_fault _ (offsets_fault number offsets))
restricted_fault (unknown_origin none) = then_fault _ (then_fault _ (got_none _ _ none))
restricted_fault (origin_is_procedure named) = then_fault _ (then_ok _ (got _ _ named) refl)
restricted_fault {reach = reach} {known = known} (origin_is_no_variable {name = name} is neither) =
    then_fault _ (then_ok _ (got _ _ is.named) (no_origin_is reach known name is.binding (no_object is)
    (λ number e. neither number (is.named ∙ ap Some e))))
restricted_fault (no_address {name = name} {number = number} is none) =
    then_fault _
    (then_ok _ (got _ _ is.named) (then_ok _ (got _ _ is.listed) (address_fault number name.place none)))
restricted_fault (after_location is has offsets) =
    then_ok _ (then_ok _ (got _ _ is.named) (then_ok _ (got _ _ is.listed) (address_is _ _ has)))
    (then_fault _ (offsets_fault 0 offsets))

-- scalars
scalar_judged : (place : Place) (scalars : List ScalarType) (value : RestrictedValue)
    → Judged (FillsScalar scalars value) (ScalarFault place scalars value) (fill_scalar place scalars value)
scalar_judged place (Byte ∷ left) (ANumber number) =
    then_when (nat_le number 255) NotByte place (λ over. number_for_byte (leb-false _ _ over)) (λ _ fits.
    judged_ok (a_byte (leb-true _ _ fits)))
scalar_judged place (Address ∷ left) (ANumber number) = judged_ok a_word
scalar_judged place (Address ∷ left) (FromObject object offset) = judged_ok a_location
scalar_judged place (Byte ∷ left) (FromObject object offset) = judged_fault location_for_byte
scalar_judged place [] value = judged_fault no_scalar_left

scalar_is : {scalars : List ScalarType} {value : RestrictedValue} {filled : Filled} (place : Place)
    → FillsScalar scalars value filled
    → fill_scalar place scalars value ≡ Ok filled
scalar_is place (a_byte fits) = then_ok _ (passed _ _ (le-leb _ _ fits)) refl
scalar_is place a_word = refl
scalar_is place a_location = refl

scalar_fault : {place : Place} {scalars : List ScalarType} {value : RestrictedValue} {fault : Fault}
    → ScalarFault place scalars value fault
    → fill_scalar place scalars value ≡ Err fault
scalar_fault (number_for_byte over) = then_fault _ (failed _ _ (lt-leb _ _ over))
scalar_fault location_for_byte = refl
scalar_fault {place = place} (no_scalar_left {value = value}) = none_left place value
  where
    none_left : (place : Place) (value : RestrictedValue)
        → fill_scalar place [] value ≡ Err (fault_of TooManyValues place)
    none_left place (ANumber number) = refl
    none_left place (FromObject object offset) = refl

-- strings
characters_judged : (place : Place) (characters : List ℕ) (scalars : List ScalarType)
    → Judged (CharactersFill characters scalars) (CharactersFault place characters scalars)
    (fill_characters place characters scalars)
characters_judged place [] scalars = judged_ok no_characters
characters_judged place (character ∷ others) (Byte ∷ left) =
    then_judged (characters_judged place others left) (λ fault is. in_other_characters is) (λ filled is.
    judged_ok (next_character is))
characters_judged place (character ∷ others) (Address ∷ left) = judged_fault meets_an_address
characters_judged place (character ∷ others) [] = judged_fault no_byte_left

characters_are : {characters : List ℕ} {scalars : List ScalarType} {filled : Filled} (place : Place)
    → CharactersFill characters scalars filled
    → fill_characters place characters scalars ≡ Ok filled
characters_are place no_characters = refl
characters_are place (next_character is) = then_ok _ (characters_are place is) refl

characters_fault : {place : Place} {characters : List ℕ} {scalars : List ScalarType} {fault : Fault}
    → CharactersFault place characters scalars fault
    → fill_characters place characters scalars ≡ Err fault
characters_fault no_byte_left = refl
characters_fault meets_an_address = refl
characters_fault (in_other_characters is) = then_fault _ (characters_fault is)

string_judged : (string : StringTree) (scalars : List ScalarType)
    → Judged (StringFills string scalars) (StringFault string scalars) (fill_string string scalars)
string_judged string [] =
    judged_more (characters_judged string.place string.characters []) (λ fault is. string_at_the_end is)
    (λ filled is. at_the_end is)
string_judged string (Byte ∷ left) =
    judged_more (characters_judged string.place string.characters (Byte ∷ left))
    (λ fault is. string_at_byte is)
    (λ filled is. at_byte is)
string_judged string (Address ∷ left) =
    then_found (number_of_characters string.characters) StringNotNumber string.place
    (λ none. string_at_an_address (string_is_none string none))
    (λ number some. judged_ok (at_an_address (string_is_number string number string.characters refl some)))

string_is : {string : StringTree} {scalars : List ScalarType} {filled : Filled}
    → StringFills string scalars filled
    → fill_string string scalars ≡ Ok filled
string_is {string = string} (at_the_end is) = characters_are string.place is
string_is {string = string} (at_byte is) = characters_are string.place is
string_is (at_an_address is) = then_ok _ (number_is is) refl

string_fault : {string : StringTree} {scalars : List ScalarType} {fault : Fault}
    → StringFault string scalars fault
    → fill_string string scalars ≡ Err fault
string_fault (string_at_the_end is) = characters_fault is
string_fault (string_at_byte is) = characters_fault is
string_fault {string = string} (string_at_an_address none) =
    then_fault _ (got_none _ _ (no_number_is string string.characters none refl))

-- values
restricted_fill_judged : (known : Known) (scalars : List ScalarType) (origin : OriginTree)
    (offsets : List OffsetTree)
    → IsNoString origin offsets
    → Judged (ValueFills known scalars origin offsets) (FillFault known scalars origin offsets)
    (restricted_value OtherModulesToo known origin offsets
    >>= λ value. fill_scalar (place_of_origin origin) scalars value)
restricted_fill_judged known scalars origin offsets no_string =
    then_judged (restricted_judged OtherModulesToo known origin offsets)
    (λ fault is. in_restricted no_string is) (λ value is.
    judged_more (scalar_judged (place_of_origin origin) scalars value)
    (λ fault its. in_scalar no_string is its)
    (λ filled its. a_value no_string is its))

value_judged : (known : Known) (scalars : List ScalarType) (origin : OriginTree) (offsets : List OffsetTree)
    → Judged (ValueFills known scalars origin offsets) (FillFault known scalars origin offsets)
    (fill_value known scalars origin offsets)
value_judged known scalars (ConstantOrigin (StringConstant string)) [] =
    judged_more (string_judged string scalars) (λ fault is. in_string is) (λ filled is. a_string is)
value_judged known scalars (ConstantOrigin (StringConstant string)) (offset ∷ others) =
    restricted_fill_judged known scalars _ _ moved
value_judged known scalars (ConstantOrigin (NumberConstant number)) offsets =
    restricted_fill_judged known scalars _ _ a_number
value_judged known scalars (LocationOrigin name) offsets = restricted_fill_judged known scalars _ _ located

no_string_is : {origin : OriginTree} {offsets : List OffsetTree} {answer : Checked Filled} (known : Known)
    (scalars : List ScalarType)
    → IsNoString origin offsets
    → (restricted_value OtherModulesToo known origin offsets
    >>= λ value. fill_scalar (place_of_origin origin) scalars value) ≡ answer
    → fill_value known scalars origin offsets ≡ answer
no_string_is known scalars a_number e = e
no_string_is known scalars located e = e
no_string_is known scalars moved e = e

fill_is : {known : Known} {scalars : List ScalarType} {origin : OriginTree}
    {offsets : List OffsetTree} {filled : Filled}
    → ValueFills known scalars origin offsets filled
    → fill_value known scalars origin offsets ≡ Ok filled
fill_is (a_string is) = string_is is
fill_is {known = known} {scalars = scalars} (a_value {origin = origin} no_string is fills) =
    no_string_is known scalars no_string
    (then_ok _ (restricted_is is) (scalar_is (place_of_origin origin) fills))

fill_fault : {known : Known} {scalars : List ScalarType} {origin : OriginTree}
    {offsets : List OffsetTree} {fault : Fault}
    → FillFault known scalars origin offsets fault
    → fill_value known scalars origin offsets ≡ Err fault
fill_fault (in_string is) = string_fault is
fill_fault {known = known} {scalars = scalars} (in_restricted no_string is) =
    no_string_is known scalars no_string (then_fault _ (restricted_fault is))
fill_fault {known = known} {scalars = scalars} (in_scalar no_string is fault) =
    no_string_is known scalars no_string (then_ok _ (restricted_is is) (scalar_fault fault))

fills_judged : (known : Known) (values : List RestrictedTree) (scalars : List ScalarType)
    → Judged (ListFills known values scalars) (FillsFault known values scalars) (fill known values scalars)
fills_judged known [] scalars = judged_ok no_more_values
fills_judged known (restricted ∷ others) scalars =
    then_judged (value_judged known scalars restricted.origin restricted.offsets)
    (λ fault is. in_first_fill is) (λ first is.
    then_judged (fills_judged known others first.left) (λ fault its. in_other_fills is its) (λ rest its.
    judged_ok (and_then is its)))

fills_are : {known : Known} {values : List RestrictedTree} {scalars : List ScalarType} {filled : Filled}
    → ListFills known values scalars filled
    → fill known values scalars ≡ Ok filled
fills_are no_more_values = refl
fills_are (and_then is others) = then_ok _ (fill_is is) (then_ok _ (fills_are others) refl)

fills_fault : {known : Known} {values : List RestrictedTree} {scalars : List ScalarType} {fault : Fault}
    → FillsFault known values scalars fault
    → fill known values scalars ≡ Err fault
fills_fault (in_first_fill is) = then_fault _ (fill_fault is)
fills_fault (in_other_fills is others) = then_ok _ (fill_is is) (then_fault _ (fills_fault others))

-- contents
pub contents_judged : (known : Known) (place : Place) (object_type : ObjectType) (extents : Extents)
    (values : List RestrictedTree)
    → Judged (ContentsTyping known object_type extents values)
    (ContentsFault known place object_type extents values)
    (contents known place object_type extents values)
contents_judged known place object_type NoArray values =
    then_judged (fills_judged known values (scalars_of_element object_type))
    (λ fault is. in_no_array is) (λ filled is.
    judged_ok (of_no_array is))
contents_judged known place object_type (Elements count) values =
    then_judged (fills_judged known values (scalars_of_elements count object_type))
    (λ fault is. in_elements is) (λ filled is.
    judged_ok (of_elements is))
contents_judged known place object_type AsListed values =
    then_judged (fills_judged known values (scalars_of_elements (enough_elements values) object_type))
    (λ fault is. in_as_listed is)
    (λ filled is.
    then_when (nat_lt 0 (used_of values object_type filled)) ImpliedWithoutValues place
    (λ nothing. list_holds_nothing is (omega (arith, ltb-false _ _ nothing))) (λ _ some.
    judged_ok (as_long is (ltb-true _ _ some))))

pub contents_are : {known : Known} {object_type : ObjectType} {extents : Extents}
    {values : List RestrictedTree} {found : Contents}
    (place : Place)
    → ContentsTyping known object_type extents values found
    → contents known place object_type extents values ≡ Ok found
contents_are place (of_no_array is) = then_ok _ (fills_are is) refl
contents_are place (of_elements is) = then_ok _ (fills_are is) refl
contents_are place (as_long is some) =
    then_ok _ (fills_are is) (then_ok _ (passed _ _ (lt-ltb _ _ some)) refl)

not_less : (n : ℕ) → n ≡ 0 → nat_lt 0 n ≡ false
not_less n e = subst (λ it. nat_lt 0 it ≡ false) (sym e) refl

pub contents_fault : {known : Known} {place : Place} {object_type : ObjectType} {extents : Extents}
    {values : List RestrictedTree}
    {fault : Fault}
    → ContentsFault known place object_type extents values fault
    → contents known place object_type extents values ≡ Err fault
contents_fault (in_no_array is) = then_fault _ (fills_fault is)
contents_fault (in_elements is) = then_fault _ (fills_fault is)
contents_fault (in_as_listed is) = then_fault _ (fills_fault is)
contents_fault (list_holds_nothing is nothing) =
    then_ok _ (fills_are is) (then_fault _ (failed _ _ (not_less _ nothing)))
