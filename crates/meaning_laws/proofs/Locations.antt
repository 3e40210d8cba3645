-- What INITIAL and DATA locate is an object of the table that is not BASED, in a frame or nowhere.
use Rattle.meaning_laws.proofs.Prelude.{◌≡◌, ℕ, ◌-◌, Bool, true, false, List, [], ◌∷◌, length, slice_get, Option, Some, None, IsSomeAnd, nat_le, nat_lt, refl, sym, subst, cond, All, is_none, is_some, ◌&&◌, option_map_or, All-append, All-cons, All-nil, All-weaker, ScalarType, Byte, Address, Identifier, WordPlace, StringTree, StringConstant, OriginTree, ConstantOrigin, LocationOrigin, OffsetTree, RestrictedTree, ValueListTree, ItemTree, Binding, Declared, Object, Procedure, AtAddress, ByteValue, WordValue, LocationValue, InitialValue, scalars_of_element, scalars_of_elements, ObjectType, Home, InData, InConstants, Placed, BasedOn, Elsewhere, Nowhere, InFrame, TypedObject, values_in, NoVariable, MisplacedValues, StringNotNumber, NotByte, Block, Owner, OfProcedure, TheModule, is_external_linkage, ◌>>=◌, found, require, number_of_characters, number_of_constant, with_offsets, OtherModulesToo, with_address, static_bound, static_object, RestrictedValue, ANumber, FromObject, restricted_value, Filled, fill_scalar, fill_characters, fill_string, place_of_origin, fill_value, fill, Extents, NoArray, Elements, AsListed, Contents, enough_elements, contents, TypedItem, base_of, check_linkage, extents_of, home_with_values, is_data, is_plain, place_of_item, place_of_storage, typed_at, typed_base, typed_contents, typed_item, typed_type, Known, bound, place_of_word, Gives, gives_after, gives_fault, gives_ok, in_turn, is_found, required, then_more, HasAddress, LocatesObject}
use Rattle.typing.specs.Items.{home_in, home_of}
use Rattle.typing.proofs.Tables.{Keeps}

-- an object of the table that may be located
abbrev MayBeLocated : (objects : List TypedObject) → (number : ℕ) → Type 0
MayBeLocated objects number =
    IsSomeAnd (slice_get objects number) (λ (found : TypedObject). HasAddress found.home)

address_is : (home : Home) (number : ℕ) (place : WordPlace)
    → Gives (λ found. (found ≡ number) × HasAddress home) (with_address OtherModulesToo home number place)
address_is (InData values) number place = gives_ok (refl, tt)
address_is (InConstants values) number place = gives_ok (refl, tt)
address_is (Placed address) number place = gives_ok (refl, tt)
address_is Elsewhere number place = gives_ok (refl, tt)
address_is (BasedOn base) number place = gives_fault
address_is Nowhere number place = gives_fault
address_is (InFrame procedure) number place = gives_fault

bound_is : (known : Known) (binding : Binding) (name : Identifier)
    → Gives (MayBeLocated known.objects) (static_bound OtherModulesToo known binding name)
bound_is known (Declared (Object number)) name =
    in_turn (is_found (slice_get known.objects number) NoVariable (place_of_word name)) λ object is.
    then_more (address_is object.home number (place_of_word name)) λ found has.
    subst (MayBeLocated known.objects) (sym has.0)
    (subst (λ (entry : Option TypedObject). IsSomeAnd entry (λ (found : TypedObject). HasAddress found.home))
    (sym is)
    has.1)
bound_is known (Declared (Procedure number)) name = gives_fault
bound_is known binding name = gives_fault

object_is : (known : Known) (name : Identifier)
    → Gives (MayBeLocated known.objects) (static_object OtherModulesToo known name)
object_is known name = gives_after (bound known name) λ binding. bound_is known binding name

-- the value of a restricted expression
abbrev ValueLocates : (objects : List TypedObject) → RestrictedValue → Type 0
ValueLocates objects (ANumber number) = Unit {0}
ValueLocates objects (FromObject object offset) = MayBeLocated objects object

restricted_locates : (known : Known) (origin : OriginTree) (offsets : List OffsetTree)
    → Gives (ValueLocates known.objects) (restricted_value OtherModulesToo known origin offsets)
restricted_locates known (ConstantOrigin constant) offsets =
    gives_after (number_of_constant constant) λ number.
    gives_after (with_offsets number offsets) λ sum.
    gives_ok tt
restricted_locates known (LocationOrigin name) offsets =
    in_turn (object_is known name) λ object is.
    gives_after (with_offsets 0 offsets) λ offset.
    gives_ok is

-- what INITIAL and DATA fill
abbrev FilledLocate : (objects : List TypedObject) → Filled → Type 0
FilledLocate objects filled = All (LocatesObject objects) filled.values

one_value : (objects : List TypedObject) (value : InitialValue) → LocatesObject objects value
    → All (LocatesObject objects) (value ∷ [])
one_value objects value locates =
    All-cons (LocatesObject objects) value [] locates (All-nil (LocatesObject objects))

scalar_locates : (objects : List TypedObject) (place : WordPlace) (scalars : List ScalarType)
    (value : RestrictedValue)
    → ValueLocates objects value
    → Gives (FilledLocate objects) (fill_scalar place scalars value)
scalar_locates objects place (Byte ∷ left) (ANumber number) is =
    gives_after (require (nat_le number 255) NotByte place) λ small.
    gives_ok (one_value objects (ByteValue number) tt)
scalar_locates objects place (Address ∷ left) (ANumber number) is =
    gives_ok (one_value objects (WordValue number) tt)
scalar_locates objects place (Address ∷ left) (FromObject object offset) is =
    gives_ok (one_value objects (LocationValue object offset) is)
scalar_locates objects place (Byte ∷ left) (FromObject object offset) is = gives_fault
scalar_locates objects place [] value is = gives_fault

characters_locate : (objects : List TypedObject) (place : WordPlace) (characters : List ℕ)
    (scalars : List ScalarType)
    → Gives (FilledLocate objects) (fill_characters place characters scalars)
characters_locate objects place [] scalars = gives_ok (All-nil (LocatesObject objects))
characters_locate objects place (character ∷ others) (Byte ∷ left) =
    in_turn (characters_locate objects place others left) λ filled locate.
    gives_ok (All-cons (LocatesObject objects) (ByteValue character) filled.values tt locate)
characters_locate objects place (character ∷ others) (Address ∷ left) = gives_fault
characters_locate objects place (character ∷ others) [] = gives_fault

string_locates : (objects : List TypedObject) (string : StringTree) (scalars : List ScalarType)
    → Gives (FilledLocate objects) (fill_string string scalars)
string_locates objects string [] = characters_locate objects string.place string.characters []
string_locates objects string (Byte ∷ left) =
    characters_locate objects string.place string.characters (Byte ∷ left)
string_locates objects string (Address ∷ left) =
    gives_after (found (number_of_characters string.characters) StringNotNumber string.place) λ number.
    gives_ok (one_value objects (WordValue number) tt)

origin_locates : (known : Known) (scalars : List ScalarType) (origin : OriginTree) (offsets : List OffsetTree)
    → Gives (FilledLocate known.objects) (restricted_value OtherModulesToo known origin offsets
    >>= (λ value. fill_scalar (place_of_origin origin) scalars value))
origin_locates known scalars origin offsets =
    in_turn (restricted_locates known origin offsets) λ value is.
    scalar_locates known.objects (place_of_origin origin) scalars value is

value_locates : (known : Known) (scalars : List ScalarType) (origin : OriginTree) (offsets : List OffsetTree)
    → Gives (FilledLocate known.objects) (fill_value known scalars origin offsets)
value_locates known scalars (ConstantOrigin (StringConstant string)) [] =
    string_locates known.objects string scalars
value_locates known scalars origin offsets = origin_locates known scalars origin offsets

values_locate : (known : Known) (values : List RestrictedTree) (scalars : List ScalarType)
    → Gives (FilledLocate known.objects) (fill known values scalars)
values_locate known [] scalars = gives_ok (All-nil (LocatesObject known.objects))
values_locate known (value ∷ others) scalars =
    in_turn (value_locates known scalars value.origin value.offsets) λ first one.
    in_turn (values_locate known others first.left) λ rest more.
    gives_ok (All-append (LocatesObject known.objects) first.values rest.values one more)

-- what an item is filled with
abbrev ContentsLocate : (objects : List TypedObject) → Contents → Type 0
ContentsLocate objects made = All (LocatesObject objects) made.values

contents_locate : (known : Known) (place : WordPlace) (object_type : ObjectType) (extents : Extents)
    (values : List RestrictedTree)
    → Gives (ContentsLocate known.objects) (contents known place object_type extents values)
contents_locate known place object_type NoArray values =
    in_turn (values_locate known values (scalars_of_element object_type)) λ filled locate.
    gives_ok locate
contents_locate known place object_type (Elements count) values =
    in_turn (values_locate known values (scalars_of_elements count object_type)) λ filled locate.
    gives_ok locate
contents_locate known place object_type AsListed values =
    in_turn (values_locate known values (scalars_of_elements (enough_elements values) object_type))
    λ filled locate.
    let used : ℕ =
    length (scalars_of_elements (enough_elements values) object_type) - length filled.left in
    in_turn (required (nat_lt 0 used) _ _) λ _ some.
    gives_ok locate

typed_contents_locate : (known : Known) (block : Block) (item : ItemTree) (object_type : ObjectType)
    (extents : Extents) (list : Option ValueListTree)
    → Gives (ContentsLocate known.objects) (typed_contents known block item object_type extents list)
typed_contents_locate known block item object_type extents None =
    contents_locate known (place_of_item item) object_type extents []
typed_contents_locate known block item object_type extents (Some list) =
    gives_after (require (is_plain block item && is_none item.at) MisplacedValues
    (place_of_storage list.storage)) λ plain.
    contents_locate known (place_of_item item) object_type extents list.values

-- where an item lives
home_locates : (objects : List TypedObject) (owner : Owner) (item : ItemTree) (base : Option ℕ)
    (at : Option AtAddress) (values : List InitialValue)
    → All (LocatesObject objects) values
    → All (LocatesObject objects) (values_in (home_of owner item base at values))
home_locates objects owner item (Some base) at values locate = All-nil (LocatesObject objects)
home_locates objects owner item None at values locate =
    at_place (is_external_linkage item.linkage) at (is_data item.value_list)
  where
    of_procedure : (procedure : ℕ) (outside in_frame : Bool)
        → All (LocatesObject objects)
        (values_in (cond outside Nowhere (cond in_frame (InFrame procedure) (InData values))))
    of_procedure procedure true in_frame = All-nil (LocatesObject objects)
    of_procedure procedure false true = All-nil (LocatesObject objects)
    of_procedure procedure false false = locate

    in_owner : (owner : Owner) → All (LocatesObject objects) (values_in (home_in owner values))
    in_owner TheModule = locate
    in_owner (OfProcedure procedure heading) =
        of_procedure procedure (is_external_linkage heading.linkage) (is_some heading.reentrant)

    with_values : (has_data : Bool)
        → All (LocatesObject objects) (values_in (home_with_values owner has_data values))
    with_values true = locate
    with_values false = in_owner owner

    at_place : (outside : Bool) (at : Option AtAddress) (has_data : Bool)
        → All (LocatesObject objects)
        (values_in (cond outside Elsewhere
        (option_map_or Placed at (home_with_values owner has_data values))))
    at_place true at has_data = All-nil (LocatesObject objects)
    at_place false (Some address) has_data = All-nil (LocatesObject objects)
    at_place false None has_data = with_values has_data

-- the values of an item locate objects of the table
abbrev pub ItemLocates : (objects : List TypedObject) → TypedItem → Type 0
ItemLocates objects item = All (LocatesObject objects) (values_in item.home)

pub typed_item_locates : (known : Known) (block : Block) (item : ItemTree)
    → Gives (ItemLocates known.objects) (typed_item known block item)
typed_item_locates known block item =
    gives_after (typed_base known block item.subject (base_of item.subject)) λ base.
    gives_after (extents_of block item item.dimension) λ extents.
    gives_after (typed_type block item item.item_type) λ object_type.
    gives_after (check_linkage block item item.linkage) λ may_stand.
    gives_after (typed_at known block item item.at) λ at.
    in_turn (typed_contents_locate known block item object_type extents item.value_list) λ filled locate.
    gives_ok (home_locates known.objects block.owner item base at filled.values locate)

-- they still do where the table has more
value_later : (before after : List TypedObject) → Keeps before after → (value : InitialValue)
    → LocatesObject before value → LocatesObject after value
value_later before after keeps (ByteValue byte) locates = tt
value_later before after keeps (WordValue word) locates = tt
value_later before after keeps (LocationValue object offset) locates =
    by (slice_get before object) refl locates
  where
    by : (entry : Option TypedObject) → slice_get before object ≡ entry
        → IsSomeAnd entry (λ (found : TypedObject). HasAddress found.home)
        → IsSomeAnd (slice_get after object) (λ (found : TypedObject). HasAddress found.home)
    by None is has = absurd has
    by (Some found) is has =
        subst (λ (entry : Option TypedObject). IsSomeAnd entry
        (λ (found : TypedObject). HasAddress found.home))
        (sym (keeps object found is)) has

pub values_later : (before after : List TypedObject) → Keeps before after → (values : List InitialValue)
    → All (LocatesObject before) values → All (LocatesObject after) values
values_later before after keeps values locate =
    All-weaker (LocatesObject before) (LocatesObject after) (value_later before after keeps) values locate
