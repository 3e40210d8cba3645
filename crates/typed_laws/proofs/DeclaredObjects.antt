-- Where objects that are declared live, and that each takes a byte or more.
use Rattle.typed_laws.proofs.Prelude.{◌≡◌, ℕ, zero, suc, ◌+◌, ◌-◌, ◌*◌, ◌<◌, Bool, true, false, List, [], ◌∷◌, ◌++◌, length, flat_map, replicate, slice_get, Option, Some, None, nat_le, nat_lt, refl, ap, cond, length-append, arith, zero-mul, suc-mul, mod-lt, div-add-mod', All, IfSome, is_none, is_some, not, ◌&&◌, option_map_or, leb-true, flat_map-append, All-append, All-cons, All-nil, sum_by-append, sum_by-cons, slice_get_within, Dimension, Count, Implied, Member, ScalarType, Byte, Address, Sign, Plus, Minus, Identifier, Place, Number, StringTree, StringConstant, OriginTree, ConstantOrigin, LocationOrigin, OffsetTree, RestrictedTree, AtTree, ValueListTree, SubjectTree, ItemTypeTree, ScalarItem, StructureItem, ItemTree, IsNotEmpty, IsItemType, AtNumber, AtObject, AtAddress, ByteValue, WordValue, LocationValue, InitialValue, TypedMember, ObjectType, StructureObject, Home, InData, InConstants, Placed, BasedOn, Elsewhere, Nowhere, InFrame, size_of_scalar, count_of, size_of_member, size_of_element, has_member, scalars_of_member, scalars_of_element, scalars_of_elements, DeclaredTwice, NoVariable, ParameterNotScalar, NoBase, MisplacedAt, MisplacedValues, BasedParameter, ImpliedForGroup, StringNotNumber, ImpliedWithoutValues, NotByte, ◌>>=◌, require, found, number_of_characters, number_of_constant, moved_by, with_offsets, Known, place_of, bound, Owner, TheModule, OfProcedure, Block, is_external_linkage, Reach, ThisModule, OtherModulesToo, static_object, RestrictedValue, ANumber, FromObject, restricted_value, address_of, at_address, Filled, fill_scalar, fill_characters, fill_string, place_of_origin, fill_value, fill, Extents, NoArray, Elements, AsListed, Contents, enough_elements, elements_for, contents, TypedItem, base_of, is_base, is_group, place_of_item, names_parameter, object_bound, typed_base, extents_of, member_dimension, typed_members, typed_type, check_linkage, is_plain, typed_at, place_of_storage, typed_contents, is_data, home_in, home_with_values, home_of, typed_item, size_of_item, Gives, gives_ok, gives_fault, gives_after, in_turn, required, is_found, AddsWord}

-- Where the object of a number lives: based on one before it, or in the frame of a procedure that is
-- REENTRANT. What is added to where another lies is a word. The flags are those of the procedures so far.
abbrev pub HomeStands : (flags : List Bool) → (number : ℕ) → Home → Type 0
HomeStands flags number (BasedOn base) = base < number
HomeStands flags number (InFrame procedure) = slice_get flags procedure ≡ Some true
HomeStands flags number (InData values) = All AddsWord values
HomeStands flags number (InConstants values) = All AddsWord values
HomeStands flags number (Placed (AtObject other offset)) = offset < 65536
HomeStands flags number home = Unit {0}

-- the procedure that a block belongs to is in the table, with its flag
abbrev pub OwnerFlag : Owner → (flags : List Bool) → Type 0
OwnerFlag TheModule flags = Unit {0}
OwnerFlag (OfProcedure number heading) flags = slice_get flags number ≡ Some (is_some heading.reentrant)

-- sums of offsets are words
moved_is_word : (sum : ℕ) (sign : Sign) (number : ℕ) → moved_by sum sign number < 65536
moved_is_word sum Plus number = mod-lt (sum + number) (omega arith)
moved_is_word sum Minus number = mod-lt (sum + (65536 - number)) (omega arith)

offsets_are_word : (sum : ℕ) (offsets : List OffsetTree) → sum < 65536
    → Gives (λ found. found < 65536) (with_offsets sum offsets)
offsets_are_word sum [] small = gives_ok small
offsets_are_word sum (offset ∷ others) small =
    gives_after (number_of_constant offset.constant) λ number.
    offsets_are_word (moved_by sum offset.sign number) others (moved_is_word sum offset.sign number)

abbrev MovesByWord : RestrictedValue → Type 0
MovesByWord (ANumber number) = Unit {0}
MovesByWord (FromObject object offset) = offset < 65536

restricted_moves : (reach : Reach) (known : Known) (origin : OriginTree) (offsets : List OffsetTree)
    → Gives MovesByWord (restricted_value reach known origin offsets)
restricted_moves reach known (ConstantOrigin constant) offsets =
    gives_after (number_of_constant constant) λ number.
    gives_after (with_offsets number offsets) λ sum.
    gives_ok tt
restricted_moves reach known (LocationOrigin name) offsets =
    gives_after (static_object reach known name) λ object.
    in_turn (offsets_are_word 0 offsets (omega arith)) λ offset small.
    gives_ok small

-- where AT puts an object
abbrev AtStands : AtAddress → Type 0
AtStands (AtObject other offset) = offset < 65536
AtStands (AtNumber number) = Unit {0}

address_stands : (value : RestrictedValue) → MovesByWord value → AtStands (address_of value)
address_stands (ANumber number) is = tt
address_stands (FromObject object offset) is = is

typed_at_stands : (known : Known) (block : Block) (item : ItemTree) (at : Option AtTree)
    → Gives (λ found. IfSome found AtStands) (typed_at known block item at)
typed_at_stands known block item None = gives_ok tt
typed_at_stands known block item (Some at) =
    gives_after (require (is_plain block item) MisplacedAt at.place) λ plain.
    in_turn (at_is known at.address) λ address stands.
    gives_ok stands
  where
    at_is : (known : Known) (restricted : RestrictedTree) → Gives AtStands (at_address known restricted)
    at_is known restricted =
        in_turn (restricted_moves ThisModule known restricted.origin restricted.offsets) λ value is.
        gives_ok (address_stands value is)

-- what INITIAL and DATA fill
abbrev FilledStand : Filled → Type 0
FilledStand filled = All AddsWord filled.values

scalar_stands : (place : Place) (scalars : List ScalarType) (value : RestrictedValue) → MovesByWord value
    → Gives FilledStand (fill_scalar place scalars value)
scalar_stands place (Byte ∷ left) (ANumber number) is =
    gives_after (require (nat_le number 255) NotByte place) λ small.
    gives_ok (All-cons AddsWord (ByteValue number) [] tt (All-nil AddsWord))
scalar_stands place (Address ∷ left) (ANumber number) is =
    gives_ok (All-cons AddsWord (WordValue number) [] tt (All-nil AddsWord))
scalar_stands place (Address ∷ left) (FromObject object offset) is =
    gives_ok (All-cons AddsWord (LocationValue object offset) [] is (All-nil AddsWord))
scalar_stands place (Byte ∷ left) (FromObject object offset) is = gives_fault
scalar_stands place [] value is = gives_fault

characters_stand : (place : Place) (characters : List ℕ) (scalars : List ScalarType)
    → Gives FilledStand (fill_characters place characters scalars)
characters_stand place [] scalars = gives_ok (All-nil AddsWord)
characters_stand place (character ∷ others) (Byte ∷ left) =
    in_turn (characters_stand place others left) λ filled stand.
    gives_ok (All-cons AddsWord (ByteValue character) filled.values tt stand)
characters_stand place (character ∷ others) (Address ∷ left) = gives_fault
characters_stand place (character ∷ others) [] = gives_fault

string_stands : (string : StringTree) (scalars : List ScalarType)
    → Gives FilledStand (fill_string string scalars)
string_stands string [] = characters_stand string.place string.characters []
string_stands string (Byte ∷ left) = characters_stand string.place string.characters (Byte ∷ left)
string_stands string (Address ∷ left) =
    gives_after (found (number_of_characters string.characters) StringNotNumber string.place) λ number.
    gives_ok (All-cons AddsWord (WordValue number) [] tt (All-nil AddsWord))

restricted_stands : (known : Known) (scalars : List ScalarType) (origin : OriginTree)
    (offsets : List OffsetTree)
    → Gives FilledStand (restricted_value OtherModulesToo known origin offsets
    >>= (λ value. fill_scalar (place_of_origin origin) scalars value))
restricted_stands known scalars origin offsets =
    in_turn (restricted_moves OtherModulesToo known origin offsets) λ value is.
    scalar_stands (place_of_origin origin) scalars value is

value_stands : (known : Known) (scalars : List ScalarType) (origin : OriginTree) (offsets : List OffsetTree)
    → Gives FilledStand (fill_value known scalars origin offsets)
value_stands known scalars (ConstantOrigin (StringConstant string)) [] = string_stands string scalars
value_stands known scalars origin offsets = restricted_stands known scalars origin offsets

values_stand : (known : Known) (values : List RestrictedTree) (scalars : List ScalarType)
    → Gives FilledStand (fill known values scalars)
values_stand known [] scalars = gives_ok (All-nil AddsWord)
values_stand known (value ∷ others) scalars =
    in_turn (value_stands known scalars value.origin value.offsets) λ first one.
    in_turn (values_stand known others first.left) λ rest more.
    gives_ok (All-append AddsWord first.values rest.values one more)

-- Sizes. An element of an object takes a byte, and has a scalar.
pub record HasScalars (object_type : ObjectType) : Type 0 where
  pub size : 0 < size_of_element object_type
  pub count : 0 < length (scalars_of_element object_type)

product_some : (one other : ℕ) → 0 < one → 0 < other → 0 < one * other
product_some zero other first second = absurd (omega (arith, first))
product_some (suc one) other first second = omega (arith, second, suc-mul one other)

scalar_some : (scalar : ScalarType) → 0 < size_of_scalar scalar
scalar_some Byte = omega arith
scalar_some Address = omega arith

dimension_some : (dimension : Option Number)
    → Gives (λ found. 0 < count_of found) (member_dimension dimension)
dimension_some None = gives_ok (omega arith)
dimension_some (Some number) =
    in_turn (required (nat_le 1 number.value) _ _) λ _ one.
    gives_ok (omega (arith, leb-true 1 number.value one))

replicate_some : {X : Type 0} (count : ℕ) (x : X) → 0 < count → 0 < length (replicate count x)
replicate_some zero x some = absurd (omega (arith, some))
replicate_some (suc count) x some = omega arith

member_more : (before : List TypedMember) (member : TypedMember) → HasScalars (StructureObject before)
    → HasScalars (StructureObject (before ++ member ∷ []))
member_more before member has = record {
  size = omega (arith, has.size, sum_by-append size_of_member before (member ∷ []));
  count = omega (
    arith,
    has.count,
    ap length (flat_map-append scalars_of_member before (member ∷ [])),
    length-append (flat_map scalars_of_member before) (flat_map scalars_of_member (member ∷ [])),
  );
}

one_member : (member : TypedMember) → 0 < count_of member.dimension
    → HasScalars (StructureObject (member ∷ []))
one_member member some = record {
  size = omega (
    arith,
    sum_by-cons size_of_member member [],
    product_some (count_of member.dimension) (size_of_scalar member.scalar) some (scalar_some member.scalar),
  );
  count = omega (
    arith,
    length-append (scalars_of_member member) [],
    replicate_some (count_of member.dimension) member.scalar some,
  );
}

members_more : (before : List TypedMember) (members : List Member) → HasScalars (StructureObject before)
    → Gives (λ found. HasScalars (StructureObject found)) (typed_members before members)
members_more before [] has = gives_ok has
members_more before (member ∷ others) has =
    gives_after (require (not (has_member before member.name.name)) DeclaredTwice (place_of member.name))
    λ once.
    gives_after (member_dimension member.dimension) λ dimension.
    members_more
    (before ++ record { name = member.name.name; dimension = dimension; scalar = member.scalar } ∷ []) others
    (member_more before (record { name = member.name.name; dimension = dimension; scalar = member.scalar })
    has)

members_some : (members : List Member) → IsNotEmpty members
    → Gives (λ found. HasScalars (StructureObject found)) (typed_members [] members)
members_some [] is = absurd is
members_some (member ∷ others) is =
    gives_after (require (not (has_member [] member.name.name)) DeclaredTwice (place_of member.name)) λ once.
    in_turn (dimension_some member.dimension) λ dimension some.
    members_more (record { name = member.name.name; dimension = dimension; scalar = member.scalar } ∷ [])
    others
    (one_member (record { name = member.name.name; dimension = dimension; scalar = member.scalar }) some)

type_some : (block : Block) (item : ItemTree) (tree : ItemTypeTree) → IsItemType tree
    → Gives HasScalars (typed_type block item tree)
type_some block item (ScalarItem scalar) is =
    gives_ok (record { size = scalar_some scalar; count = omega arith })
type_some block item (StructureItem members) is =
    gives_after (require (not (names_parameter block item.subject)) ParameterNotScalar (place_of_item item))
    λ plain.
    in_turn (members_some members is) λ typed has.
    gives_ok has

-- a dimension is 1 or more
abbrev ExtentsStand : Extents → Type 0
ExtentsStand NoArray = Unit {0}
ExtentsStand (Elements count) = 0 < count
ExtentsStand AsListed = Unit {0}

extents_stand : (block : Block) (item : ItemTree) (dimension : Option Dimension)
    → Gives ExtentsStand (extents_of block item dimension)
extents_stand block item None = gives_ok tt
extents_stand block item (Some (Count number)) =
    in_turn (required (nat_le 1 number.value) _ _) λ _ one.
    gives_after (require (not (names_parameter block item.subject)) ParameterNotScalar number.place) λ plain.
    gives_ok (omega (arith, leb-true 1 number.value one))
extents_stand block item (Some Implied) =
    gives_after (require (not (names_parameter block item.subject)) ParameterNotScalar (place_of_item item))
    λ plain.
    gives_after (require (not (is_group item.subject)) ImpliedForGroup (place_of_item item)) λ single.
    gives_after (require (is_some item.value_list) ImpliedWithoutValues (place_of_item item)) λ listed.
    gives_ok tt

elements_some : (used each : ℕ) → 0 < used → 0 < each → 0 < elements_for used each
elements_some used each some one = by (elements_for used each) refl
  where
    by : (elements : ℕ) → elements ≡ elements_for used each → 0 < elements
    by zero is = absurd (omega (
      arith,
      some,
      one,
      div-add-mod' (used + each - 1) each,
      mod-lt (used + each - 1) one,
      ap (λ (count : ℕ). count * each) is,
      zero-mul each,
    ))
    by (suc elements) is = omega arith

record ContentsStand (made : Contents) : Type 0 where
  values : All AddsWord made.values
  count : 0 < count_of made.dimension

contents_stand : (known : Known) (place : Place) (object_type : ObjectType) (extents : Extents)
    (values : List RestrictedTree)
    → HasScalars object_type → ExtentsStand extents
    → Gives ContentsStand (contents known place object_type extents values)
contents_stand known place object_type NoArray values has stands =
    in_turn (values_stand known values (scalars_of_element object_type)) λ filled stand.
    gives_ok (record { values = stand; count = omega arith })
contents_stand known place object_type (Elements count) values has stands =
    in_turn (values_stand known values (scalars_of_elements count object_type)) λ filled stand.
    gives_ok (record { values = stand; count = stands })
contents_stand known place object_type AsListed values has stands =
    in_turn (values_stand known values (scalars_of_elements (enough_elements values) object_type))
    λ filled stand.
    let used : ℕ =
    length (scalars_of_elements (enough_elements values) object_type) - length filled.left in
    let each : ℕ = length (scalars_of_element object_type) in
    in_turn (required (nat_lt 0 used) _ _) λ _ some.
    gives_ok (record { values = stand; count = elements_some used each (leb-true 1 used some) has.count })

typed_contents_stand : (known : Known) (block : Block) (item : ItemTree) (object_type : ObjectType)
    (extents : Extents) (list : Option ValueListTree)
    → HasScalars object_type → ExtentsStand extents
    → Gives ContentsStand (typed_contents known block item object_type extents list)
typed_contents_stand known block item object_type extents None has stands =
    contents_stand known (place_of_item item) object_type extents [] has stands
typed_contents_stand known block item object_type extents (Some list) has stands =
    gives_after (require (is_plain block item && is_none item.at) MisplacedValues
    (place_of_storage list.storage)) λ plain.
    contents_stand known (place_of_item item) object_type extents list.values has stands

-- a base is one of the objects so far
base_stands : (known : Known) (block : Block) (subject : SubjectTree) (base : Option Identifier)
    → Gives (λ found. IfSome found (λ number. number < length known.objects))
    (typed_base known block subject base)
base_stands known block subject None = gives_ok tt
base_stands known block subject (Some name) =
    gives_after (require (not (names_parameter block subject)) BasedParameter (place_of name)) λ plain.
    gives_after (bound known name) λ binding.
    gives_after (object_bound binding (place_of name)) λ number.
    in_turn (is_found (slice_get known.objects number) NoVariable (place_of name)) λ object is.
    gives_after (require (is_base object) NoBase (place_of name)) λ may.
    gives_ok (slice_get_within known.objects number object is)

-- where an item lives
home_stands : (owner : Owner) (flags : List Bool) (number : ℕ) (item : ItemTree) (base : Option ℕ)
    (at : Option AtAddress) (values : List InitialValue)
    → OwnerFlag owner flags → IfSome base (λ found. found < number) → IfSome at AtStands → All AddsWord values
    → HomeStands flags number (home_of owner item base at values)
home_stands owner flags number item (Some base) at values own based placed added = based
home_stands owner flags number item None at values own based placed added =
    at_place (is_external_linkage item.linkage) at (is_data item.value_list) placed
  where
    of_procedure : (procedure : ℕ) (outside in_frame : Bool) → slice_get flags procedure ≡ Some in_frame
        → HomeStands flags number (cond outside Nowhere (cond in_frame (InFrame procedure) (InData values)))
    of_procedure procedure true in_frame is = tt
    of_procedure procedure false true is = is
    of_procedure procedure false false is = added

    in_owner : (owner : Owner) → OwnerFlag owner flags → HomeStands flags number (home_in owner values)
    in_owner TheModule own = added
    in_owner (OfProcedure procedure heading) own =
        of_procedure procedure (is_external_linkage heading.linkage) (is_some heading.reentrant) own

    with_values : (has_data : Bool) → HomeStands flags number (home_with_values owner has_data values)
    with_values true = added
    with_values false = in_owner owner own

    at_stands : (address : AtAddress) → AtStands address → HomeStands flags number (Placed address)
    at_stands (AtNumber at) is = tt
    at_stands (AtObject other offset) is = is

    at_place : (outside : Bool) (at : Option AtAddress) (has_data : Bool) → IfSome at AtStands
        → HomeStands flags number
        (cond outside Elsewhere (option_map_or Placed at (home_with_values owner has_data values)))
    at_place true at has_data placed = tt
    at_place false (Some address) has_data placed = at_stands address placed
    at_place false None has_data placed = with_values has_data

-- an item: its home stands, and it takes a byte
pub record ItemStands (flags : List Bool) (number : ℕ) (item : TypedItem) : Type 0 where
  pub home : HomeStands flags number item.home
  pub size : 0 < size_of_item item

pub typed_item_stands : (known : Known) (block : Block) (item : ItemTree) (flags : List Bool)
    → OwnerFlag block.owner flags → IsItemType item.item_type
    → Gives (ItemStands flags (length known.objects)) (typed_item known block item)
typed_item_stands known block item flags own formed =
    in_turn (base_stands known block item.subject (base_of item.subject)) λ base based.
    in_turn (extents_stand block item item.dimension) λ extents extent.
    in_turn (type_some block item item.item_type formed) λ object_type has.
    gives_after (check_linkage block item item.linkage) λ may_stand.
    in_turn (typed_at_stands known block item item.at) λ at placed.
    in_turn (typed_contents_stand known block item object_type extents item.value_list has extent)
    λ filled made.
    gives_ok (record {
      home = home_stands block.owner flags (length known.objects) item base at filled.values own based placed
          made.values;
      size = product_some (count_of filled.dimension) (size_of_element object_type) made.count has.size;
    })
