-- Objects that are declared stand among the constants where they have DATA, AT looks back at objects that
-- have a place, and values have room in their objects.
use Rattle.typing.proofs.Prelude.{◌≡◌, ℕ, zero, suc, ◌+◌, ◌-◌, ◌*◌, ◌<◌, ◌≤◌, Bool, true, false, List, [], ◌∷◌, ◌++◌, length, take, drop, replicate, flat_map, sum_by, slice_get, Option, Some, None, Ok, Err, refl, sym, ap, ◌∙◌, subst, append_assoc, length-append, cond, arith, zero-le, zero-mul, one-mul, suc-mul, mod-lt, div-add-mod', IfOk, IfSome, IsSomeAnd, is_none, is_some, nat_le, nat_lt, not, ◌&&◌, ◌||◌, repeat, option_map_or, sum_by-append, sum_by-cons, slice_get_within, ScalarType, Byte, Address, Identifier, Place, StringTree, StringConstant, OriginTree, ConstantOrigin, LocationOrigin, OffsetTree, RestrictedTree, AtTree, ValueListTree, ItemTree, ElementTree, LiterallyElement, ItemElement, HeadingTree, DeclarationTrees, Binding, Declared, Object, Procedure, Here, into_body, with_procedure, is_declared_again, declared_by, OBJECT_LIMIT, FRAME_LIMIT, PARAMETER_LIMIT, AtAddress, ByteValue, WordValue, LocationValue, InitialValue, TypedMember, ObjectType, ScalarObject, StructureObject, Home, InData, InConstants, Placed, BasedOn, Elsewhere, Nowhere, InFrame, TypedObject, size_of_scalar, count_of, size_of_member, size_of_element, scalars_of_member, scalars_of_element, scalars_of_elements, LooksBack, HasPlace, LooksAtPlace, size_of_value, bytes_filled, Cause, DeclaredTwice, NoVariable, MisplacedAt, MisplacedValues, NestedProcedure, ExternalContents, StringNotNumber, ImpliedWithoutValues, NotByte, TooLarge, Checked, ◌>>=◌, require, found, number_of_characters, number_of_constant, with_offsets, Known, place_of, bound, object_of, Owner, TheModule, OfProcedure, Block, Progress, is_external, is_external_linkage, is_reentrant, ThisModule, OtherModulesToo, with_address, static_bound, static_object, RestrictedValue, ANumber, FromObject, restricted_value, address_of, at_address, Filled, and_before, fill_scalar, fill_characters, fill_string, place_of_origin, fill_value, fill, Extents, NoArray, Elements, AsListed, Contents, enough_elements, elements_for, contents, TypedItem, declare_names, place_of_item, base_of, typed_base, extents_of, typed_type, check_linkage, is_plain, typed_at, place_of_storage, typed_contents, is_data, home_in, home_with_values, home_of, object_named, with_typed_object, with_objects, typed_item, size_of_item, declare_item, declare_definition, declare_element, declare_elements, declare_parameters, no_more_parameters, check_visibility, check_reentrant, open_procedure}
use Rattle.typing.proofs.Steps.{then_checks, then_any}
use Rattle.typing.proofs.Storage.Storable.{AreStorable, object_more, back_later, place_later}

-- a text so far
abbrev pub StandsSoFar : Progress → Type 0
StandsSoFar progress = AreStorable progress.known.objects progress.constants

-- what holds as well of what a check gives
if_ok_more : {A : Type 0} (P Q : A → Type 0) (given : Checked A)
    → IfOk given P → ((a : A) → P a → Q a) → IfOk given Q
if_ok_more P Q (Ok a) holds more = more a holds
if_ok_more P Q (Err fault) holds more = tt

-- What holds of where an item lives, whatever else it says than where AT puts it.
record IsAnyHome (P : Home → Type 0) (values : List InitialValue) : Type 0 where
  based : (base : ℕ) → P (BasedOn base)
  elsewhere : P Elsewhere
  nowhere : P Nowhere
  in_frame : (procedure : ℕ) → P (InFrame procedure)
  in_data : P (InData values)
  in_constants : P (InConstants values)

module _ (P : Home → Type 0) (values : List InitialValue) (is : IsAnyHome P values) where
  procedure_home_is : (number : ℕ) (is_outside is_in_frame : Bool)
      → P (cond is_outside Nowhere (cond is_in_frame (InFrame number) (InData values)))
  procedure_home_is number true is_in_frame = is.nowhere
  procedure_home_is number false true = is.in_frame number
  procedure_home_is number false false = is.in_data

  home_in_is : (owner : Owner) → P (home_in owner values)
  home_in_is TheModule = is.in_data
  home_in_is (OfProcedure number heading) =
      procedure_home_is number (is_external_linkage heading.linkage) (is_some heading.reentrant)

  home_with_values_is : (owner : Owner) (has_data : Bool) → P (home_with_values owner has_data values)
  home_with_values_is owner false = home_in_is owner
  home_with_values_is owner true = is.in_constants

  placed_is : (is_outside : Bool) (at : Option AtAddress) (home : Home)
      → IfSome at (λ address. P (Placed address)) → P home
      → P (cond is_outside Elsewhere (option_map_or Placed at home))
  placed_is true at home placed other = is.elsewhere
  placed_is false None home placed other = other
  placed_is false (Some address) home placed other = placed

  home_of_is : (owner : Owner) (item : ItemTree) (base : Option ℕ) (at : Option AtAddress)
      → IfSome at (λ address. P (Placed address)) → P (home_of owner item base at values)
  home_of_is owner item None at placed =
      placed_is (is_external_linkage item.linkage) at
      (home_with_values owner (is_data item.value_list) values) placed
      (home_with_values_is owner (is_data item.value_list))
  home_of_is owner item (Some base) at placed = is.based base

-- an object that AT may name is one of the table, and has a place
abbrev IsPlaceIn : List TypedObject → (number : ℕ) → Type 0
IsPlaceIn objects number = (number < length objects)
    × IsSomeAnd (slice_get objects number) (λ (object : TypedObject). HasPlace object.home)

found_is : {A : Type 0} (option : Option A) (cause : Cause) (place : Place)
    → IfOk (found option cause place) (λ found. option ≡ Some found)
found_is (Some found) cause place = refl
found_is None cause place = tt

with_address_is : (home : Home) (number : ℕ) (place : Place)
    → IfOk (with_address ThisModule home number place) (λ found. (found ≡ number) × HasPlace home)
with_address_is (InData values) number place = (refl, tt)
with_address_is (InConstants values) number place = (refl, tt)
with_address_is (Placed address) number place = (refl, tt)
with_address_is home number place = tt

static_bound_is : (known : Known) (binding : Binding) (name : Identifier)
    → IfOk (static_bound ThisModule known binding name) (IsPlaceIn known.objects)
static_bound_is known (Declared (Object number)) name =
    let table : List TypedObject = known.objects in
    let IsPlace : Option TypedObject → Type 0 =
    λ found. IsSomeAnd found (λ (object : TypedObject). HasPlace object.home) in
    then_checks _ _ (object_of known name number) _
    (found_is (slice_get table number) NoVariable (place_of name)) (λ object is.
    if_ok_more (λ found. (found ≡ number) × HasPlace object.home) (IsPlaceIn table)
    (with_address ThisModule object.home number (place_of name))
    (with_address_is object.home number (place_of name)) (λ found has.
    subst (IsPlaceIn table) (sym has.0)
    (slice_get_within table number object is, subst IsPlace (sym is) has.1)))
static_bound_is known (Declared (Procedure number)) name = tt
static_bound_is known binding name = tt

static_object_is : (known : Known) (name : Identifier)
    → IfOk (static_object ThisModule known name) (IsPlaceIn known.objects)
static_object_is known name =
    then_any _ (bound known name) _ (λ binding. static_bound_is known binding name)

-- where AT puts an object
abbrev AddressStands : List TypedObject → AtAddress → Type 0
AddressStands objects address =
    LooksBack (length objects) (Placed address) × LooksAtPlace objects (Placed address)

restricted_value_is : (known : Known) (origin : OriginTree) (offsets : List OffsetTree)
    → IfOk (restricted_value ThisModule known origin offsets)
    (λ value. AddressStands known.objects (address_of value))
restricted_value_is known (ConstantOrigin constant) offsets =
    then_any _ (number_of_constant constant) _ (λ number.
    then_any _ (with_offsets number offsets) _ (λ sum. (tt, tt)))
restricted_value_is known (LocationOrigin name) offsets =
    then_checks _ _ (static_object ThisModule known name) _ (static_object_is known name) (λ object is.
    then_any _ (with_offsets 0 offsets) _ (λ offset. is))

at_address_is : (known : Known) (restricted : RestrictedTree)
    → IfOk (at_address known restricted) (AddressStands known.objects)
at_address_is known restricted =
    then_checks _ _ (restricted_value ThisModule known restricted.origin restricted.offsets) _
    (restricted_value_is known restricted.origin restricted.offsets) (λ value stands. stands)

typed_at_is : (known : Known) (block : Block) (item : ItemTree) (at : Option AtTree)
    → IfOk (typed_at known block item at) (λ typed. IfSome typed (AddressStands known.objects))
typed_at_is known block item None = tt
typed_at_is known block item (Some at) =
    then_any _ (require (is_plain block item) MisplacedAt at.place) _ (λ may_stand.
    then_checks _ _ (at_address known at.address) _ (at_address_is known at.address)
    (λ address stands. stands))

-- The values of a list take as many bytes as the scalars that they fill, which are the first of those given.
record Fills (scalars : List ScalarType) (filled : Filled) : Type 0 where
  taken : List ScalarType
  are_first : scalars ≡ taken ++ filled.left
  bytes : sum_by size_of_value filled.values ≡ sum_by size_of_scalar taken

fills_none : (scalars : List ScalarType) → Fills scalars (record { values = []; left = scalars })
fills_none scalars = record { taken = []; are_first = refl; bytes = refl }

fills_more : (value : InitialValue) (scalar : ScalarType) (scalars : List ScalarType) (filled : Filled)
    → size_of_value value ≡ size_of_scalar scalar → Fills scalars filled
    → Fills (scalar ∷ scalars) (and_before value filled)
fills_more value scalar scalars filled same fills = record {
  taken = scalar ∷ fills.taken;
  are_first = ap (λ (others : List ScalarType). scalar ∷ others) fills.are_first;
  bytes = omega (
    arith,
    same,
    fills.bytes,
    sum_by-cons size_of_value value filled.values,
    sum_by-cons size_of_scalar scalar fills.taken,
  );
}

fill_scalar_is : (place : Place) (scalars : List ScalarType) (value : RestrictedValue)
    → IfOk (fill_scalar place scalars value) (Fills scalars)
fill_scalar_is place (Byte ∷ left) (ANumber number) =
    then_any _ (require (nat_le number 255) NotByte place) _ (λ fits.
    fills_more (ByteValue number) Byte left _ refl (fills_none left))
fill_scalar_is place (Address ∷ left) (ANumber number) =
    fills_more (WordValue number) Address left _ refl (fills_none left)
fill_scalar_is place (Address ∷ left) (FromObject object offset) =
    fills_more (LocationValue object offset) Address left _ refl (fills_none left)
fill_scalar_is place scalars value = tt

fill_characters_is : (place : Place) (characters : List ℕ) (scalars : List ScalarType)
    → IfOk (fill_characters place characters scalars) (Fills scalars)
fill_characters_is place [] scalars = fills_none scalars
fill_characters_is place (character ∷ others) (Byte ∷ left) =
    then_checks _ _ (fill_characters place others left) _
    (fill_characters_is place others left) (λ filled fills.
    fills_more (ByteValue character) Byte left filled refl fills)
fill_characters_is place characters scalars = tt

fill_string_is : (string : StringTree) (scalars : List ScalarType)
    → IfOk (fill_string string scalars) (Fills scalars)
fill_string_is string [] = fill_characters_is string.place string.characters []
fill_string_is string (Byte ∷ left) = fill_characters_is string.place string.characters (Byte ∷ left)
fill_string_is string (Address ∷ left) =
    then_any _ (found (number_of_characters string.characters) StringNotNumber string.place) _ (λ number.
    fills_more (WordValue number) Address left _ refl (fills_none left))

fill_restricted_is : (known : Known) (scalars : List ScalarType) (origin : OriginTree)
    (offsets : List OffsetTree)
    → IfOk (restricted_value OtherModulesToo known origin offsets >>= (λ value.
    fill_scalar (place_of_origin origin) scalars value)) (Fills scalars)
fill_restricted_is known scalars origin offsets =
    then_any _ (restricted_value OtherModulesToo known origin offsets) _ (λ value.
    fill_scalar_is (place_of_origin origin) scalars value)

fill_value_is : (known : Known) (scalars : List ScalarType) (origin : OriginTree) (offsets : List OffsetTree)
    → IfOk (fill_value known scalars origin offsets) (Fills scalars)
fill_value_is known scalars (ConstantOrigin (StringConstant string)) [] = fill_string_is string scalars
fill_value_is known scalars origin offsets = fill_restricted_is known scalars origin offsets

fill_is : (known : Known) (values : List RestrictedTree) (scalars : List ScalarType)
    → IfOk (fill known values scalars) (Fills scalars)
fill_is known [] scalars = fills_none scalars
fill_is known (value ∷ others) scalars =
    then_checks _ _ (fill_value known scalars value.origin value.offsets) _
    (fill_value_is known scalars value.origin value.offsets) (λ first one.
    then_checks _ _ (fill known others first.left) _ (fill_is known others first.left) (λ rest more. record {
      taken = one.taken ++ more.taken;
      are_first = one.are_first ∙ ap (λ (left : List ScalarType). one.taken ++ left) more.are_first
          ∙ sym (append_assoc one.taken more.taken rest.left);
      bytes = omega (
        arith,
        one.bytes,
        more.bytes,
        sum_by-append size_of_value first.values rest.values,
        sum_by-append size_of_scalar one.taken more.taken,
      );
    }))

-- the bytes of so many scalars from the first on
abbrev first_bytes : (count : ℕ) → List ScalarType → ℕ
first_bytes count [] = 0
first_bytes zero (scalar ∷ others) = 0
first_bytes (suc count) (scalar ∷ others) = size_of_scalar scalar + first_bytes count others

bytes_of_first : (taken left : List ScalarType)
    → first_bytes (length taken) (taken ++ left) ≡ sum_by size_of_scalar taken
bytes_of_first [] [] = refl
bytes_of_first [] (scalar ∷ left) = refl
bytes_of_first (scalar ∷ taken) left =
    omega (arith, bytes_of_first taken left, sum_by-cons size_of_scalar scalar taken)

-- those of one list and then of another, whose first ones take no more than a limit
first_of_both : (scalars others : List ScalarType) (count more limit : ℕ)
    → count ≤ length scalars + more
    → ((fewer : ℕ) → fewer ≤ more → first_bytes fewer others ≤ limit)
    → first_bytes count (scalars ++ others) ≤ sum_by size_of_scalar scalars + limit
first_of_both [] others count more limit within most = omega (arith, most count (omega (arith, within)))
first_of_both (scalar ∷ scalars) others zero more limit within most = omega arith
first_of_both (scalar ∷ scalars) others (suc count) more limit within most =
    omega (
      arith,
      first_of_both scalars others count more limit (omega (arith, within)) most,
      sum_by-cons size_of_scalar scalar scalars,
    )

first_none : (scalars : List ScalarType) → first_bytes 0 scalars ≡ 0
first_none [] = refl
first_none (scalar ∷ scalars) = refl

-- so many elements have room for the scalars that fit in them
first_of_elements : (element : List ScalarType) (elements count all : ℕ) → count ≤ elements * length element
    → first_bytes count (repeat all element) ≤ elements * sum_by size_of_scalar element
first_of_elements element zero zero all within = omega (arith, first_none (repeat all element))
first_of_elements element zero (suc count) all within =
    absurd (omega (arith, within, zero-mul (length element)))
first_of_elements element (suc elements) count zero within = zero-le
first_of_elements element (suc elements) count (suc all) within =
    omega (
      arith,
      suc-mul elements (sum_by size_of_scalar element),
      first_of_both element (repeat all element) count (elements * length element)
          (elements * sum_by size_of_scalar element)
          (omega (arith, within, suc-mul elements (length element)))
          (λ fewer few. first_of_elements element elements fewer all few),
    )

enough : (used each : ℕ) → 0 < each → used ≤ elements_for used each * each
enough used each some =
    omega (arith, some, div-add-mod' (used + each - 1) each, mod-lt (used + each - 1) some)

first_of_none : (count all : ℕ) → first_bytes count (repeat all []) ≡ 0
first_of_none count zero = refl
first_of_none count (suc all) = first_of_none count all

first_of_listed : (element : List ScalarType) (count all : ℕ)
    → first_bytes count (repeat all element)
    ≤ elements_for count (length element) * sum_by size_of_scalar element
first_of_listed [] count all = omega (arith, first_of_none count all)
first_of_listed (scalar ∷ scalars) count all =
    let each : ℕ = length (scalar ∷ scalars) in
    first_of_elements (scalar ∷ scalars) (elements_for count each) count all (enough count each (omega arith))

-- the bytes of the scalars of an object are its size
replicated : (count : ℕ) (scalar : ScalarType)
    → sum_by size_of_scalar (replicate count scalar) ≡ count * size_of_scalar scalar
replicated zero scalar = sym (zero-mul (size_of_scalar scalar))
replicated (suc count) scalar =
    omega (
      arith,
      sum_by-cons size_of_scalar scalar (replicate count scalar),
      replicated count scalar,
      suc-mul count (size_of_scalar scalar),
    )

members_bytes : (members : List TypedMember)
    → sum_by size_of_scalar (flat_map scalars_of_member members) ≡ sum_by size_of_member members
members_bytes [] = refl
members_bytes (member ∷ members) =
    omega (
      arith,
      sum_by-append size_of_scalar (scalars_of_member member) (flat_map scalars_of_member members),
      replicated (count_of member.dimension) member.scalar,
      members_bytes members,
      sum_by-cons size_of_member member members,
    )

element_bytes : (object_type : ObjectType)
    → sum_by size_of_scalar (scalars_of_element object_type) ≡ size_of_element object_type
element_bytes (ScalarObject scalar) = omega arith
element_bytes (StructureObject members) = members_bytes members

repeated : (count : ℕ) (element : List ScalarType)
    → sum_by size_of_scalar (repeat count element) ≡ count * sum_by size_of_scalar element
repeated zero element = sym (zero-mul (sum_by size_of_scalar element))
repeated (suc count) element =
    omega (
      arith,
      sum_by-append size_of_scalar element (repeat count element),
      repeated count element,
      suc-mul count (sum_by size_of_scalar element),
    )

elements_bytes : (count : ℕ) (object_type : ObjectType)
    → sum_by size_of_scalar (scalars_of_elements count object_type) ≡ count * size_of_element object_type
elements_bytes count object_type =
    repeated count (scalars_of_element object_type)
    ∙ ap (λ (size : ℕ). count * size) (element_bytes object_type)

-- so values have room in an object that they fill
fills_at_most : (scalars : List ScalarType) (filled : Filled) → Fills scalars filled
    → sum_by size_of_value filled.values ≤ sum_by size_of_scalar scalars
fills_at_most scalars filled fills =
    omega (
      arith,
      fills.bytes,
      ap (sum_by size_of_scalar) fills.are_first,
      sum_by-append size_of_scalar fills.taken filled.left,
    )

fills_listed : (object_type : ObjectType) (all used : ℕ) (filled : Filled)
    → (fills : Fills (scalars_of_elements all object_type) filled) → used ≡ length fills.taken
    → sum_by size_of_value filled.values
    ≤ elements_for used (length (scalars_of_element object_type)) * size_of_element object_type
fills_listed object_type all used filled fills is =
    let element : List ScalarType = scalars_of_element object_type in
    let first : first_bytes used (repeat all element) ≡ sum_by size_of_scalar fills.taken =
    ap (λ (count : ℕ). first_bytes count (repeat all element)) is
    ∙ ap (first_bytes (length fills.taken)) fills.are_first ∙ bytes_of_first fills.taken filled.left in
    let size = ap (λ (size : ℕ). elements_for used (length element) * size) (element_bytes object_type) in
    omega (arith, fills.bytes, first, size, first_of_listed element used all)

abbrev HasRoomIn : ObjectType → Contents → Type 0
HasRoomIn object_type made =
    sum_by size_of_value made.values ≤ count_of made.dimension * size_of_element object_type

contents_is : (known : Known) (place : Place) (object_type : ObjectType) (extents : Extents)
    (values : List RestrictedTree)
    → IfOk (contents known place object_type extents values) (HasRoomIn object_type)
contents_is known place object_type NoArray values =
    let scalars : List ScalarType = scalars_of_element object_type in
    then_checks _ _ (fill known values scalars) _ (fill_is known values scalars) (λ filled fills.
    omega (arith, fills_at_most scalars filled fills, element_bytes object_type, one-mul (size_of_element object_type)))
contents_is known place object_type (Elements count) values =
    let scalars : List ScalarType = scalars_of_elements count object_type in
    then_checks _ _ (fill known values scalars) _ (fill_is known values scalars) (λ filled fills.
    omega (arith, fills_at_most scalars filled fills, elements_bytes count object_type))
contents_is known place object_type AsListed values =
    let all : ℕ = enough_elements values in
    let scalars : List ScalarType = scalars_of_elements all object_type in
    then_checks _ _ (fill known values scalars) _ (fill_is known values scalars) (λ filled fills.
    let used : ℕ = length scalars - length filled.left in
    let is : used ≡ length fills.taken =
    omega (arith, ap length fills.are_first, length-append fills.taken filled.left) in
    then_any _ (require (nat_lt 0 used) ImpliedWithoutValues place) _ (λ is_some.
    fills_listed object_type all used filled fills is))

typed_contents_is : (known : Known) (block : Block) (item : ItemTree)
    (object_type : ObjectType) (extents : Extents)
    (list : Option ValueListTree)
    → IfOk (typed_contents known block item object_type extents list) (HasRoomIn object_type)
typed_contents_is known block item object_type extents None =
    contents_is known (place_of_item item) object_type extents []
typed_contents_is known block item object_type extents (Some list) =
    then_any _ (require (is_plain block item && is_none item.at) MisplacedValues
    (place_of_storage list.storage)) _ (λ may_stand.
    contents_is known (place_of_item item) object_type extents list.values)

-- an item of some size
abbrev HomeStands : List TypedObject → (size : ℕ) → Home → Type 0
HomeStands objects size home =
    LooksBack (length objects) home × LooksAtPlace objects home × (bytes_filled home ≤ size)

any_home : (objects : List TypedObject) (size : ℕ) (values : List InitialValue)
    → sum_by size_of_value values ≤ size
    → IsAnyHome (HomeStands objects size) values
any_home objects size values fits = record {
  based = λ base. (tt, tt, zero-le);
  elsewhere = (tt, tt, zero-le);
  nowhere = (tt, tt, zero-le);
  in_frame = λ procedure. (tt, tt, zero-le);
  in_data = (tt, tt, fits);
  in_constants = (tt, tt, fits);
}

some_home : (objects : List TypedObject) (size : ℕ) (at : Option AtAddress)
    → IfSome at (AddressStands objects)
    → IfSome at (λ address. HomeStands objects size (Placed address))
some_home objects size None stands = tt
some_home objects size (Some address) stands = (stands.0, stands.1, zero-le)

typed_item_is : (known : Known) (block : Block) (item : ItemTree)
    → IfOk (typed_item known block item) (λ typed. HomeStands known.objects (size_of_item typed) typed.home)
typed_item_is known block item =
    then_any _ (typed_base known block item.subject (base_of item.subject)) _ (λ base.
    then_any _ (extents_of block item item.dimension) _ (λ extents.
    then_any _ (typed_type block item item.item_type) _ (λ object_type.
    then_any _ (check_linkage block item item.linkage) _ (λ may_stand.
    then_checks _ _ (typed_at known block item item.at) _ (typed_at_is known block item item.at) (λ at stands.
    then_checks _ _ (typed_contents known block item object_type extents item.value_list) _
    (typed_contents_is known block item object_type extents item.value_list) (λ filled fits.
    let size : ℕ = count_of filled.dimension * size_of_element object_type in
    home_of_is (HomeStands known.objects size) filled.values (any_home known.objects size filled.values fits)
    block.owner item base at (some_home known.objects size at stands)))))))

-- objects that are declared
with_objects_is : (block : Block) (item : TypedItem) (names : List Identifier) (progress : Progress)
    → HomeStands progress.known.objects (size_of_item item) item.home → StandsSoFar progress
    → IfOk (with_objects block item names progress) StandsSoFar
with_objects_is block item [] progress stands so_far = so_far
with_objects_is block item (name ∷ others) progress stands so_far =
    let objects : List TypedObject = progress.known.objects in
    let object : TypedObject = object_named block item name.name in
    let after : Progress = with_typed_object item.linkage object progress in
    let longer : length objects + 1 ≡ length (objects ++ object ∷ []) =
    omega (arith, length-append objects (object ∷ [])) in
    let back : LooksBack (length (objects ++ object ∷ [])) item.home =
    subst (λ (count : ℕ). LooksBack count item.home) longer
    (back_later item.home (length objects) stands.0) in
    then_any _ (require (nat_le after.frame FRAME_LIMIT) TooLarge (place_of name)) _ (λ fits.
    with_objects_is block item others after
    (back, place_later item.home objects (object ∷ []) stands.1, stands.2)
    (object_more object stands.0 stands.1 stands.2 so_far))

declare_item_is : (block : Block) (item : ItemTree) (progress : Progress)
    → StandsSoFar progress → IfOk (declare_item block item progress) StandsSoFar
declare_item_is block item progress so_far =
    then_any _ (declare_names block (declared_by item.subject) progress.known.here) _ (λ here.
    then_checks _ _ (typed_item progress.known block item) _
    (typed_item_is progress.known block item) (λ typed stands.
    then_any _ (require (nat_le (size_of_item typed) OBJECT_LIMIT) TooLarge (place_of_item item)) _ (λ fits.
    then_checks _ _ (with_objects block typed (declared_by item.subject) progress) _
    (with_objects_is block typed (declared_by item.subject) progress stands so_far)
    (λ declared after. after))))

declare_definition_is : (block : Block) (name : Identifier) (progress : Progress)
    → StandsSoFar progress → IfOk (declare_definition block name progress) StandsSoFar
declare_definition_is block name progress so_far =
    then_any _
    (require (not (is_declared_again progress.known.here name.name)) DeclaredTwice (place_of name)) _
    (λ is_new.
    then_any _ (require (not (is_external block.owner)) ExternalContents (place_of name)) _
    (λ may_stand. so_far))

declare_element_is : (block : Block) (element : ElementTree) (progress : Progress)
    → StandsSoFar progress → IfOk (declare_element block element progress) StandsSoFar
declare_element_is block (LiterallyElement name text) progress so_far =
    declare_definition_is block name progress so_far
declare_element_is block (ItemElement item) progress so_far = declare_item_is block item progress so_far

pub declare_elements_is : (block : Block) (elements : List ElementTree) (progress : Progress)
    → StandsSoFar progress → IfOk (declare_elements block elements progress) StandsSoFar
declare_elements_is block [] progress so_far = so_far
declare_elements_is block (element ∷ others) progress so_far =
    then_checks _ _ (declare_element block element progress) _
    (declare_element_is block element progress so_far)
    (λ after so_far_after. declare_elements_is block others after so_far_after)

-- into a procedure
pub open_procedure_is : (block : Block) (heading : HeadingTree) (declared : DeclarationTrees)
    (progress : Progress)
    → StandsSoFar progress → IfOk (open_procedure block heading declared progress) StandsSoFar
open_procedure_is block heading declared progress so_far =
    let named : Here = with_procedure heading.name.name progress.known.here in
    then_any _ (require (not (is_declared_again progress.known.here heading.name.name)) DeclaredTwice
    (place_of heading.name)) _ (λ is_new.
    then_any _ (require (not (is_reentrant block.owner || is_external block.owner)) NestedProcedure
    (place_of heading.name)) _ (λ may_stand.
    then_any _ (declare_parameters (take PARAMETER_LIMIT heading.parameters) (into_body named)) _ (λ here.
    then_any _ (no_more_parameters (drop PARAMETER_LIMIT heading.parameters)) _ (λ are_all.
    then_any _ (check_visibility block heading.linkage) _ (λ is_visible.
    then_any _ (check_reentrant heading.linkage heading.reentrant) _ (λ is_reentrant. so_far))))))
