-- The names in items are known where these are typed, and where they are not typed for a name, one is to
-- blame.
use Rattle.typing.proofs.Prelude.{◌≡◌, Bool, true, false, inl, inr, sym, subst, append-nil, append_assoc, arith, List, [], ◌∷◌, ◌++◌, Option, None, Some, not, ◌&&◌, is_none, flat_map, Contains-append_right, ScalarType, Identifier, Place, NumberConstant, StringConstant, OriginTree, ConstantOrigin, LocationOrigin, OffsetTree, RestrictedTree, SubjectTree, SingleSubject, GroupSubject, AtTree, ValueListTree, ItemTree, Here, names_in_restricted, names_in_subject, names_in_optional, names_in_item, ObjectType, Known, place_of, Block, Reach, ThisModule, OtherModulesToo, Extents, NoArray, Elements, AsListed, restricted_value, at_address, fill_value, fill, contents, enough_elements, place_of_origin, scalars_of_element, scalars_of_elements, names_parameter, is_base, base_of, typed_base, typed_type, is_plain, typed_at, typed_contents, typed_item, Member, ItemTypeTree, ScalarItem, StructureItem, TypedMember, has_member, DeclaredTwice, ParameterNotScalar, NoBase, MisplacedAt, MisplacedValues, BasedParameter, Fault, Checked, ◌>>=◌, require, place_of_item, place_of_storage, typed_members, members_in_type, twice_declared}
use Rattle.typing.proofs.Names.Meeting.{Meets, meets_ok, meets_then, meets_as, after_other, before_other, other_required}
use Rattle.typing.proofs.Names.ChecksWithoutNames.{not_of_names, constant-other, offsets-other, object-other, static-other, scalar-other, string-other, as_listed-other, bound-other, extents-other, dimension-other, linkage-other}
use Rattle.typing.proofs.Names.Bound.{IsUnknown, Finds, names_join, bound-finds}

-- constants and places
restricted_value-finds : (reach : Reach) (known : Known) (origin : OriginTree) (offsets : List OffsetTree)
    → Finds known.here (names_in_restricted (record { origin = origin; offsets = offsets })) []
    (restricted_value reach known origin offsets)
restricted_value-finds reach known (ConstantOrigin constant) offsets =
    after_other (constant-other constant) λ number _.
    after_other (offsets-other number offsets) λ sum _.
    meets_ok tt tt
restricted_value-finds reach known (LocationOrigin name) offsets =
    before_other
    (before_other (bound-finds known name) λ binding _. static-other reach known binding name) λ object _.
    after_other (offsets-other 0 offsets) λ offset _.
    meets_ok tt tt

fill_value-finds : (known : Known) (scalars : List ScalarType) (origin : OriginTree)
    (offsets : List OffsetTree)
    → Finds known.here (names_in_restricted (record { origin = origin; offsets = offsets })) []
    (fill_value known scalars origin offsets)
fill_value-finds known scalars (ConstantOrigin (StringConstant string)) [] =
    meets_as (λ _. tt) (λ refusal never. absurd never) (string-other string scalars)
fill_value-finds known scalars (ConstantOrigin (StringConstant string)) (offset ∷ others) =
    before_other
    (restricted_value-finds OtherModulesToo known
    (ConstantOrigin (StringConstant string)) (offset ∷ others))
    λ value _.
    scalar-other (place_of_origin (ConstantOrigin (StringConstant string))) scalars value
fill_value-finds known scalars (ConstantOrigin (NumberConstant number)) offsets =
    before_other
    (restricted_value-finds OtherModulesToo known (ConstantOrigin (NumberConstant number)) offsets)
    λ value _.
    scalar-other (place_of_origin (ConstantOrigin (NumberConstant number))) scalars value
fill_value-finds known scalars (LocationOrigin name) offsets =
    before_other (restricted_value-finds OtherModulesToo known (LocationOrigin name) offsets) λ value _.
    scalar-other (place_of_origin (LocationOrigin name)) scalars value

fill-finds : (known : Known) (values : List RestrictedTree) (scalars : List ScalarType)
    → Finds known.here (flat_map names_in_restricted values) [] (fill known values scalars)
fill-finds known [] scalars = meets_ok tt tt
fill-finds known (restricted ∷ others) scalars =
    meets_then
    (names_join known.here (names_in_restricted restricted) (flat_map names_in_restricted others) [] [])
    (fill_value-finds known scalars restricted.origin restricted.offsets) λ first _.
    before_other (fill-finds known others first.left) λ rest _.
    meets_ok tt tt

contents-finds : (known : Known) (place : Place) (object_type : ObjectType) (extents : Extents)
    (values : List RestrictedTree)
    → Finds known.here (flat_map names_in_restricted values) []
    (contents known place object_type extents values)
contents-finds known place object_type NoArray values =
    before_other (fill-finds known values (scalars_of_element object_type)) λ filled _.
    meets_ok tt tt
contents-finds known place object_type (Elements count) values =
    before_other (fill-finds known values (scalars_of_elements count object_type)) λ filled _.
    meets_ok tt tt
contents-finds known place object_type AsListed values =
    before_other (fill-finds known values (scalars_of_elements (enough_elements values) object_type))
    λ filled _.
    as_listed-other place _ _ filled.values

-- BASED, AT, and the list of INITIAL or DATA
base-finds : (known : Known) (block : Block) (subject : SubjectTree)
    → Finds known.here (names_in_subject subject) [] (typed_base known block subject (base_of subject))
base-finds known block (SingleSubject name None) = meets_ok tt tt
base-finds known block (SingleSubject name (Some base)) =
    after_other
    (other_required (not (names_parameter block (SingleSubject name (Some base))))
    BasedParameter (place_of base)
    not_of_names) λ _ _.
    before_other (bound-finds known base) λ binding _.
    after_other (bound-other binding (place_of base)) λ number _.
    after_other (object-other known base number) λ object _.
    after_other (other_required (is_base object) NoBase (place_of base) not_of_names) λ _ _.
    meets_ok tt tt
base-finds known block (GroupSubject names) = meets_ok tt tt

abbrev names_at : Option AtTree → List Identifier
names_at at = names_in_optional (λ (at : AtTree). names_in_restricted at.address) at

abbrev names_in_list : Option ValueListTree → List Identifier
names_in_list list =
    names_in_optional (λ (list : ValueListTree). flat_map names_in_restricted list.values) list

address-finds : (known : Known) (restricted : RestrictedTree)
    → Finds known.here (names_in_restricted restricted) [] (at_address known restricted)
address-finds known restricted =
    before_other (restricted_value-finds ThisModule known restricted.origin restricted.offsets) λ value _.
    meets_ok tt tt

at-finds : (known : Known) (block : Block) (item : ItemTree) (at : Option AtTree)
    → Finds known.here (names_at at) [] (typed_at known block item at)
at-finds known block item None = meets_ok tt tt
at-finds known block item (Some at) =
    after_other (other_required (is_plain block item) MisplacedAt at.place not_of_names) λ _ _.
    before_other (address-finds known at.address) λ address _.
    meets_ok tt tt

list-finds : (known : Known) (block : Block) (item : ItemTree) (object_type : ObjectType) (extents : Extents)
    (list : Option ValueListTree)
    → Finds known.here (names_in_list list) [] (typed_contents known block item object_type extents list)
list-finds known block item object_type extents None =
    contents-finds known (place_of_item item) object_type extents []
list-finds known block item object_type extents (Some list) =
    after_other
    (other_required (is_plain block item && is_none item.at) MisplacedValues (place_of_storage list.storage)
    not_of_names) λ _ _.
    contents-finds known (place_of_item item) object_type extents list.values

-- the members of a structure, which may have the names of others
once-meets : (member : Member) (test : Bool)
    → Meets (Unit {0}) (λ (refusal : Fault). twice_declared member ≡ refusal) (λ (a : Unit {0}). Unit {0})
    (require test DeclaredTwice (place_of member.name))
once-meets member true = meets_ok tt tt
once-meets member false = record { given = λ a e. absurd cc; refused = λ refusal e is_name. cc }

member-once : {A B : Type 0} (here : Here) (members : List Fault) (one : Fault) {result : Checked A}
    {next : A → Checked B}
    → Meets (Unit {0}) (λ (refusal : Fault). one ≡ refusal) (λ (a : A). Unit {0}) result
    → ((a : A) → Finds here [] members (next a))
    → Finds here [] (one ∷ members) (result >>= next)
member-once here members one once then_is =
    meets_then
    (record { both = λ one right. right; first = λ refusal is. inr (0, omega arith, is); second = λ _ refusal wrong. more refusal wrong })
    once λ a _. then_is a
  where
    more : (refusal : Fault) → IsUnknown here [] members refusal → IsUnknown here [] (one ∷ members) refusal
    more refusal (inl blamed) = inl blamed
    more refusal (inr member) = inr (Contains-append_right (one ∷ []) members refusal member)

members-find : (here : Here) (before : List TypedMember) (members : List Member)
    → Finds here [] (members_in_type (StructureItem members)) (typed_members before members)
members-find here before [] = meets_ok tt tt
members-find here before (member ∷ others) =
    member-once here (members_in_type (StructureItem others)) (twice_declared member)
    (once-meets member (not (has_member before member.name.name))) λ _.
    after_other (dimension-other member.dimension) λ dimension _.
    members-find here _ others

type-finds : (here : Here) (block : Block) (item : ItemTree) (type : ItemTypeTree)
    → Finds here [] (members_in_type type) (typed_type block item type)
type-finds here block item (ScalarItem scalar) = meets_ok tt tt
type-finds here block item (StructureItem members) =
    after_other
    (other_required (not (names_parameter block item.subject)) ParameterNotScalar (place_of_item item)
    not_of_names) λ _ _.
    before_other (members-find here [] members) λ typed _.
    meets_ok tt tt

pub item-finds : (known : Known) (block : Block) (item : ItemTree)
    → Finds known.here (names_in_item item) (members_in_type item.item_type) (typed_item known block item)
item-finds known block item =
    let here : Here = known.here in
    let members : List Fault = members_in_type item.item_type in
    let base : List Identifier = names_in_subject item.subject in
    let at : List Identifier = names_at item.at in
    let listed : List Identifier = names_in_list item.value_list in
    subst (λ (all : List Fault). Finds here (names_in_item item) all (typed_item known block item))
    (append-nil members)
    (subst (λ (names : List Identifier). Finds here names (members ++ []) (typed_item known block item))
    (sym (append_assoc base at listed))
    (meets_then (names_join here base (at ++ listed) [] (members ++ []))
    (base-finds known block item.subject) λ based _.
    after_other (extents-other block item item.dimension) λ extents _.
    meets_then (names_join here [] (at ++ listed) members [])
    (type-finds here block item item.item_type) λ object_type _.
    after_other (linkage-other block item item.linkage) λ _ _.
    meets_then (names_join here at listed [] []) (at-finds known block item item.at) λ placed _.
    before_other (list-finds known block item object_type extents item.value_list) λ filled _.
    meets_ok tt tt))
