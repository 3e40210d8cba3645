-- What a DECLARE declares: what the typing gives of it is what the rules give, and so is the fault.
use Rattle.typing_rules.proofs.Prelude.{not-false, not-true, ◌≡◌, ℕ, Bool, true, false, not, List, [], ◌∷◌, ◌++◌, Option, Some, None, Ok, Err, nat_le, refl, ap, slice_get, leb-true, leb-false, le-leb, lt-leb, Identifier, Place, Binding, Declared, BuiltInName, UnknownLabel, Object, Procedure, Label, Definition, binding_of, TypedMember, ObjectType, Cause, NoVariable, UnknownName, Fault, ◌>>=◌, require, Known, StandsFor, IsVariable, at_name}
use Rattle.std.specs.Prelude.{◌&&◌, ◌||◌, is_none, is_some}
use Rattle.trees.specs.declared.declaration.Dimension.{Dimension}
use Rattle.trees.specs.declared.declaration.Dimension.TheVariants.{Count, Implied}
use Rattle.trees.specs.declared.declaration.Linkage.{Linkage}
use Rattle.trees.specs.declared.declaration.Member.{Member}
use Rattle.trees.specs.declared.identifier.Number.{Number}
use Rattle.trees.specs.Trees.{ItemTypeTree, ScalarItem, StructureItem, AtTree, ValueListTree, SubjectTree, ItemTree, ElementTree, LiterallyElement, ItemElement}
use Rattle.names.specs.Environment.{Here, with_object, is_declared_again}
use Rattle.names.specs.DeclaredNames.{declared_by}
use Rattle.typed_trees.specs.declared.limits.TheConstants.{OBJECT_LIMIT, FRAME_LIMIT}
use Rattle.typed_trees.specs.declared.parts.AtAddress.{AtAddress}
use Rattle.typed_trees.specs.Sizes.{has_member}
use Rattle.typing.specs.declared.fault.Cause.TheVariants.{DeclaredTwice, ParameterNotScalar, NoBase, MisplacedLinkage, MisplacedAt, MisplacedValues, BasedParameter, ImpliedForGroup, ExternalContents, ZeroDimension, ImpliedWithoutValues, TooLarge}
use Rattle.typing.specs.Blocks.{Block, Progress, is_external, is_module_level, declares_parameter, place_of_linkage}
use Rattle.typing.specs.Filling.{ThisModule, Extents, Contents}
use Rattle.typing.specs.internal.ItemChecks.{declare_names, object_bound, typed_base, extents_of, member_dimension, typed_members, typed_type, check_linkage, typed_at, typed_contents, with_objects, typed_item, declare_element, declare_elements}
use Rattle.typing.specs.Items.{is_group, names_parameter, base_of, place_of_item, is_base, is_plain, place_of_storage, TypedItem, object_named, with_typed_object, size_of_item}
use Rattle.typing.specs.internal.ReferenceChecks.{object_of}
use Rattle.typing_rules.specs.Items.{AreNewNames, no_names, next_name, BaseTyping, no_base, a_base, ExtentsTyping, no_extents, counted, implied, DimensionTyping, no_elements, some_elements, MembersTyping, no_members, next_member, TypeTyping, scalar_type, structure_type, ItemLinkageStands, private_item, shared_item, AtTyping, not_placed, is_placed, ListTypingOf, without_list, with_list_of, ItemTyping, an_item, ObjectsTyping, no_objects, next_object, ElementTyping, a_definition, of_item, ElementsTyping, no_more_elements, next_element}
use Rattle.typing_rules.specs.ItemFaults.{NamesFault, name_again, external_contents, in_other_names, BaseFault, based_parameter, unknown_base, base_is_no_variable, wrong_base, ExtentsFault, zero_dimension, array_parameter, implied_parameter, implied_for_group, implied_without_list, DimensionFault, zero_of_member, MembersFault, member_again, in_dimension, in_other_members, TypeFault, structure_parameter, in_members, ItemLinkageFault, misplaced_item_linkage, AtFault, misplaced_at, in_at, ListFaultOf, in_no_list, misplaced_values, in_values_of_list, ItemFault, in_base, in_extents, in_type, in_linkage, in_place, in_list_of_item, ObjectsFault, frame_too_large, in_other_objects, ElementFault, definition_again, external_definition, in_names, in_item, item_too_large, in_objects, ElementsFault, in_first_element, in_other_elements}
use Rattle.typing_rules.proofs.Judged.{Judged, judged_ok, judged_fault, then_judged, judged_more, then_when, then_found, fault_of, then_ok, then_fault, passed, failed, got, got_none}
use Rattle.typing_rules.proofs.ReferencesJudged.{is_no_variable}
use Rattle.typing_rules.proofs.ExpressionsRefused.{is_nothing, NoObject, no_object}
use Rattle.typing_rules.proofs.FillingTyped.{restricted_judged, restricted_is, restricted_fault, contents_judged, contents_are, contents_fault}

-- a condition that stands alone, with something else as its result
is_required : {P : Type 0} {S : Fault → Type 0} (test : Bool) (cause : Cause) (place : Place)
    → (test ≡ false → S (fault_of cause place))
    → (test ≡ true → P)
    → Judged (λ _. P) S (require test cause place)
is_required true cause place fails is = judged_ok (is refl)
is_required false cause place fails is = judged_fault (fails refl)

-- names
pub names_judged : (block : Block) (names : List Identifier) (here : Here)
    → Judged (AreNewNames block here names) (NamesFault block here names) (declare_names block names here)
names_judged block [] here = judged_ok no_names
names_judged block (name ∷ others) here =
    then_when (not (is_declared_again here name.name)) DeclaredTwice name.place
    (λ again. name_again (not-false _ again)) (λ _ new.
    then_when (not (is_external block.owner) || declares_parameter block name.name)
    ExternalContents name.place
    (λ other. external_contents (not-true _ new) other) (λ _ own.
    judged_more (names_judged block others (with_object name.name here))
    (λ fault is. in_other_names (not-true _ new) own is)
    (λ after are. next_name (not-true _ new) own are)))

names_are : {block : Block} {here after : Here} {names : List Identifier}
    → AreNewNames block here names after
    → declare_names block names here ≡ Ok after
names_are no_names = refl
names_are (next_name new own others) =
    then_ok _ (passed _ _ (ap not new)) (then_ok _ (passed _ _ own) (names_are others))

names_fault : {block : Block} {here : Here} {names : List Identifier} {fault : Fault}
    → NamesFault block here names fault
    → declare_names block names here ≡ Err fault
names_fault (name_again again) = then_fault _ (failed _ _ (ap not again))
names_fault (external_contents new other) =
    then_ok _ (passed _ _ (ap not new)) (then_fault _ (failed _ _ other))
names_fault (in_other_names new own is) =
    then_ok _ (passed _ _ (ap not new)) (then_ok _ (passed _ _ own) (names_fault is))

-- bases
base_bound_judged : (known : Known) (block : Block) (subject : SubjectTree)
    (name : Identifier) (binding : Binding)
    → names_parameter block subject ≡ false
    → StandsFor known name binding
    → Judged (BaseTyping known block subject (Some name)) (BaseFault known block subject (Some name))
    (object_bound binding name.place >>= λ number. object_of known name number
    >>= λ object. require (is_base object) NoBase name.place >>= λ _. Ok (Some number))
base_bound_judged known block subject name (Declared (Object number)) own named =
    then_found (slice_get known.objects number) NoVariable name.place
    (λ none. base_is_no_variable own (is_no_variable _ named (λ other object e listed. absurd cc)))
    (λ object listed.
    let is : IsVariable known name number object = record { named = named; listed = listed } in
    then_when (is_base object) NoBase name.place (λ wrong. wrong_base own is wrong)
    (λ _ right. judged_ok (a_base own is right)))
base_bound_judged known block subject name (Declared (Procedure number)) own named =
    judged_fault (base_is_no_variable own (is_no_variable _ named (λ other object e listed. absurd cc)))
base_bound_judged known block subject name (Declared (Label number)) own named =
    judged_fault (base_is_no_variable own (is_no_variable _ named (λ other object e listed. absurd cc)))
base_bound_judged known block subject name (Declared Definition) own named =
    judged_fault (base_is_no_variable own (is_no_variable _ named (λ other object e listed. absurd cc)))
base_bound_judged known block subject name (BuiltInName built_in) own named =
    judged_fault (base_is_no_variable own (is_no_variable _ named (λ other object e listed. absurd cc)))
base_bound_judged known block subject name UnknownLabel own named =
    judged_fault (base_is_no_variable own (is_no_variable _ named (λ other object e listed. absurd cc)))

base_judged : (known : Known) (block : Block) (subject : SubjectTree) (base : Option Identifier)
    → Judged (BaseTyping known block subject base) (BaseFault known block subject base)
    (typed_base known block subject base)
base_judged known block subject None = judged_ok no_base
base_judged known block subject (Some name) =
    then_when (not (names_parameter block subject)) BasedParameter name.place
    (λ parameter. based_parameter (not-false _ parameter))
    (λ _ own.
    then_found (binding_of known.here name.name) UnknownName name.place
    (λ none. unknown_base (not-true _ own) none) (λ binding named.
    base_bound_judged known block subject name binding (not-true _ own) named))

base_is : {known : Known} {block : Block} {subject : SubjectTree}
    {base : Option Identifier} {number : Option ℕ}
    → BaseTyping known block subject base number
    → typed_base known block subject base ≡ Ok number
base_is no_base = refl
base_is (a_base own is right) =
    then_ok _ (passed _ _ (ap not own)) (then_ok _ (got _ _ is.named) (then_ok _ (got _ _ is.listed)
    (then_ok _ (passed _ _ right) refl)))

no_base_is : (known : Known) (name : Identifier) (binding : Binding)
    → NoObject known binding
    → (object_bound binding name.place >>= λ number. object_of known name number
    >>= λ object. require (is_base object) NoBase name.place >>= λ _. Ok (Some number))
    ≡ Err (at_name NoVariable name)
no_base_is known name (Declared (Object number)) none =
    then_fault _
    (got_none _ _ (is_nothing (slice_get known.objects number) (λ object e. none number object refl e)))
no_base_is known name (Declared (Procedure number)) none = refl
no_base_is known name (Declared (Label number)) none = refl
no_base_is known name (Declared Definition) none = refl
no_base_is known name (BuiltInName built_in) none = refl
no_base_is known name UnknownLabel none = refl

base_fault : {known : Known} {block : Block} {subject : SubjectTree}
    {base : Option Identifier} {fault : Fault}
    → BaseFault known block subject base fault
    → typed_base known block subject base ≡ Err fault
base_fault (based_parameter parameter) = then_fault _ (failed _ _ (ap not parameter))
base_fault (unknown_base own none) = then_ok _ (passed _ _ (ap not own)) (then_fault _ (got_none _ _ none))
base_fault {known = known} (base_is_no_variable {name = name} own is) =
    then_ok _ (passed _ _ (ap not own))
    (then_ok _ (got _ _ is.named) (no_base_is known name is.binding (no_object is)))
base_fault (wrong_base own is wrong) =
    then_ok _ (passed _ _ (ap not own)) (then_ok _ (got _ _ is.named) (then_ok _ (got _ _ is.listed)
    (then_fault _ (failed _ _ wrong))))

-- dimensions
the_list : {A : Type 0} (option : Option A) → is_some option ≡ true → (a : A) × (option ≡ Some a)
the_list (Some a) e = (a, refl)
the_list None e = absurd cc

no_list : {A : Type 0} (option : Option A) → is_some option ≡ false → option ≡ None
no_list (Some a) e = absurd cc
no_list None e = refl

extents_judged : (block : Block) (item : ItemTree) (dimension : Option Dimension)
    → Judged (ExtentsTyping block item dimension) (ExtentsFault block item dimension)
    (extents_of block item dimension)
extents_judged block item None = judged_ok no_extents
extents_judged block item (Some (Count number)) =
    then_when (nat_le 1 number.value) ZeroDimension number.place
    (λ zero. zero_dimension (leb-false _ _ zero)) (λ _ some.
    then_when (not (names_parameter block item.subject)) ParameterNotScalar number.place
    (λ parameter. array_parameter (leb-true _ _ some) (not-false _ parameter)) (λ _ own.
    judged_ok (counted (leb-true _ _ some) (not-true _ own))))
extents_judged block item (Some Implied) =
    then_when (not (names_parameter block item.subject)) ParameterNotScalar (place_of_item item)
    (λ parameter. implied_parameter (not-false _ parameter)) (λ _ own.
    then_when (not (is_group item.subject)) ImpliedForGroup (place_of_item item)
    (λ group. implied_for_group (not-true _ own) (not-false _ group)) (λ _ single.
    then_when (is_some item.value_list) ImpliedWithoutValues (place_of_item item)
    (λ none. implied_without_list (not-true _ own) (not-true _ single) (no_list item.value_list none))
    (λ _ some.
    judged_ok (implied (not-true _ own) (not-true _ single) (the_list item.value_list some).1))))

extents_are : {block : Block} {item : ItemTree} {dimension : Option Dimension} {extents : Extents}
    → ExtentsTyping block item dimension extents
    → extents_of block item dimension ≡ Ok extents
extents_are no_extents = refl
extents_are (counted some own) =
    then_ok _ (passed _ _ (le-leb _ _ some)) (then_ok _ (passed _ _ (ap not own)) refl)
extents_are (implied own single list) =
    then_ok _ (passed _ _ (ap not own))
    (then_ok _ (passed _ _ (ap not single)) (then_ok _ (passed _ _ (ap is_some list)) refl))

extents_fault : {block : Block} {item : ItemTree} {dimension : Option Dimension} {fault : Fault}
    → ExtentsFault block item dimension fault
    → extents_of block item dimension ≡ Err fault
extents_fault (zero_dimension zero) = then_fault _ (failed _ _ (lt-leb _ _ zero))
extents_fault (array_parameter some parameter) =
    then_ok _ (passed _ _ (le-leb _ _ some)) (then_fault _ (failed _ _ (ap not parameter)))
extents_fault (implied_parameter parameter) = then_fault _ (failed _ _ (ap not parameter))
extents_fault (implied_for_group own group) =
    then_ok _ (passed _ _ (ap not own)) (then_fault _ (failed _ _ (ap not group)))
extents_fault (implied_without_list own single none) =
    then_ok _ (passed _ _ (ap not own))
    (then_ok _ (passed _ _ (ap not single)) (then_fault _ (failed _ _ (ap is_some none))))

-- members
dimension_judged : (number : Option Number)
    → Judged (DimensionTyping number) (DimensionFault number) (member_dimension number)
dimension_judged None = judged_ok no_elements
dimension_judged (Some number) =
    then_when (nat_le 1 number.value) ZeroDimension number.place
    (λ zero. zero_of_member (leb-false _ _ zero)) (λ _ some.
    judged_ok (some_elements (leb-true _ _ some)))

dimension_is : {number : Option Number} {dimension : Option ℕ}
    → DimensionTyping number dimension
    → member_dimension number ≡ Ok dimension
dimension_is no_elements = refl
dimension_is (some_elements some) = then_ok _ (passed _ _ (le-leb _ _ some)) refl

dimension_fault : {number : Option Number} {fault : Fault} → DimensionFault number fault
    → member_dimension number ≡ Err fault
dimension_fault (zero_of_member zero) = then_fault _ (failed _ _ (lt-leb _ _ zero))

members_judged : (members : List Member) (before : List TypedMember)
    → Judged (MembersTyping before members) (MembersFault before members) (typed_members before members)
members_judged [] before = judged_ok no_members
members_judged (member ∷ others) before =
    then_when (not (has_member before member.name.name)) DeclaredTwice member.name.place
    (λ again. member_again (not-false _ again)) (λ _ new.
    then_judged (dimension_judged member.dimension)
    (λ fault is. in_dimension (not-true _ new) is) (λ dimension is.
    judged_more (members_judged others
    (before ++ record { name = member.name.name; dimension = dimension; scalar = member.scalar } ∷ []))
    (λ fault its. in_other_members (not-true _ new) is its) (λ all its. next_member (not-true _ new) is its)))

members_are : {before all : List TypedMember} {members : List Member}
    → MembersTyping before members all
    → typed_members before members ≡ Ok all
members_are no_members = refl
members_are (next_member new is others) =
    then_ok _ (passed _ _ (ap not new)) (then_ok _ (dimension_is is) (members_are others))

members_fault : {before : List TypedMember} {members : List Member} {fault : Fault}
    → MembersFault before members fault
    → typed_members before members ≡ Err fault
members_fault (member_again again) = then_fault _ (failed _ _ (ap not again))
members_fault (in_dimension new is) = then_ok _ (passed _ _ (ap not new)) (then_fault _ (dimension_fault is))
members_fault (in_other_members new is others) =
    then_ok _ (passed _ _ (ap not new)) (then_ok _ (dimension_is is) (members_fault others))

-- types
type_judged : (block : Block) (item : ItemTree) (tree : ItemTypeTree)
    → Judged (TypeTyping block item tree) (TypeFault block item tree) (typed_type block item tree)
type_judged block item (ScalarItem scalar) = judged_ok scalar_type
type_judged block item (StructureItem members) =
    then_when (not (names_parameter block item.subject)) ParameterNotScalar (place_of_item item)
    (λ parameter. structure_parameter (not-false _ parameter)) (λ _ own.
    then_judged (members_judged members []) (λ fault is. in_members (not-true _ own) is) (λ typed is.
    judged_ok (structure_type (not-true _ own) is)))

type_is : {block : Block} {item : ItemTree} {tree : ItemTypeTree} {object_type : ObjectType}
    → TypeTyping block item tree object_type
    → typed_type block item tree ≡ Ok object_type
type_is scalar_type = refl
type_is (structure_type own is) = then_ok _ (passed _ _ (ap not own)) (then_ok _ (members_are is) refl)

type_fault : {block : Block} {item : ItemTree} {tree : ItemTypeTree} {fault : Fault}
    → TypeFault block item tree fault
    → typed_type block item tree ≡ Err fault
type_fault (structure_parameter parameter) = then_fault _ (failed _ _ (ap not parameter))
type_fault (in_members own is) = then_ok _ (passed _ _ (ap not own)) (then_fault _ (members_fault is))

-- PUBLIC and EXTERNAL
item_linkage_judged : (block : Block) (item : ItemTree) (linkage : Option Linkage)
    → Judged (λ _. ItemLinkageStands block item linkage) (ItemLinkageFault block item linkage)
    (check_linkage block item linkage)
item_linkage_judged block item None = judged_ok private_item
item_linkage_judged block item (Some linkage) =
    is_required (is_module_level block && is_none (base_of item.subject)) MisplacedLinkage
    (place_of_linkage linkage)
    misplaced_item_linkage shared_item

item_linkage_is : {block : Block} {item : ItemTree} {linkage : Option Linkage}
    → ItemLinkageStands block item linkage
    → check_linkage block item linkage ≡ Ok tt
item_linkage_is private_item = refl
item_linkage_is (shared_item is) = passed _ _ is

item_linkage_fault : {block : Block} {item : ItemTree} {linkage : Option Linkage} {fault : Fault}
    → ItemLinkageFault block item linkage fault
    → check_linkage block item linkage ≡ Err fault
item_linkage_fault (misplaced_item_linkage is) = failed _ _ is

-- AT
at_judged : (known : Known) (block : Block) (item : ItemTree) (at : Option AtTree)
    → Judged (AtTyping known block item at) (AtFault known block item at) (typed_at known block item at)
at_judged known block item None = judged_ok not_placed
at_judged known block item (Some at) =
    then_when (is_plain block item) MisplacedAt at.place misplaced_at (λ _ plain.
    then_judged
    (then_judged (restricted_judged ThisModule known at.address.origin at.address.offsets)
    (λ fault is. in_at plain is) (λ value is.
    judged_ok (is_placed plain is)))
    (λ fault is. is) (λ address is. judged_ok is))

at_is : {known : Known} {block : Block} {item : ItemTree} {at : Option AtTree} {address : Option AtAddress}
    → AtTyping known block item at address
    → typed_at known block item at ≡ Ok address
at_is not_placed = refl
at_is (is_placed plain is) = then_ok _ (passed _ _ plain) (then_ok _ (then_ok _ (restricted_is is) refl) refl)

at_fault : {known : Known} {block : Block} {item : ItemTree} {at : Option AtTree} {fault : Fault}
    → AtFault known block item at fault
    → typed_at known block item at ≡ Err fault
at_fault (misplaced_at wrong) = then_fault _ (failed _ _ wrong)
at_fault (in_at plain is) = then_ok _ (passed _ _ plain) (then_fault _ (then_fault _ (restricted_fault is)))

-- INITIAL and DATA
list_judged : (known : Known) (block : Block) (item : ItemTree) (object_type : ObjectType) (extents : Extents)
    (list : Option ValueListTree)
    → Judged (ListTypingOf known block item object_type extents list)
    (ListFaultOf known block item object_type extents list)
    (typed_contents known block item object_type extents list)
list_judged known block item object_type extents None =
    judged_more (contents_judged known (place_of_item item) object_type extents [])
    (λ fault is. in_no_list is) (λ found is. without_list is)
list_judged known block item object_type extents (Some list) =
    then_when (is_plain block item && is_none item.at) MisplacedValues (place_of_storage list.storage)
    misplaced_values (λ _ plain.
    judged_more (contents_judged known (place_of_item item) object_type extents list.values)
    (λ fault is. in_values_of_list plain is)
    (λ found is. with_list_of plain is))

list_is : {known : Known} {block : Block} {item : ItemTree} {object_type : ObjectType} {extents : Extents}
    {list : Option ValueListTree} {found : Contents}
    → ListTypingOf known block item object_type extents list found
    → typed_contents known block item object_type extents list ≡ Ok found
list_is {item = item} (without_list is) = contents_are (place_of_item item) is
list_is {item = item} (with_list_of plain is) =
    then_ok _ (passed _ _ plain) (contents_are (place_of_item item) is)

list_fault : {known : Known} {block : Block} {item : ItemTree} {object_type : ObjectType} {extents : Extents}
    {list : Option ValueListTree} {fault : Fault}
    → ListFaultOf known block item object_type extents list fault
    → typed_contents known block item object_type extents list ≡ Err fault
list_fault (in_no_list is) = contents_fault is
list_fault (misplaced_values wrong) = then_fault _ (failed _ _ wrong)
list_fault (in_values_of_list plain is) = then_ok _ (passed _ _ plain) (contents_fault is)

-- items
item_judged : (known : Known) (block : Block) (item : ItemTree)
    → Judged (ItemTyping known block item) (ItemFault known block item) (typed_item known block item)
item_judged known block item =
    then_judged (base_judged known block item.subject (base_of item.subject))
    (λ fault is. in_base is) (λ base is.
    then_judged (extents_judged block item item.dimension) (λ fault its. in_extents is its) (λ extents one.
    then_judged (type_judged block item item.item_type) (λ fault its. in_type is one its) (λ object_type two.
    then_judged (item_linkage_judged block item item.linkage)
    (λ fault its. in_linkage is one two its) (λ _ three.
    then_judged (at_judged known block item item.at) (λ fault its. in_place is one two three its) (λ at four.
    then_judged (list_judged known block item object_type extents item.value_list)
    (λ fault its. in_list_of_item is one two three four its) (λ filled five.
    judged_ok (an_item is one two three four five)))))))

item_is : {known : Known} {block : Block} {item : ItemTree} {typed : TypedItem}
    → ItemTyping known block item typed
    → typed_item known block item ≡ Ok typed
item_is (an_item base extents its_type linkage at list) =
    then_ok _ (base_is base)
    (then_ok _ (extents_are extents) (then_ok _ (type_is its_type) (then_ok _ (item_linkage_is linkage)
    (then_ok _ (at_is at) (then_ok _ (list_is list) refl)))))

item_fault : {known : Known} {block : Block} {item : ItemTree} {fault : Fault}
    → ItemFault known block item fault
    → typed_item known block item ≡ Err fault
item_fault (in_base is) = then_fault _ (base_fault is)
item_fault (in_extents base is) = then_ok _ (base_is base) (then_fault _ (extents_fault is))
item_fault (in_type base extents is) =
    then_ok _ (base_is base) (then_ok _ (extents_are extents) (then_fault _ (type_fault is)))
item_fault (in_linkage base extents its_type is) =
    then_ok _ (base_is base)
    (then_ok _ (extents_are extents) (then_ok _ (type_is its_type)
    (then_fault _ (item_linkage_fault is))))
item_fault (in_place base extents its_type linkage is) =
    then_ok _ (base_is base)
    (then_ok _ (extents_are extents) (then_ok _ (type_is its_type) (then_ok _ (item_linkage_is linkage)
    (then_fault _ (at_fault is)))))
item_fault (in_list_of_item base extents its_type linkage at is) =
    then_ok _ (base_is base)
    (then_ok _ (extents_are extents) (then_ok _ (type_is its_type) (then_ok _ (item_linkage_is linkage)
    (then_ok _ (at_is at) (then_fault _ (list_fault is))))))

-- objects
objects_judged : (block : Block) (item : TypedItem) (names : List Identifier) (progress : Progress)
    → Judged (ObjectsTyping block item progress names) (ObjectsFault block item progress names)
    (with_objects block item names progress)
objects_judged block item [] progress = judged_ok no_objects
objects_judged block item (name ∷ others) progress =
    then_when
    (nat_le (with_typed_object item.linkage (object_named block item name.name) progress).frame
    FRAME_LIMIT) TooLarge name.place
    (λ over. frame_too_large (leb-false _ _ over)) (λ _ fits.
    judged_more
    (objects_judged block item others (with_typed_object item.linkage
    (object_named block item name.name) progress))
    (λ fault is. in_other_objects (leb-true _ _ fits) is) (λ after is. next_object (leb-true _ _ fits) is))

objects_are : {block : Block} {item : TypedItem} {names : List Identifier} {progress after : Progress}
    → ObjectsTyping block item progress names after
    → with_objects block item names progress ≡ Ok after
objects_are no_objects = refl
objects_are (next_object fits others) = then_ok _ (passed _ _ (le-leb _ _ fits)) (objects_are others)

objects_fault : {block : Block} {item : TypedItem} {names : List Identifier}
    {progress : Progress} {fault : Fault}
    → ObjectsFault block item progress names fault
    → with_objects block item names progress ≡ Err fault
objects_fault (frame_too_large over) = then_fault _ (failed _ _ (lt-leb _ _ over))
objects_fault (in_other_objects fits others) = then_ok _ (passed _ _ (le-leb _ _ fits)) (objects_fault others)

-- elements
element_judged : (block : Block) (element : ElementTree) (progress : Progress)
    → Judged (ElementTyping block progress element) (ElementFault block progress element)
    (declare_element block element progress)
element_judged block (LiterallyElement name text) progress =
    then_when (not (is_declared_again progress.known.here name.name)) DeclaredTwice name.place
    (λ again. definition_again (not-false _ again))
    (λ _ new.
    then_when (not (is_external block.owner)) ExternalContents name.place
    (λ external. external_definition (not-true _ new) (not-false _ external))
    (λ _ own. judged_ok (a_definition (not-true _ new) (not-true _ own))))
element_judged block (ItemElement item) progress =
    then_judged (names_judged block (declared_by item.subject) progress.known.here)
    (λ fault are. in_names are) (λ here are.
    then_judged (item_judged progress.known block item) (λ fault is. in_item are is) (λ typed is.
    then_when (nat_le (size_of_item typed) OBJECT_LIMIT) TooLarge (place_of_item item)
    (λ over. item_too_large are is (leb-false _ _ over)) (λ _ fits.
    then_judged (objects_judged block typed (declared_by item.subject) progress)
    (λ fault its. in_objects are is (leb-true _ _ fits) its) (λ declared its.
    judged_ok (of_item are is (leb-true _ _ fits) its)))))

element_is : {block : Block} {element : ElementTree} {progress after : Progress}
    → ElementTyping block progress element after
    → declare_element block element progress ≡ Ok after
element_is (a_definition new own) =
    then_ok _ (passed _ _ (ap not new)) (then_ok _ (passed _ _ (ap not own)) refl)
element_is (of_item names is fits objects) =
    then_ok _ (names_are names)
    (then_ok _ (item_is is) (then_ok _ (passed _ _ (le-leb _ _ fits))
    (then_ok _ (objects_are objects) refl)))

element_fault : {block : Block} {element : ElementTree} {progress : Progress} {fault : Fault}
    → ElementFault block progress element fault
    → declare_element block element progress ≡ Err fault
element_fault (definition_again again) = then_fault _ (failed _ _ (ap not again))
element_fault (external_definition new external) =
    then_ok _ (passed _ _ (ap not new)) (then_fault _ (failed _ _ (ap not external)))
element_fault (in_names is) = then_fault _ (names_fault is)
element_fault (in_item names is) = then_ok _ (names_are names) (then_fault _ (item_fault is))
element_fault (item_too_large names is over) =
    then_ok _ (names_are names) (then_ok _ (item_is is) (then_fault _ (failed _ _ (lt-leb _ _ over))))
element_fault (in_objects names is fits objects) =
    then_ok _ (names_are names)
    (then_ok _ (item_is is) (then_ok _ (passed _ _ (le-leb _ _ fits))
    (then_fault _ (objects_fault objects))))

pub elements_judged : (block : Block) (elements : List ElementTree) (progress : Progress)
    → Judged (ElementsTyping block progress elements) (ElementsFault block progress elements)
    (declare_elements block elements progress)
elements_judged block [] progress = judged_ok no_more_elements
elements_judged block (first ∷ others) progress =
    then_judged (element_judged block first progress) (λ fault is. in_first_element is) (λ middle is.
    judged_more (elements_judged block others middle) (λ fault its. in_other_elements is its)
    (λ after its. next_element is its))

pub elements_are : {block : Block} {elements : List ElementTree} {progress after : Progress}
    → ElementsTyping block progress elements after
    → declare_elements block elements progress ≡ Ok after
elements_are no_more_elements = refl
elements_are (next_element is others) = then_ok _ (element_is is) (elements_are others)

pub elements_fault : {block : Block} {elements : List ElementTree} {progress : Progress} {fault : Fault}
    → ElementsFault block progress elements fault
    → declare_elements block elements progress ≡ Err fault
elements_fault (in_first_element is) = then_fault _ (element_fault is)
elements_fault (in_other_elements is others) = then_ok _ (element_is is) (elements_fault others)
