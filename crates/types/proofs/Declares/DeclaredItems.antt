-- What an item declares is typed as it says.
use Rattle.types.proofs.Prelude.{◌≡◌, ℕ, ◌&&◌, Bool, true, false, List, [], ◌∷◌, ◌++◌, map, Option, None, Some, option_map, option_map_or, is_none, is_some, not, nat_lt, if◌then◌else◌, refl, sym, ap, ◌∙◌, subst, append_assoc, append-nil, Gives, gives_ok, gives_after, in_turn, then_more, ItemTree, Member, TypedMember, has_member, DeclaredTwice, ParameterNotScalar, NoBase, MisplacedAt, MisplacedValues, BasedParameter, ImpliedForGroup, ZeroDimension, ImpliedWithoutValues, require, place_of, Block, is_external_linkage, TypedItem, place_of_item, member_dimension, typed_item, typed_members, FitsDimension, first_word, member_of, type_of_item, word_of_home, word_of_item, SaysNothing, Place}
use Rattle.trees.specs.{Trees.{AtTree, ItemTypeTree, RestrictedTree, ScalarItem, StructureItem, SubjectTree, ValueListTree}, declared.declaration.Dimension.{Dimension, TheVariants.{Count, Implied}}, declared.identifier.{Identifier.{Identifier}, Number.{Number}}}
use Rattle.typed_trees.specs.{Sizes.{scalars_of_element, scalars_of_elements}, TypedTrees.{BasedOn, Elsewhere, Home, InConstants, InData, InFrame, Nowhere, ObjectType, Placed, StructureObject}, declared.parts.{AtAddress.{AtAddress}, InitialValue.{InitialValue}}}
use Rattle.typing.specs.{Blocks.{OfProcedure, Owner, TheModule}, Filling.{AsListed, Contents, Elements, Extents, NoArray, elements_for, enough_elements}, Items.{base_of, home_in, home_of, home_with_values, is_base, is_data, is_group, is_plain, names_parameter, place_of_storage}, References.{Known}, internal.FillingChecks.{at_address, contents, contents_as_listed, fill}, internal.ItemChecks.{check_linkage, extents_of, object_bound, typed_at, typed_base, typed_contents, typed_type}, internal.ReferenceChecks.{bound, object_of}}

-- BASED
base_is : (known : Known) (block : Block) (subject : SubjectTree) (name : Option Identifier)
    → Gives (λ (base : Option ℕ). is_some base ≡ is_some name) (typed_base known block subject name)
base_is known block subject None = gives_ok refl
base_is known block subject (Some name) =
    gives_after (require (not (names_parameter block subject)) BasedParameter (place_of name)) λ plain.
    gives_after (bound known name) λ binding.
    gives_after (object_bound binding (place_of name)) λ number.
    gives_after (object_of known name number) λ object.
    gives_after (require (is_base object) NoBase (place_of name)) λ fits.
    gives_ok refl

-- a dimension
abbrev FitsExtents : Option Dimension → Extents → Type 0
FitsExtents None extents = extents ≡ NoArray
FitsExtents (Some (Count number)) extents = extents ≡ Elements number.value
FitsExtents (Some Implied) extents = extents ≡ AsListed

extents_fit : (block : Block) (item : ItemTree) (dimension : Option Dimension)
    → Gives (FitsExtents dimension) (extents_of block item dimension)
extents_fit block item None = gives_ok refl
extents_fit block item (Some (Count number)) =
    gives_after (require _ ZeroDimension number.place) λ some.
    gives_after (require (not (names_parameter block item.subject)) ParameterNotScalar number.place) λ plain.
    gives_ok refl
extents_fit block item (Some Implied) =
    gives_after (require (not (names_parameter block item.subject)) ParameterNotScalar (place_of_item item))
    λ plain.
    gives_after (require (not (is_group item.subject)) ImpliedForGroup (place_of_item item)) λ single.
    gives_after (require (is_some item.value_list) ImpliedWithoutValues (place_of_item item)) λ listed.
    gives_ok refl

as_listed : (place : Place) (used each : ℕ) (values : List InitialValue)
    → Gives (λ (found : Contents). is_some found.dimension ≡ true) (contents_as_listed place used each values)
as_listed place used each values =
    gives_after (require (nat_lt 0 used) ImpliedWithoutValues place) λ some.
    gives_ok refl

contents_fit : (known : Known) (place : Place) (object_type : ObjectType)
    (dimension : Option Dimension) (extents : Extents)
    (values : List RestrictedTree)
    → FitsExtents dimension extents
    → Gives (λ (found : Contents). FitsDimension dimension found.dimension)
    (contents known place object_type extents values)
contents_fit known place object_type None extents values is =
    subst
    (λ (one : Extents).
    Gives (λ (found : Contents). found.dimension ≡ None)
    (contents known place object_type one values)) (sym is)
    (gives_after (fill known values (scalars_of_element object_type)) λ filled. gives_ok refl)
contents_fit known place object_type (Some (Count number)) extents values is =
    subst
    (λ (one : Extents).
    Gives (λ (found : Contents). found.dimension ≡ Some number.value)
    (contents known place object_type one values))
    (sym is)
    (gives_after (fill known values (scalars_of_elements number.value object_type)) λ filled. gives_ok refl)
contents_fit known place object_type (Some Implied) extents values is =
    subst
    (λ (one : Extents).
    Gives (λ (found : Contents). is_some found.dimension ≡ true)
    (contents known place object_type one values)) (sym is)
    (gives_after (fill known values (scalars_of_elements (enough_elements values) object_type)) λ filled.
    as_listed place _ _ filled.values)

typed_contents_fit : (known : Known) (block : Block) (item : ItemTree)
    (object_type : ObjectType) (extents : Extents)
    (list : Option ValueListTree)
    → FitsExtents item.dimension extents
    → Gives (λ (found : Contents). FitsDimension item.dimension found.dimension)
    (typed_contents known block item object_type extents list)
typed_contents_fit known block item object_type extents None is =
    contents_fit known (place_of_item item) object_type item.dimension extents [] is
typed_contents_fit known block item object_type extents (Some list) is =
    gives_after
    (require (is_plain block item && is_none item.at) MisplacedValues (place_of_storage list.storage))
    λ plain.
    contents_fit known (place_of_item item) object_type item.dimension extents list.values is

-- a type
dimension_is : (dimension : Option Number)
    → Gives (λ (found : Option ℕ). found ≡ option_map (λ (number : Number). number.value) dimension)
    (member_dimension dimension)
dimension_is None = gives_ok refl
dimension_is (Some number) = gives_after (require _ ZeroDimension number.place) λ some. gives_ok refl

members_are : (before : List TypedMember) (members : List Member)
    → Gives (λ (typed : List TypedMember). typed ≡ before ++ map member_of members)
    (typed_members before members)
members_are before [] = gives_ok (sym (append-nil before))
members_are before (member ∷ others) =
    let it : Option ℕ → TypedMember =
    λ dimension. record { name = member.name.name; dimension = dimension; scalar = member.scalar } in
    gives_after (require (not (has_member before member.name.name)) DeclaredTwice (place_of member.name))
    λ once.
    in_turn (dimension_is member.dimension) λ dimension is.
    then_more (members_are (before ++ it dimension ∷ []) others) λ typed same.
    same ∙ append_assoc before (it dimension ∷ []) (map member_of others)
    ∙ ap (λ (found : Option ℕ). before ++ it found ∷ map member_of others) is

type_is : (block : Block) (item : ItemTree) (tree : ItemTypeTree)
    → Gives (λ (object_type : ObjectType). object_type ≡ type_of_item tree) (typed_type block item tree)
type_is block item (ScalarItem scalar) = gives_ok refl
type_is block item (StructureItem members) =
    gives_after (require (not (names_parameter block item.subject)) ParameterNotScalar (place_of_item item))
    λ plain.
    in_turn (members_are [] members) λ typed same.
    gives_ok (ap StructureObject same)

-- AT
at_is : (known : Known) (block : Block) (item : ItemTree) (at : Option AtTree)
    → Gives (λ (found : Option AtAddress). is_some found ≡ is_some at) (typed_at known block item at)
at_is known block item None = gives_ok refl
at_is known block item (Some at) =
    gives_after (require (is_plain block item) MisplacedAt at.place) λ plain.
    gives_after (at_address known at.address) λ address.
    gives_ok refl

-- where it lives
usual : (owner : Owner) (values : List InitialValue) → word_of_home (home_in owner values) ≡ SaysNothing
usual TheModule values = refl
usual (OfProcedure number heading) values =
    by (is_external_linkage heading.linkage) (is_some heading.reentrant)
  where
    by : (external reentrant : Bool)
        → word_of_home (if external then Nowhere else (if reentrant then InFrame number else InData values))
        ≡ SaysNothing
    by true reentrant = refl
    by false true = refl
    by false false = refl

lives : (owner : Owner) (base : Option ℕ) (external : Bool) (at : Option AtAddress) (has_data : Bool)
    (values : List InitialValue)
    → word_of_home
    (option_map_or BasedOn base
    (if external then Elsewhere else option_map_or Placed at (home_with_values owner has_data values)))
    ≡ first_word (is_some base) external (is_some at) has_data
lives owner (Some base) external at has_data values = refl
lives owner None true at has_data values = refl
lives owner None false (Some at) has_data values = refl
lives owner None false None true values = refl
lives owner None false None false values = usual owner values

home_is : (owner : Owner) (item : ItemTree) (base : Option ℕ) (at : Option AtAddress)
    (values : List InitialValue)
    → is_some base ≡ is_some (base_of item.subject)
    → is_some at ≡ is_some item.at
    → word_of_home (home_of owner item base at values) ≡ word_of_item item
home_is owner item base at values based placed =
    let external : Bool = is_external_linkage item.linkage in
    let has_data : Bool = is_data item.value_list in
    lives owner base external at has_data values
    ∙ ap (λ (is : Bool). first_word is external (is_some at) has_data) based
    ∙ ap (λ (is : Bool). first_word (is_some (base_of item.subject)) external is has_data) placed

-- an item, all but its names
pub record IsTypedAs (item : ItemTree) (typed : TypedItem) : Type 0 where
  pub dimension : FitsDimension item.dimension typed.dimension
  pub object_type : typed.object_type ≡ type_of_item item.item_type
  pub home : word_of_home typed.home ≡ word_of_item item
  pub linkage : typed.linkage ≡ item.linkage

pub item_is : (known : Known) (block : Block) (item : ItemTree)
    → Gives (IsTypedAs item) (typed_item known block item)
item_is known block item =
    in_turn (base_is known block item.subject (base_of item.subject)) λ base based.
    in_turn (extents_fit block item item.dimension) λ extents fits.
    in_turn (type_is block item item.item_type) λ object_type same.
    gives_after (check_linkage block item item.linkage) λ visible.
    in_turn (at_is known block item item.at) λ at placed.
    in_turn (typed_contents_fit known block item object_type extents item.value_list fits) λ filled dimension.
    gives_ok (record {
      dimension = dimension;
      object_type = same;
      home = home_is block.owner item base at filled.values based placed;
      linkage = refl;
    })
