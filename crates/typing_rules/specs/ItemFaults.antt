-- Which faults the elements of a DECLARE have: a rule for each cause, with its place. In an item its names come first, then
-- its base, its dimension, its type, PUBLIC or EXTERNAL, AT, its list, and then its size.
use Rattle.std.specs.Prelude.{◌≡◌, ℕ, ◌<◌, ◌≤◌, ◌&&◌, ◌||◌, not, false, true, List, [], ◌∷◌, ◌++◌, Option, Some, None, is_none}
use Rattle.trees.specs.declared.declaration.Dimension.{Dimension}
use Rattle.trees.specs.declared.declaration.Dimension.TheVariants.{Count, Implied}
use Rattle.trees.specs.declared.declaration.Linkage.{Linkage}
use Rattle.trees.specs.declared.declaration.Member.{Member}
use Rattle.trees.specs.declared.identifier.Identifier.{Identifier}
use Rattle.trees.specs.declared.identifier.Number.{Number}
use Rattle.trees.specs.Trees.{StringTree, ItemTypeTree, StructureItem, AtTree, ValueListTree, SubjectTree, ItemTree, ElementTree, LiterallyElement, ItemElement}
use Rattle.names.specs.Environment.{Here, with_object, is_declared_again}
use Rattle.names.specs.DeclaredNames.{declared_by}
use Rattle.typed_trees.specs.declared.limits.TheConstants.{OBJECT_LIMIT, FRAME_LIMIT}
use Rattle.typed_trees.specs.declared.parts.AtAddress.{AtAddress}
use Rattle.typed_trees.specs.declared.parts.TypedMember.{TypedMember}
use Rattle.typed_trees.specs.TypedTrees.{ObjectType, TypedObject}
use Rattle.typed_trees.specs.Sizes.{has_member}
use Rattle.typing.specs.declared.fault.Cause.TheVariants.{UnknownName, DeclaredTwice, NoVariable, ParameterNotScalar, NoBase, MisplacedLinkage, MisplacedAt, MisplacedValues, BasedParameter, ImpliedForGroup, ExternalContents, ZeroDimension, ImpliedWithoutValues, TooLarge}
use Rattle.typing.specs.declared.fault.Fault.{Fault}
use Rattle.typing.specs.Blocks.{Block, Progress, is_external, is_module_level, declares_parameter, place_of_linkage}
use Rattle.typing.specs.Filling.{ThisModule, Extents}
use Rattle.typing.specs.Items.{is_group, names_parameter, base_of, is_base, is_plain, TypedItem, object_named, with_typed_object, size_of_item, place_of_item, place_of_storage}
use Rattle.typing.specs.References.{Known}
use Rattle.typing_rules.specs.FillingFaults.{RestrictedFault, ContentsFault}
use Rattle.typing_rules.specs.Items.{AreNewNames, BaseTyping, ExtentsTyping, DimensionTyping, TypeTyping, ItemLinkageStands, AtTyping, ItemTyping, ElementTyping}
use Rattle.typing_rules.specs.Names.{IsUnknown, IsVariable, IsNoVariable, at_name}

pub data NamesFault (block : Block) : Here → List Identifier → Fault → Type 0 where
  -- C12
  name_again : {here : Here} {name : Identifier} {others : List Identifier}
      → is_declared_again here name.name ≡ true
      → NamesFault block here (name ∷ others) (at_name DeclaredTwice name)
  -- C14: an EXTERNAL procedure declares more than its parameters
  external_contents : {here : Here} {name : Identifier} {others : List Identifier}
      → is_declared_again here name.name ≡ false
      → (not (is_external block.owner) || declares_parameter block name.name) ≡ false
      → NamesFault block here (name ∷ others) (at_name ExternalContents name)
  in_other_names : {here : Here} {name : Identifier} {others : List Identifier} {fault : Fault}
      → is_declared_again here name.name ≡ false
      → (not (is_external block.owner) || declares_parameter block name.name) ≡ true
      → NamesFault block (with_object name.name here) others fault
      → NamesFault block here (name ∷ others) fault

pub data BaseFault (known : Known) (block : Block) (subject : SubjectTree) : Option Identifier → Fault → Type 0 where
  -- C14
  based_parameter : {name : Identifier}
      → names_parameter block subject ≡ true
      → BaseFault known block subject (Some name) (at_name BasedParameter name)
  -- C11
  unknown_base : {name : Identifier}
      → names_parameter block subject ≡ false
      → IsUnknown known name
      → BaseFault known block subject (Some name) (at_name UnknownName name)
  -- C13
  base_is_no_variable : {name : Identifier}
      → names_parameter block subject ≡ false
      → IsNoVariable known name
      → BaseFault known block subject (Some name) (at_name NoVariable name)
  wrong_base : {name : Identifier} {number : ℕ} {object : TypedObject}
      → names_parameter block subject ≡ false
      → IsVariable known name number object
      → is_base object ≡ false
      → BaseFault known block subject (Some name) (at_name NoBase name)

pub data ExtentsFault (block : Block) (item : ItemTree) : Option Dimension → Fault → Type 0 where
  -- C15
  zero_dimension : {number : Number}
      → number.value < 1
      → ExtentsFault block item (Some (Count number)) (record { cause = ZeroDimension; place = number.place })
  -- C13: a parameter that is an array
  array_parameter : {number : Number}
      → 0 < number.value
      → names_parameter block item.subject ≡ true
      → ExtentsFault block item (Some (Count number)) (record { cause = ParameterNotScalar; place = number.place })
  implied_parameter : names_parameter block item.subject ≡ true
      → ExtentsFault block item (Some Implied) (record { cause = ParameterNotScalar; place = place_of_item item })
  -- C14: `(*)` for names in parentheses
  implied_for_group : names_parameter block item.subject ≡ false
      → is_group item.subject ≡ true
      → ExtentsFault block item (Some Implied) (record { cause = ImpliedForGroup; place = place_of_item item })
  -- C15: `(*)` without a list
  implied_without_list : names_parameter block item.subject ≡ false
      → is_group item.subject ≡ false
      → item.value_list ≡ None
      → ExtentsFault block item (Some Implied) (record { cause = ImpliedWithoutValues; place = place_of_item item })

-- C15
pub data DimensionFault : Option Number → Fault → Type 0 where
  zero_of_member : {number : Number}
      → number.value < 1
      → DimensionFault (Some number) (record { cause = ZeroDimension; place = number.place })

pub data MembersFault : List TypedMember → List Member → Fault → Type 0 where
  -- C12
  member_again : {before : List TypedMember} {member : Member} {others : List Member}
      → has_member before member.name.name ≡ true
      → MembersFault before (member ∷ others) (at_name DeclaredTwice member.name)
  in_dimension : {before : List TypedMember} {member : Member} {others : List Member} {fault : Fault}
      → has_member before member.name.name ≡ false
      → DimensionFault member.dimension fault
      → MembersFault before (member ∷ others) fault
  in_other_members : {before : List TypedMember} {member : Member} {others : List Member} {dimension : Option ℕ}
      {fault : Fault}
      → has_member before member.name.name ≡ false
      → DimensionTyping member.dimension dimension
      → MembersFault
      (before ++ record { name = member.name.name; dimension = dimension; scalar = member.scalar } ∷ []) others fault
      → MembersFault before (member ∷ others) fault

pub data TypeFault (block : Block) (item : ItemTree) : ItemTypeTree → Fault → Type 0 where
  -- C13: a parameter that is a structure
  structure_parameter : {members : List Member}
      → names_parameter block item.subject ≡ true
      → TypeFault block item (StructureItem members) (record { cause = ParameterNotScalar; place = place_of_item item })
  in_members : {members : List Member} {fault : Fault}
      → names_parameter block item.subject ≡ false
      → MembersFault [] members fault
      → TypeFault block item (StructureItem members) fault

-- C14
pub data ItemLinkageFault (block : Block) (item : ItemTree) : Option Linkage → Fault → Type 0 where
  misplaced_item_linkage : {linkage : Linkage}
      → (is_module_level block && is_none (base_of item.subject)) ≡ false
      → ItemLinkageFault block item (Some linkage) (record { cause = MisplacedLinkage; place = place_of_linkage linkage })

pub data AtFault (known : Known) (block : Block) (item : ItemTree) : Option AtTree → Fault → Type 0 where
  -- C14
  misplaced_at : {at : AtTree}
      → is_plain block item ≡ false
      → AtFault known block item (Some at) (record { cause = MisplacedAt; place = at.place })
  in_at : {at : AtTree} {fault : Fault}
      → is_plain block item ≡ true
      → RestrictedFault ThisModule known at.address.origin at.address.offsets fault
      → AtFault known block item (Some at) fault

pub data ListFaultOf (known : Known) (block : Block) (item : ItemTree) (object_type : ObjectType) (extents : Extents) :
    Option ValueListTree → Fault → Type 0 where
  in_no_list : {fault : Fault}
      → ContentsFault known (place_of_item item) object_type extents [] fault
      → ListFaultOf known block item object_type extents None fault
  -- C14
  misplaced_values : {list : ValueListTree}
      → (is_plain block item && is_none item.at) ≡ false
      → ListFaultOf known block item object_type extents (Some list)
      (record { cause = MisplacedValues; place = place_of_storage list.storage })
  in_values_of_list : {list : ValueListTree} {fault : Fault}
      → (is_plain block item && is_none item.at) ≡ true
      → ContentsFault known (place_of_item item) object_type extents list.values fault
      → ListFaultOf known block item object_type extents (Some list) fault

-- an item, all but its names
pub data ItemFault (known : Known) (block : Block) (item : ItemTree) : Fault → Type 0 where
  in_base : {fault : Fault}
      → BaseFault known block item.subject (base_of item.subject) fault
      → ItemFault known block item fault
  in_extents : {base : Option ℕ} {fault : Fault}
      → BaseTyping known block item.subject (base_of item.subject) base
      → ExtentsFault block item item.dimension fault
      → ItemFault known block item fault
  in_type : {base : Option ℕ} {extents : Extents} {fault : Fault}
      → BaseTyping known block item.subject (base_of item.subject) base
      → ExtentsTyping block item item.dimension extents
      → TypeFault block item item.item_type fault
      → ItemFault known block item fault
  in_linkage : {base : Option ℕ} {extents : Extents} {object_type : ObjectType} {fault : Fault}
      → BaseTyping known block item.subject (base_of item.subject) base
      → ExtentsTyping block item item.dimension extents
      → TypeTyping block item item.item_type object_type
      → ItemLinkageFault block item item.linkage fault
      → ItemFault known block item fault
  in_place : {base : Option ℕ} {extents : Extents} {object_type : ObjectType} {fault : Fault}
      → BaseTyping known block item.subject (base_of item.subject) base
      → ExtentsTyping block item item.dimension extents
      → TypeTyping block item item.item_type object_type
      → ItemLinkageStands block item item.linkage
      → AtFault known block item item.at fault
      → ItemFault known block item fault
  in_list_of_item : {base : Option ℕ} {extents : Extents} {object_type : ObjectType} {at : Option AtAddress}
      {fault : Fault}
      → BaseTyping known block item.subject (base_of item.subject) base
      → ExtentsTyping block item item.dimension extents
      → TypeTyping block item item.item_type object_type
      → ItemLinkageStands block item item.linkage
      → AtTyping known block item item.at at
      → ListFaultOf known block item object_type extents item.value_list fault
      → ItemFault known block item fault

-- C18: over 1024 bytes of variables of a REENTRANT procedure
pub data ObjectsFault (block : Block) (item : TypedItem) : Progress → List Identifier → Fault → Type 0 where
  frame_too_large : {progress : Progress} {name : Identifier} {others : List Identifier}
      → FRAME_LIMIT < (with_typed_object item.linkage (object_named block item name.name) progress).frame
      → ObjectsFault block item progress (name ∷ others) (at_name TooLarge name)
  in_other_objects : {progress : Progress} {name : Identifier} {others : List Identifier} {fault : Fault}
      → (with_typed_object item.linkage (object_named block item name.name) progress).frame ≤ FRAME_LIMIT
      → ObjectsFault block item (with_typed_object item.linkage (object_named block item name.name) progress) others fault
      → ObjectsFault block item progress (name ∷ others) fault

pub data ElementFault (block : Block) : Progress → ElementTree → Fault → Type 0 where
  -- C12
  definition_again : {progress : Progress} {name : Identifier} {text : StringTree}
      → is_declared_again progress.known.here name.name ≡ true
      → ElementFault block progress (LiterallyElement name text) (at_name DeclaredTwice name)
  -- C14: an EXTERNAL procedure has no definition
  external_definition : {progress : Progress} {name : Identifier} {text : StringTree}
      → is_declared_again progress.known.here name.name ≡ false
      → is_external block.owner ≡ true
      → ElementFault block progress (LiterallyElement name text) (at_name ExternalContents name)
  in_names : {progress : Progress} {item : ItemTree} {fault : Fault}
      → NamesFault block progress.known.here (declared_by item.subject) fault
      → ElementFault block progress (ItemElement item) fault
  in_item : {progress : Progress} {item : ItemTree} {here : Here} {fault : Fault}
      → AreNewNames block progress.known.here (declared_by item.subject) here
      → ItemFault progress.known block item fault
      → ElementFault block progress (ItemElement item) fault
  -- C18: an object of over 65535 bytes
  item_too_large : {progress : Progress} {item : ItemTree} {typed : TypedItem} {here : Here}
      → AreNewNames block progress.known.here (declared_by item.subject) here
      → ItemTyping progress.known block item typed
      → OBJECT_LIMIT < size_of_item typed
      → ElementFault block progress (ItemElement item) (record { cause = TooLarge; place = place_of_item item })
  in_objects : {progress : Progress} {item : ItemTree} {typed : TypedItem} {here : Here} {fault : Fault}
      → AreNewNames block progress.known.here (declared_by item.subject) here
      → ItemTyping progress.known block item typed
      → size_of_item typed ≤ OBJECT_LIMIT
      → ObjectsFault block typed progress (declared_by item.subject) fault
      → ElementFault block progress (ItemElement item) fault

pub data ElementsFault (block : Block) : Progress → List ElementTree → Fault → Type 0 where
  in_first_element : {progress : Progress} {first : ElementTree} {others : List ElementTree} {fault : Fault}
      → ElementFault block progress first fault
      → ElementsFault block progress (first ∷ others) fault
  in_other_elements : {progress middle : Progress} {first : ElementTree} {others : List ElementTree}
      {fault : Fault}
      → ElementTyping block progress first middle
      → ElementsFault block middle others fault
      → ElementsFault block progress (first ∷ others) fault
