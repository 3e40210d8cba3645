-- When what a DECLARE declares is well typed (PL/M-80 Programming Manual, "Declarations").
use Rattle.std.specs.Prelude.{◌≡◌, ℕ, ◌≤◌, ◌&&◌, ◌||◌, not, false, true, List, [], ◌∷◌, ◌++◌, Option, Some, None, is_none}
use Rattle.trees.specs.declared.declaration.Dimension.{Dimension}
use Rattle.trees.specs.declared.declaration.Dimension.TheVariants.{Count, Implied}
use Rattle.trees.specs.declared.declaration.Linkage.{Linkage}
use Rattle.trees.specs.declared.declaration.Member.{Member}
use Rattle.trees.specs.declared.declaration.ScalarType.{ScalarType}
use Rattle.trees.specs.declared.identifier.Identifier.{Identifier}
use Rattle.trees.specs.declared.identifier.Number.{Number}
use Rattle.trees.specs.Trees.{StringTree, ItemTypeTree, ScalarItem, StructureItem, AtTree, ValueListTree, SubjectTree, ItemTree, ElementTree, LiterallyElement, ItemElement}
use Rattle.names.specs.Environment.{Here, with_object, with_definition, is_declared_again}
use Rattle.names.specs.DeclaredNames.{declared_by}
use Rattle.typed_trees.specs.declared.limits.TheConstants.{OBJECT_LIMIT, FRAME_LIMIT}
use Rattle.typed_trees.specs.declared.parts.AtAddress.{AtAddress}
use Rattle.typed_trees.specs.declared.parts.TypedMember.{TypedMember}
use Rattle.typed_trees.specs.TypedTrees.{ObjectType, ScalarObject, StructureObject, TypedObject}
use Rattle.typed_trees.specs.Sizes.{has_member}
use Rattle.typing.specs.Blocks.{Block, Progress, is_external, is_module_level, declares_parameter}
use Rattle.typing.specs.Filling.{ThisModule, RestrictedValue, address_of, Extents, NoArray, Elements, AsListed, Contents}
use Rattle.typing.specs.Items.{is_group, names_parameter, base_of, is_base, is_plain, TypedItem, object_named, with_typed_object, size_of_item, home_of}
use Rattle.typing.specs.References.{Known}
use Rattle.typing_rules.specs.Filling.{RestrictedTyping, ContentsTyping}
use Rattle.typing_rules.specs.Names.{IsVariable}

-- The names of an item, which are new in their block, and no labels of its body so far. An EXTERNAL procedure declares its
-- parameters and nothing else.
pub data AreNewNames (block : Block) : Here → List Identifier → Here → Type 0 where
  no_names : {here : Here} → AreNewNames block here [] here
  next_name : {here after : Here} {name : Identifier} {others : List Identifier}
      → is_declared_again here name.name ≡ false
      → (not (is_external block.owner) || declares_parameter block name.name) ≡ true
      → AreNewNames block (with_object name.name here) others after
      → AreNewNames block here (name ∷ others) after

-- The base of an item: a scalar ADDRESS that is not BASED itself. Parameters are not BASED.
pub data BaseTyping (known : Known) (block : Block) (subject : SubjectTree) : Option Identifier → Option ℕ → Type 0 where
  no_base : BaseTyping known block subject None None
  a_base : {name : Identifier} {number : ℕ} {object : TypedObject}
      → names_parameter block subject ≡ false
      → IsVariable known name number object
      → is_base object ≡ true
      → BaseTyping known block subject (Some name) (Some number)

-- The dimension, which is 1 or more. Parameters are no arrays. `(*)` goes with one name, and with INITIAL or DATA.
pub data ExtentsTyping (block : Block) (item : ItemTree) : Option Dimension → Extents → Type 0 where
  no_extents : ExtentsTyping block item None NoArray
  counted : {number : Number}
      → 1 ≤ number.value
      → names_parameter block item.subject ≡ false
      → ExtentsTyping block item (Some (Count number)) (Elements number.value)
  implied : {list : ValueListTree}
      → names_parameter block item.subject ≡ false
      → is_group item.subject ≡ false
      → item.value_list ≡ Some list
      → ExtentsTyping block item (Some Implied) AsListed

-- the dimension of a member, which is 1 or more
pub data DimensionTyping : Option Number → Option ℕ → Type 0 where
  no_elements : DimensionTyping None None
  some_elements : {number : Number} → 1 ≤ number.value → DimensionTyping (Some number) (Some number.value)

-- the members of a structure after some, which differ from each other
pub data MembersTyping : List TypedMember → List Member → List TypedMember → Type 0 where
  no_members : {before : List TypedMember} → MembersTyping before [] before
  next_member : {before all : List TypedMember} {member : Member} {others : List Member} {dimension : Option ℕ}
      → has_member before member.name.name ≡ false
      → DimensionTyping member.dimension dimension
      → MembersTyping
      (before ++ record { name = member.name.name; dimension = dimension; scalar = member.scalar } ∷ []) others all
      → MembersTyping before (member ∷ others) all

-- a BYTE, an ADDRESS, or a structure, which no parameter is
pub data TypeTyping (block : Block) (item : ItemTree) : ItemTypeTree → ObjectType → Type 0 where
  scalar_type : {scalar : ScalarType} → TypeTyping block item (ScalarItem scalar) (ScalarObject scalar)
  structure_type : {members : List Member} {typed : List TypedMember}
      → names_parameter block item.subject ≡ false
      → MembersTyping [] members typed
      → TypeTyping block item (StructureItem members) (StructureObject typed)

-- PUBLIC and EXTERNAL stand at the level of the module, and not with BASED
pub data ItemLinkageStands (block : Block) (item : ItemTree) : Option Linkage → Type 0 where
  private_item : ItemLinkageStands block item None
  shared_item : {linkage : Linkage}
      → (is_module_level block && is_none (base_of item.subject)) ≡ true
      → ItemLinkageStands block item (Some linkage)

-- AT goes with one name that is neither BASED, nor EXTERNAL, nor a parameter, nor in a REENTRANT procedure
pub data AtTyping (known : Known) (block : Block) (item : ItemTree) : Option AtTree → Option AtAddress → Type 0 where
  not_placed : AtTyping known block item None None
  is_placed : {at : AtTree} {value : RestrictedValue}
      → is_plain block item ≡ true
      → RestrictedTyping ThisModule known at.address.origin at.address.offsets value
      → AtTyping known block item (Some at) (Some (address_of value))

-- so do INITIAL and DATA, and not with AT
pub data ListTypingOf (known : Known) (block : Block) (item : ItemTree) (object_type : ObjectType) (extents : Extents) :
    Option ValueListTree → Contents → Type 0 where
  without_list : {found : Contents}
      → ContentsTyping known object_type extents [] found
      → ListTypingOf known block item object_type extents None found
  with_list_of : {list : ValueListTree} {found : Contents}
      → (is_plain block item && is_none item.at) ≡ true
      → ContentsTyping known object_type extents list.values found
      → ListTypingOf known block item object_type extents (Some list) found

-- an item, all but its names
pub data ItemTyping (known : Known) (block : Block) (item : ItemTree) : TypedItem → Type 0 where
  an_item : {base : Option ℕ} {extents : Extents} {object_type : ObjectType} {at : Option AtAddress}
      {filled : Contents}
      → BaseTyping known block item.subject (base_of item.subject) base
      → ExtentsTyping block item item.dimension extents
      → TypeTyping block item item.item_type object_type
      → ItemLinkageStands block item item.linkage
      → AtTyping known block item item.at at
      → ListTypingOf known block item object_type extents item.value_list filled
      → ItemTyping known block item (record {
        dimension = filled.dimension;
        object_type = object_type;
        home = home_of block.owner item base at filled.values;
        linkage = item.linkage;
      })

-- The objects of an item, one for each name. Those of a REENTRANT procedure take at most 1024 bytes, parameters and BASED
-- ones aside.
pub data ObjectsTyping (block : Block) (item : TypedItem) : Progress → List Identifier → Progress → Type 0 where
  no_objects : {progress : Progress} → ObjectsTyping block item progress [] progress
  next_object : {progress after : Progress} {name : Identifier} {others : List Identifier}
      → (with_typed_object item.linkage (object_named block item name.name) progress).frame ≤ FRAME_LIMIT
      → ObjectsTyping block item (with_typed_object item.linkage (object_named block item name.name) progress) others after
      → ObjectsTyping block item progress (name ∷ others) after

-- An element of a DECLARE. The names of an item are known after the whole item. Each object of it has at most 65535 bytes.
-- A definition by LITERALLY declares its name.
pub data ElementTyping (block : Block) : Progress → ElementTree → Progress → Type 0 where
  a_definition : {progress : Progress} {name : Identifier} {text : StringTree}
      → is_declared_again progress.known.here name.name ≡ false
      → is_external block.owner ≡ false
      → ElementTyping block progress (LiterallyElement name text)
      (record progress { known = record progress.known { here = with_definition name.name progress.known.here } })
  of_item : {progress declared : Progress} {item : ItemTree} {typed : TypedItem} {here : Here}
      → AreNewNames block progress.known.here (declared_by item.subject) here
      → ItemTyping progress.known block item typed
      → size_of_item typed ≤ OBJECT_LIMIT
      → ObjectsTyping block typed progress (declared_by item.subject) declared
      → ElementTyping block progress (ItemElement item) (record declared { known = record declared.known { here = here } })

pub data ElementsTyping (block : Block) : Progress → List ElementTree → Progress → Type 0 where
  no_more_elements : {progress : Progress} → ElementsTyping block progress [] progress
  next_element : {progress middle after : Progress} {first : ElementTree} {others : List ElementTree}
      → ElementTyping block progress first middle
      → ElementsTyping block middle others after
      → ElementsTyping block progress (first ∷ others) after
