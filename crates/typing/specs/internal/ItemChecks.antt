-- The typing of what a DECLARE declares, by functions.
use Rattle.std.specs.Prelude.{ℕ, not, ◌&&◌, ◌||◌, List, [], ◌∷◌, ◌++◌, Option, Some, None, is_some, is_none, Ok, nat_le}
use Rattle.trees.specs.declared.declaration.Dimension.{Dimension}
use Rattle.trees.specs.declared.declaration.Dimension.TheVariants.{Count, Implied}
use Rattle.trees.specs.declared.declaration.Linkage.{Linkage}
use Rattle.trees.specs.declared.declaration.Member.{Member}
use Rattle.trees.specs.declared.identifier.Identifier.{Identifier}
use Rattle.trees.specs.declared.identifier.Number.{Number}
use Rattle.trees.specs.declared.identifier.Place.{Place}
use Rattle.trees.specs.Trees.{ItemTypeTree, ScalarItem, StructureItem, AtTree, ValueListTree, SubjectTree, ItemTree, ElementTree, LiterallyElement, ItemElement}
use Rattle.names.specs.declared.entity.Binding.{Binding}
use Rattle.names.specs.declared.entity.Binding.TheVariants.{Declared}
use Rattle.names.specs.declared.entity.Entity.TheVariants.{Object}
use Rattle.names.specs.Environment.{Here, with_object, with_definition, is_declared_again}
use Rattle.names.specs.DeclaredNames.{declared_by}
use Rattle.typing.specs.declared.fault.Cause.TheVariants.{DeclaredTwice, NoVariable, ParameterNotScalar, NoBase, MisplacedLinkage, MisplacedAt, MisplacedValues, BasedParameter, ImpliedForGroup, ExternalContents, ZeroDimension, ImpliedWithoutValues, TooLarge}
use Rattle.typed_trees.specs.declared.limits.TheConstants.{OBJECT_LIMIT, FRAME_LIMIT}
use Rattle.typed_trees.specs.declared.parts.AtAddress.{AtAddress}
use Rattle.typed_trees.specs.declared.parts.TypedMember.{TypedMember}
use Rattle.typed_trees.specs.TypedTrees.{ObjectType, ScalarObject, StructureObject}
use Rattle.typed_trees.specs.Sizes.{has_member}
use Rattle.typing.specs.internal.Checks.{Checked, ◌>>=◌, refuse, require}
use Rattle.typing.specs.References.{Known, place_of}
use Rattle.typing.specs.internal.ReferenceChecks.{bound, object_of}
use Rattle.typing.specs.Blocks.{Block, Progress, place_of_linkage, is_external, is_module_level, declares_parameter}
use Rattle.typing.specs.internal.FillingChecks.{at_address, contents}
use Rattle.typing.specs.Filling.{Extents, NoArray, Elements, AsListed, Contents}
use Rattle.typing.specs.Items.{is_group, names_parameter, base_of, place_of_item, is_base, is_plain, place_of_storage, home_of, TypedItem, object_named, with_typed_object, size_of_item}

-- the names of an item are declared as objects; in an EXTERNAL procedure they are parameters
abbrev pub declare_names : Block → List Identifier → Here → Checked Here
declare_names block [] here = Ok here
declare_names block (name ∷ others) here = do
  _ ← require (not (is_declared_again here name.name)) DeclaredTwice (place_of name)
  _ ← require (not (is_external block.owner) || declares_parameter block name.name) ExternalContents
      (place_of name)
  declare_names block others (with_object name.name here)

-- the object that a name is bound to
abbrev pub object_bound : Binding → (place : Place) → Checked ℕ
object_bound (Declared (Object number)) place = Ok number
object_bound binding place = refuse NoVariable place

-- the base of an item; parameters are not BASED
abbrev pub typed_base : Known → Block → SubjectTree → Option Identifier → Checked (Option ℕ)
typed_base known block subject None = Ok None
typed_base known block subject (Some name) = do
  _ ← require (not (names_parameter block subject)) BasedParameter (place_of name)
  binding ← bound known name
  number ← object_bound binding (place_of name)
  object ← object_of known name number
  _ ← require (is_base object) NoBase (place_of name)
  Ok (Some number)

-- A dimension is 1 or more. Parameters are scalars. `(*)` goes with one name, and with INITIAL or DATA.
abbrev pub extents_of : Block → ItemTree → Option Dimension → Checked Extents
extents_of block item None = Ok NoArray
extents_of block item (Some (Count number)) = do
  _ ← require (nat_le 1 number.value) ZeroDimension number.place
  _ ← require (not (names_parameter block item.subject)) ParameterNotScalar number.place
  Ok (Elements number.value)
extents_of block item (Some Implied) = do
  _ ← require (not (names_parameter block item.subject)) ParameterNotScalar (place_of_item item)
  _ ← require (not (is_group item.subject)) ImpliedForGroup (place_of_item item)
  _ ← require (is_some item.value_list) ImpliedWithoutValues (place_of_item item)
  Ok AsListed

abbrev pub member_dimension : Option Number → Checked (Option ℕ)
member_dimension None = Ok None
member_dimension (Some number) = do
  _ ← require (nat_le 1 number.value) ZeroDimension number.place
  Ok (Some number.value)

-- the members of a structure differ from each other
abbrev pub typed_members : (before : List TypedMember) → List Member → Checked (List TypedMember)
typed_members before [] = Ok before
typed_members before (member ∷ others) = do
  _ ← require (not (has_member before member.name.name)) DeclaredTwice (place_of member.name)
  dimension ← member_dimension member.dimension
  typed_members
      (before ++ record { name = member.name.name; dimension = dimension; scalar = member.scalar } ∷ [])
      others

abbrev pub typed_type : Block → ItemTree → ItemTypeTree → Checked ObjectType
typed_type block item (ScalarItem scalar) = Ok (ScalarObject scalar)
typed_type block item (StructureItem members) = do
  _ ← require (not (names_parameter block item.subject)) ParameterNotScalar (place_of_item item)
  typed ← typed_members [] members
  Ok (StructureObject typed)

-- PUBLIC and EXTERNAL stand at the level of the module, and not with BASED
abbrev pub check_linkage : Block → ItemTree → Option Linkage → Checked (Unit {0})
check_linkage block item None = Ok tt
check_linkage block item (Some linkage) =
    require (is_module_level block && is_none (base_of item.subject)) MisplacedLinkage
    (place_of_linkage linkage)

abbrev pub typed_at : Known → Block → ItemTree → Option AtTree → Checked (Option AtAddress)
typed_at known block item None = Ok None
typed_at known block item (Some at) = do
  _ ← require (is_plain block item) MisplacedAt at.place
  address ← at_address known at.address
  Ok (Some address)

-- INITIAL and DATA do not go with AT
abbrev pub typed_contents :
    Known → Block → ItemTree → ObjectType → Extents → Option ValueListTree → Checked Contents
typed_contents known block item object_type extents None =
    contents known (place_of_item item) object_type extents []
typed_contents known block item object_type extents (Some list) = do
  _ ← require (is_plain block item && is_none item.at) MisplacedValues (place_of_storage list.storage)
  contents known (place_of_item item) object_type extents list.values

abbrev pub with_objects : Block → TypedItem → List Identifier → Progress → Checked Progress
with_objects block item [] progress = Ok progress
with_objects block item (name ∷ others) progress = do
  _ ← require
      (nat_le (with_typed_object item.linkage (object_named block item name.name) progress).frame FRAME_LIMIT)
      TooLarge (place_of name)
  with_objects block item others (with_typed_object item.linkage (object_named block item name.name) progress)

-- an item as it is for each of its names
abbrev pub typed_item : Known → Block → ItemTree → Checked TypedItem
typed_item known block item = do
  base ← typed_base known block item.subject (base_of item.subject)
  extents ← extents_of block item item.dimension
  object_type ← typed_type block item item.item_type
  _ ← check_linkage block item item.linkage
  at ← typed_at known block item item.at
  filled ← typed_contents known block item object_type extents item.value_list
  Ok (record {
    dimension = filled.dimension;
    object_type = object_type;
    home = home_of block.owner item base at filled.values;
    linkage = item.linkage;
  })

-- Its names are known after the whole item.
abbrev pub declare_item : Block → ItemTree → Progress → Checked Progress
declare_item block item progress = do
  here ← declare_names block (declared_by item.subject) progress.known.here
  typed ← typed_item progress.known block item
  _ ← require (nat_le (size_of_item typed) OBJECT_LIMIT) TooLarge (place_of_item item)
  declared ← with_objects block typed (declared_by item.subject) progress
  Ok (record declared { known = record declared.known { here = here } })

-- A definition by LITERALLY declares its name. An EXTERNAL procedure has no definition.
abbrev pub declare_definition : Block → Identifier → Progress → Checked Progress
declare_definition block name progress = do
  _ ← require (not (is_declared_again progress.known.here name.name)) DeclaredTwice (place_of name)
  _ ← require (not (is_external block.owner)) ExternalContents (place_of name)
  Ok (record progress {
    known = record progress.known { here = with_definition name.name progress.known.here };
  })

abbrev pub declare_element : Block → ElementTree → Progress → Checked Progress
declare_element block (LiterallyElement name text) progress = declare_definition block name progress
declare_element block (ItemElement item) progress = declare_item block item progress

abbrev pub declare_elements : Block → List ElementTree → Progress → Checked Progress
declare_elements block [] progress = Ok progress
declare_elements block (element ∷ others) progress = do
  after ← declare_element block element progress
  declare_elements block others after
