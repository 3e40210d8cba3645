-- Items of a DECLARE, as the checker goes through them.
use Rattle.std.specs.Prelude.{ℕ, ◌+◌, not, List, [], ◌∷◌, ◌++◌, length, Option, Some, is_some, Ok, nat_le}
use Rattle.trees.specs.declared.declaration.Linkage.{Linkage}
use Rattle.trees.specs.declared.declaration.Member.{Member}
use Rattle.trees.specs.declared.identifier.Identifier.{Identifier}
use Rattle.trees.specs.declared.identifier.Place.{Place}
use Rattle.trees.specs.Trees.{ItemTree}
use Rattle.names.specs.DeclaredNames.{declared_by}
use Rattle.typing.specs.declared.fault.Cause.TheVariants.{NoBase, ImpliedForGroup, ImpliedWithoutValues, TooLarge}
use Rattle.typed_trees.specs.declared.parts.GlobalItem.TheVariants.{GlobalObject}
use Rattle.typed_trees.specs.declared.limits.TheConstants.{FRAME_LIMIT, OBJECT_LIMIT}
use Rattle.typed_trees.specs.TypedTrees.{ObjectType, StructureObject, TypedObject}
use Rattle.typed_trees.specs.Views.{home_view}
use Rattle.typing.specs.internal.Checks.{Checked, ◌>>=◌, require}
use Rattle.typing.specs.References.{Known, place_of}
use Rattle.typing.specs.internal.ReferenceChecks.{bound, object_of}
use Rattle.typing.specs.Filling.{Extents, AsListed}
use Rattle.typing.specs.Blocks.{Block, Progress, with_global}
use Rattle.typing.specs.Items.{TypedItem, bytes_in_frame, home_of, is_base, is_group, place_of_item, size_of_item, with_constant}
use Rattle.typing.specs.internal.ItemChecks.{declare_names, check_linkage, object_bound, typed_at, typed_contents, typed_item, typed_members, with_objects}
use Rattle.types.specs.declared.items.PlacedItem.{PlacedItem}
use Rattle.typing.specs.Statements.{with_here}

-- the names of an item declared, whatever they are
abbrev pub with_names : Block → List Identifier → Progress → Checked Progress
with_names block names progress = do
  here ← declare_names block names progress.known.here
  Ok (with_here here progress)

-- one more object at the end of the table
abbrev pub with_last_object : TypedObject → Known → Known
with_last_object object known = record known { objects = known.objects ++ object ∷ [] }

-- the bytes in the frame of a call with one more object
abbrev pub bytes_with : (frame : ℕ) → TypedObject → (place : Place) → Checked ℕ
bytes_with frame object place = do
  _ ← require (nat_le (frame + bytes_in_frame object.home object) FRAME_LIMIT) TooLarge place
  Ok (frame + bytes_in_frame object.home object)

-- an item whose names are declared before its objects are made
abbrev pub item_in_turn : Block → ItemTree → Progress → Checked Progress
item_in_turn block item progress = do
  named ← with_names block (declared_by item.subject) progress
  typed ← typed_item progress.known block item
  _ ← require (nat_le (size_of_item typed) OBJECT_LIMIT) TooLarge (place_of_item item)
  with_objects block typed (declared_by item.subject) named

-- an item that fits, and an item whose names are declared between that and its objects
abbrev pub fitting_item : Known → Block → ItemTree → Checked TypedItem
fitting_item known block item = do
  typed ← typed_item known block item
  _ ← require (nat_le (size_of_item typed) OBJECT_LIMIT) TooLarge (place_of_item item)
  Ok typed

abbrev pub fitted_in_turn : Block → ItemTree → Progress → Checked Progress
fitted_in_turn block item progress = do
  named ← with_names block (declared_by item.subject) progress
  typed ← fitting_item progress.known block item
  with_objects block typed (declared_by item.subject) named

-- the object of a number, and of a name, that may be a base
abbrev pub base_numbered : Known → Identifier → (number : ℕ) → Checked (Option ℕ)
base_numbered known name number = do
  object ← object_of known name number
  _ ← require (is_base object) NoBase (place_of name)
  Ok (Some number)

abbrev pub base_named : Known → Identifier → Checked (Option ℕ)
base_named known name = do
  binding ← bound known name
  number ← object_bound binding (place_of name)
  base_numbered known name number

-- an item from its type on
abbrev pub item_placed : ObjectType → Option Linkage → PlacedItem → TypedItem
item_placed object_type linkage placed = record {
  dimension = placed.dimension;
  object_type = object_type;
  home = home_view placed.home;
  linkage = linkage;
}

abbrev pub placed_item :
    Known → Block → ItemTree → ObjectType → (base : Option ℕ) → Extents → Checked TypedItem
placed_item known block item object_type base extents = do
  _ ← check_linkage block item item.linkage
  at ← typed_at known block item item.at
  filled ← typed_contents known block item object_type extents item.value_list
  Ok (record {
    dimension = filled.dimension;
    object_type = object_type;
    home = home_of block.owner item base at filled.values;
    linkage = item.linkage;
  })

-- the type of a structure
abbrev pub structure_of : List Member → Checked ObjectType
structure_of members = do
  typed ← typed_members [] members
  Ok (StructureObject typed)

-- as many elements as a list has values
abbrev pub listed_extents : ItemTree → Checked Extents
listed_extents item = do
  _ ← require (not (is_group item.subject)) ImpliedForGroup (place_of_item item)
  _ ← require (is_some item.value_list) ImpliedWithoutValues (place_of_item item)
  Ok AsListed

-- the next object, beside the table
abbrev pub object_listed : Option Linkage → TypedObject → (place : Place) → Progress → Checked Progress
object_listed linkage object place progress = do
  bytes ← bytes_with progress.frame object place
  Ok (record progress {
    constants = with_constant object.home (length progress.known.objects) progress.constants;
    globals = with_global linkage (GlobalObject (length progress.known.objects)) progress.globals;
    frame = bytes;
  })

-- The end of `Items`.
