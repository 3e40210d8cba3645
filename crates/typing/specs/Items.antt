-- What a DECLARE declares, with its attributes (PL/M-80 Programming Manual, "Declarations").
use Rattle.std.specs.Prelude.{ℕ, ◌+◌, ◌*◌, Bool, true, false, not, ◌&&◌, List, [], ◌∷◌, ◌++◌, length, Option, Some, None, is_some, is_none, if◌then◌else◌}
use Rattle.std.specs.List.{list_any}
use Rattle.std.specs.Option.{option_map_or}
use Rattle.trees.specs.declared.declaration.Linkage.{Linkage}
use Rattle.trees.specs.declared.declaration.ScalarType.TheVariants.{Address}
use Rattle.trees.specs.declared.declaration.Storage.{Storage}
use Rattle.trees.specs.declared.declaration.Storage.TheVariants.{Initial, Data}
use Rattle.trees.specs.declared.identifier.Identifier.{Identifier}
use Rattle.trees.specs.declared.identifier.Place.{Place}
use Rattle.trees.specs.Trees.{ValueListTree, SubjectTree, SingleSubject, GroupSubject, ItemTree}
use Rattle.names.specs.DeclaredNames.{declared_by}
use Rattle.typed_trees.specs.declared.parts.AtAddress.{AtAddress}
use Rattle.typed_trees.specs.declared.parts.ConstantItem.TheVariants.{ConstantObject}
use Rattle.typed_trees.specs.declared.parts.GlobalItem.TheVariants.{GlobalObject}
use Rattle.typed_trees.specs.declared.parts.InitialValue.{InitialValue}
use Rattle.typed_trees.specs.TypedTrees.{ObjectType, ScalarObject, Home, InData, InConstants, Placed, BasedOn, Elsewhere, Nowhere, InFrame, TypedObject, Constants}
use Rattle.typed_trees.specs.Sizes.{count_of, size_of_element, size_of_object}
use Rattle.typing.specs.References.{no_place, place_of}
use Rattle.typing.specs.Blocks.{Owner, TheModule, OfProcedure, Block, Progress, with_global, is_public_linkage, is_external_linkage, is_reentrant, declares_parameter}

-- whether an item declares several names in parentheses, or a parameter
abbrev pub is_group : SubjectTree → Bool
is_group (SingleSubject name base) = false
is_group (GroupSubject names) = true

abbrev pub names_parameter : Block → SubjectTree → Bool
names_parameter block subject =
    list_any (λ (name : Identifier). declares_parameter block name.name) (declared_by subject)

-- the name after BASED
abbrev pub base_of : SubjectTree → Option Identifier
base_of (SingleSubject name base) = base
base_of (GroupSubject names) = None

-- the place of the first name
abbrev pub first_place : List Identifier → Place
first_place [] = no_place
first_place (name ∷ others) = place_of name

abbrev pub place_of_item : ItemTree → Place
place_of_item item = first_place (declared_by item.subject)

-- whether an object may be a base: a scalar ADDRESS that is not BASED itself
abbrev pub is_not_based : Home → Bool
is_not_based (BasedOn base) = false
is_not_based home = true

abbrev pub is_address : ObjectType → Bool
is_address (ScalarObject Address) = true
is_address object_type = false

abbrev pub is_base : TypedObject → Bool
is_base object = is_none object.dimension && is_address object.object_type && is_not_based object.home

-- Whether an item may have a place or values of its own: one name, not BASED, not EXTERNAL, not a parameter, and
-- not a variable of a REENTRANT procedure.
abbrev pub is_plain : Block → ItemTree → Bool
is_plain block item =
    not (is_group item.subject) && is_none (base_of item.subject) && not (is_external_linkage item.linkage)
    && not (names_parameter block item.subject) && not (is_reentrant block.owner)

-- the place of INITIAL or DATA
abbrev pub place_of_storage : Storage → Place
place_of_storage (Initial place) = place
place_of_storage (Data place) = place

-- whether a list is DATA's
abbrev pub is_data_storage : Storage → Bool
is_data_storage (Initial place) = false
is_data_storage (Data place) = true

abbrev pub is_data : Option ValueListTree → Bool
is_data None = false
is_data (Some list) = is_data_storage list.storage

-- where the variables and parameters of an owner live, unless an attribute says otherwise
abbrev pub home_in : Owner → List InitialValue → Home
home_in TheModule values = InData values
home_in (OfProcedure number heading) values =
    if is_external_linkage heading.linkage then Nowhere
    else (if is_some heading.reentrant then InFrame number else InData values)

abbrev pub home_with_values : Owner → Bool → List InitialValue → Home
home_with_values owner false values = home_in owner values
home_with_values owner true values = InConstants values

-- where an item lives: by BASED, by EXTERNAL, by AT, by DATA, or by the owner of the declaration
abbrev pub home_of : Owner → ItemTree → (base : Option ℕ) → Option AtAddress → List InitialValue → Home
home_of owner item base at values =
    option_map_or BasedOn base
    (if is_external_linkage item.linkage then Elsewhere
    else option_map_or Placed at (home_with_values owner (is_data item.value_list) values))

-- an item, all but its names
pub record TypedItem : Type 0 where
  pub dimension : Option ℕ
  pub object_type : ObjectType
  pub home : Home
  pub linkage : Option Linkage

abbrev pub object_named : Block → TypedItem → List ℕ → TypedObject
object_named block item name = record {
  name = name;
  dimension = item.dimension;
  object_type = item.object_type;
  home = item.home;
  is_public = is_public_linkage item.linkage;
  is_parameter = declares_parameter block name;
}

-- the bytes of an object in the frame of a call, its parameters aside
abbrev pub bytes_in_frame : Home → TypedObject → ℕ
bytes_in_frame (InFrame procedure) object = if object.is_parameter then 0 else size_of_object object
bytes_in_frame home object = 0

-- an object is one of the constants if it has DATA
abbrev pub with_constant : Home → (object : ℕ) → Constants → Constants
with_constant (InConstants values) object constants =
    record constants { items = constants.items ++ ConstantObject object ∷ [] }
with_constant home object constants = constants

-- objects one after another at the end of the table
abbrev pub with_typed_object : Option Linkage → TypedObject → Progress → Progress
with_typed_object linkage object progress = record {
  known = record progress.known { objects = progress.known.objects ++ object ∷ [] };
  constants = with_constant object.home (length progress.known.objects) progress.constants;
  globals = with_global linkage (GlobalObject (length progress.known.objects)) progress.globals;
  frame = progress.frame + bytes_in_frame object.home object;
}

abbrev pub size_of_item : TypedItem → ℕ
size_of_item item = count_of item.dimension * size_of_element item.object_type
