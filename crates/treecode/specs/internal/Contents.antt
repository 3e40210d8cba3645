-- The contents of the segments of a module, and its PUBLIC names.
use Rattle.std.specs.Prelude.{ℕ, ◌+◌, ◌-◌, ◌==◌, min, ◌&&◌, nat_le, nat_lt, List, [], ◌∷◌, ◌++◌, map, filter_map, Option, Some, None, slice_get, sum_by, if◌then◌else◌}
use Rattle.std.specs.Option.{option_map_or, option_and_then}
use Rattle.typed_trees.specs.declared.parts.ConstantItem.{ConstantItem}
use Rattle.typed_trees.specs.declared.parts.ConstantItem.TheVariants.{ConstantObject, ConstantList}
use Rattle.typed_trees.specs.declared.parts.GlobalItem.{GlobalItem}
use Rattle.typed_trees.specs.declared.parts.GlobalItem.TheVariants.{GlobalObject, GlobalProcedure}
use Rattle.typed_trees.specs.declared.parts.InitialValue.{InitialValue}
use Rattle.typed_trees.specs.declared.parts.InitialValue.TheVariants.{ByteValue, WordValue, LocationValue}
use Rattle.typed_trees.specs.Sizes.{size_of_object}
use Rattle.typed_trees.specs.TypedTrees.{Home as TypedHome, InData, InConstants, TypedObject, TypedProcedure, TypedModule}
use Rattle.treecode.specs.declared.module.Content.{Content}
use Rattle.treecode.specs.declared.module.Content.TheVariants as contents
use Rattle.treecode.specs.declared.module.PublicName.{PublicName}
use Rattle.treecode.specs.declared.module.PublicPlace.TheVariants as public_places
use Rattle.treecode.specs.declared.place.Home.{Home}
use Rattle.treecode.specs.declared.place.Home.TheVariants as homes
use Rattle.treecode.specs.declared.place.Place.{Place}
use Rattle.treecode.specs.declared.place.Place.TheVariants.{Number}
use Rattle.treecode.specs.internal.Homes.{external_object, external_procedure, place_after}
use Rattle.treecode.specs.internal.Nodes.{home_at}

-- the place `distance` bytes after the start of an object in memory
abbrev pub place_from : Home → (distance : ℕ) → Place
place_from (homes.Static place) distance = place_after place distance
place_from home distance = Number distance

-- a value of INITIAL or DATA
abbrev pub content_of : List Home → InitialValue → Content
content_of starts (ByteValue byte) = contents.Byte byte
content_of starts (WordValue word) = contents.Word (Number word)
content_of starts (LocationValue object offset) = contents.Word (place_from (home_at starts object) offset)

abbrev pub size_of_value : InitialValue → ℕ
size_of_value (ByteValue byte) = 1
size_of_value (WordValue word) = 2
size_of_value (LocationValue object offset) = 2

-- contents followed by `count` unset bytes, joined with a gap just before if one gap holds both (65535 at
-- most)
abbrev pub with_gap : List Content → (count : ℕ) → List Content
with_gap [] count = contents.Gap count ∷ []
with_gap (contents.Gap before ∷ []) count =
    if nat_lt 0 before && nat_le (before + count) 65535 then contents.Gap (before + count) ∷ []
    else contents.Gap before ∷ contents.Gap count ∷ []
with_gap (first ∷ others) count = first ∷ with_gap others count

abbrev pub with_gap_if_any : List Content → (count : ℕ) → List Content
with_gap_if_any before count = if count == 0 then before else with_gap before count

-- contents followed by the bytes of an object, with values from its start on
abbrev pub with_object : List Home → TypedObject → List InitialValue → List Content → List Content
with_object starts object values before =
    with_gap_if_any (before ++ map (content_of starts) values)
    (min (min (size_of_object object) 4294967295 - sum_by size_of_value values) 65535)

abbrev pub constant_object : List Home → TypedObject → TypedHome → List Content → List Content
constant_object starts object (InConstants values) before = with_object starts object values before
constant_object starts object home before = before

abbrev pub static_object : List Home → TypedObject → TypedHome → List Content → List Content
static_object starts object (InData values) before = with_object starts object values before
static_object starts object home before = before

-- contents followed by an object with DATA or a constant list
abbrev pub with_constant : TypedModule → List Home → ConstantItem → List Content → List Content
with_constant typed starts (ConstantObject number) before =
    option_map_or (λ (object : TypedObject). constant_object starts object object.home before)
    (slice_get typed.objects number) before
with_constant typed starts (ConstantList number) before =
    option_map_or (λ (bytes : List ℕ). before ++ map contents.Byte bytes)
    (slice_get typed.constants.lists number) before

abbrev pub constants_from : TypedModule → List Home → List Content → List ConstantItem → List Content
constants_from typed starts before [] = before
constants_from typed starts before (item ∷ others) =
    constants_from typed starts (with_constant typed starts item before) others

-- the start of the code segment: the objects with DATA and the constant lists, in the order of the text
unfoldable pub constants_of : TypedModule → List Home → List Content
constants_of typed starts = constants_from typed starts [] typed.constants.items

abbrev pub variables_from : List Home → List Content → List TypedObject → List Content
variables_from starts before [] = before
variables_from starts before (object ∷ others) =
    variables_from starts (static_object starts object object.home before) others

-- the data segment: the objects without AT and DATA, in the order of their declarations
unfoldable pub variables_of : TypedModule → List Home → List Content
variables_of typed starts = variables_from starts [] typed.objects

-- the place in memory where an object begins
abbrev pub static_place : Home → Place
static_place (homes.Static place) = place
static_place home = Number 0

-- the PUBLIC name of an object and its place, if it is PUBLIC
abbrev pub public_object : List Home → (number : ℕ) → TypedObject → Option PublicName
public_object starts number object = unless (external_object object.home object.name)
  where
    unless : {E : Type 0} → Option E → Option PublicName
    unless (Some name) = None
    unless None = Some (record {
      name = object.name;
      place = public_places.Object (static_place (home_at starts number));
    })

-- the PUBLIC name of a procedure and its place, if it is PUBLIC
abbrev pub public_procedure : (number : ℕ) → TypedProcedure → Option PublicName
public_procedure number procedure = unless (external_procedure procedure.visibility procedure.name)
  where
    unless : {E : Type 0} → Option E → Option PublicName
    unless (Some name) = None
    unless None = Some (record { name = procedure.name; place = public_places.Procedure number })

abbrev pub public_item : TypedModule → List Home → GlobalItem → Option PublicName
public_item typed starts (GlobalObject number) =
    option_and_then (public_object starts number) (slice_get typed.objects number)
public_item typed starts (GlobalProcedure number) =
    option_and_then (public_procedure number) (slice_get typed.procedures number)

-- the PUBLIC names of a module, in the order of the text
unfoldable pub publics_of : TypedModule → List Home → List PublicName
publics_of typed starts = filter_map (public_item typed starts) typed.globals
