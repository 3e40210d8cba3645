-- The places where the objects of a module begin, and its EXTERNAL names.
use Rattle.std.specs.Prelude.{ℕ, suc, ◌+◌, ◌%◌, ◌==◌, min, Bool, false, nat_lt, List, [], ◌∷◌, ◌++◌, length, map, zip, filter, filter_map, take, Option, Some, None, option_map, slice_get, slice_index_or, unwrap_or, is_some, if◌then◌else◌}
use Rattle.std.specs.List.{enumerate_from}
use Rattle.std.specs.Option.{option_and_then}
use Rattle.trees.specs.declared.declaration.ScalarType.{ScalarType}
use Rattle.typed_trees.specs.declared.parts.AtAddress.TheVariants.{AtNumber, AtObject}
use Rattle.typed_trees.specs.declared.parts.GlobalItem.{GlobalItem}
use Rattle.typed_trees.specs.declared.parts.GlobalItem.TheVariants.{GlobalObject, GlobalProcedure}
use Rattle.typed_trees.specs.declared.parts.Visibility.{Visibility}
use Rattle.typed_trees.specs.declared.parts.Visibility.TheVariants as visibilities
use Rattle.typed_trees.specs.Sizes.{size_of_object}
use Rattle.typed_trees.specs.TypedTrees.{Home as TypedHome, InData, InConstants, Placed, BasedOn, Elsewhere, Nowhere, InFrame, TypedObject, TypedProcedure, TypedModule}
use Rattle.layout.specs.declared.slot.Segment.{Segment}
use Rattle.layout.specs.declared.slot.Segment.TheVariants as segments
use Rattle.layout.specs.declared.slot.Slot.{Slot}
use Rattle.layout.specs.Storage.{Storage}
use Rattle.treecode.specs.declared.module.ExternalName.{ExternalName}
use Rattle.treecode.specs.declared.place.Home.{Home}
use Rattle.treecode.specs.declared.place.Home.TheVariants as homes
use Rattle.treecode.specs.declared.place.Location.{Location}
use Rattle.treecode.specs.declared.place.Location.TheVariants as locations
use Rattle.treecode.specs.declared.place.Place.{Place}
use Rattle.treecode.specs.declared.place.Place.TheVariants.{Number, Code, Data, External}
use Rattle.treecode.specs.declared.procedure.FrameVariable.{FrameVariable}
use Rattle.treecode.specs.declared.procedure.Parameter.{Parameter}
use Rattle.treecode.specs.declared.procedure.ProcedureKind.{ProcedureKind}
use Rattle.treecode.specs.declared.procedure.ProcedureKind.TheVariants as kinds
use Rattle.treecode.specs.internal.Nodes.{home_at}

-- the place `distance` bytes further on, modulo the size of memory
abbrev pub place_after : Place → (distance : ℕ) → Place
place_after (Number number) distance = Number ((number + distance) % 65536)
place_after (Code offset) distance = Code ((offset + distance) % 65536)
place_after (Data offset) distance = Data ((offset + distance) % 65536)
place_after (External offset name) distance = External ((offset + distance) % 65536) name

-- the number, if the place is one
abbrev pub number_of_place : Place → Option ℕ
number_of_place (Number number) = Some number
number_of_place place = None

abbrev pub location_after : Location → (distance : ℕ) → Location
location_after (locations.Static place) distance = locations.Static (place_after place distance)
location_after (locations.Frame variable offset) distance =
    locations.Frame variable ((offset + distance) % 65536)

-- the location of a scalar, by its home
abbrev pub location_of : Home → Location
location_of (homes.Static place) = locations.Static place
location_of (homes.Based base) = base
location_of (homes.Frame variable) = locations.Frame variable 0

-- the name of an object or a procedure, if it is EXTERNAL
abbrev pub external_object : TypedHome → List ℕ → Option ExternalName
external_object Elsewhere name = Some (record { name = name })
external_object home name = None

abbrev pub external_procedure : Visibility → List ℕ → Option ExternalName
external_procedure visibilities.External name = Some (record { name = name })
external_procedure visibility name = None

abbrev pub external_name : TypedModule → GlobalItem → Option ExternalName
external_name typed (GlobalObject number) =
    option_and_then (λ (object : TypedObject). external_object object.home object.name)
    (slice_get typed.objects number)
external_name typed (GlobalProcedure number) =
    option_and_then (λ (procedure : TypedProcedure). external_procedure procedure.visibility procedure.name)
    (slice_get typed.procedures number)

-- the EXTERNAL names of a module, in the order of the text
abbrev pub externals_of : TypedModule → List ExternalName
externals_of typed = filter_map (external_name typed) typed.globals

abbrev pub is_global_object : (number : ℕ) → GlobalItem → Bool
is_global_object number (GlobalObject other) = other == number
is_global_object number (GlobalProcedure other) = false

abbrev pub is_global_procedure : (number : ℕ) → GlobalItem → Bool
is_global_procedure number (GlobalObject other) = false
is_global_procedure number (GlobalProcedure other) = other == number

-- the later one of two, if it is there; else the earlier one
abbrev pub latest : (earlier later : Option ℕ) → Option ℕ
latest earlier None = earlier
latest earlier (Some later) = Some later

-- the index of an object or a procedure among the EXTERNAL names, if `count` names come before
abbrev pub external_from : TypedModule → (GlobalItem → Bool) → (count : ℕ) → List GlobalItem → Option ℕ
external_from typed wanted count [] = None
external_from typed wanted count (item ∷ others) =
    if is_some (external_name typed item)
    then latest (if wanted item then Some count else None) (external_from typed wanted (suc count) others)
    else external_from typed wanted count others

abbrev pub external_number : TypedModule → (GlobalItem → Bool) → Option ℕ
external_number typed wanted = external_from typed wanted 0 typed.globals

-- the index of an object among the parameters of its procedure, counted from 0
abbrev pub parameter_from : (object index : ℕ) → List ℕ → Option ℕ
parameter_from object index [] = None
parameter_from object index (parameter ∷ others) =
    latest (if parameter == object then Some index else None) (parameter_from object (suc index) others)

abbrev pub parameter_number : List TypedProcedure → (object : ℕ) → Option ℕ
parameter_number [] object = None
parameter_number (procedure ∷ others) object =
    latest (parameter_from object 0 procedure.parameters) (parameter_number others object)

-- whether an object is in the frame of a procedure
abbrev pub lives_in_frame : (procedure : ℕ) → TypedHome → Bool
lives_in_frame procedure (InFrame other) = procedure == other
lives_in_frame procedure home = false

-- a variable or a parameter in a frame
abbrev pub frame_variable : TypedModule → ℕ × TypedObject → FrameVariable
frame_variable typed numbered = record {
  size = min (size_of_object numbered.1) 65535;
  parameter = option_map (λ (index : ℕ). index % 65536) (parameter_number typed.procedures numbered.0);
}

abbrev pub numbered_in_frame : (procedure : ℕ) → ℕ × TypedObject → Bool
numbered_in_frame procedure numbered = lives_in_frame procedure (numbered.1).home

-- the variables and parameters in the frame of a procedure, in the order of their declarations
abbrev pub frame_variables : TypedModule → (procedure : ℕ) → List FrameVariable
frame_variables typed procedure =
    map (frame_variable typed) (filter (numbered_in_frame procedure) (enumerate_from 0 typed.objects))

-- the number of objects in the frame of a procedure before the one with this number
abbrev pub frame_position : TypedModule → (procedure number : ℕ) → ℕ
frame_position typed procedure number =
    length
    (filter (λ (object : TypedObject). lives_in_frame procedure object.home) (take number typed.objects))

-- the number of an object in the frame of its procedure
abbrev pub frame_number : TypedModule → (procedure number : ℕ) → ℕ
frame_number typed procedure number =
    if nat_lt procedure (length typed.procedures) then min (frame_position typed procedure number) 65535
    else 0

-- the place of a slot
abbrev pub place_in_segment : Segment → (offset : ℕ) → Place
place_in_segment segments.Code offset = Code (offset % 65536)
place_in_segment segments.Data offset = Data (offset % 65536)

abbrev pub place_of_slot : Option Slot → Place
place_of_slot None = Number 0
place_of_slot (Some slot) = place_in_segment slot.segment slot.offset

-- the home `distance` bytes further on; a BASED one has no place of its own
abbrev pub home_after : Home → (distance : ℕ) → Home
home_after (homes.Static place) distance = homes.Static (place_after place distance)
home_after home distance = homes.Static (Number distance)

-- the place of an EXTERNAL object
abbrev pub external_place : Option ℕ → Place
external_place None = Number 0
external_place (Some name) = External 0 name

-- The start of an object. The objects that AT and BASED name come before it.
abbrev pub home_of_object : TypedModule → Storage → (before : List Home) → (number : ℕ) → TypedHome → Home
home_of_object typed storage before number (InData values) =
    homes.Static (place_of_slot (slice_index_or storage.objects number None))
home_of_object typed storage before number (InConstants values) =
    homes.Static (place_of_slot (slice_index_or storage.objects number None))
home_of_object typed storage before number (Placed (AtNumber address)) = homes.Static (Number address)
home_of_object typed storage before number (Placed (AtObject object offset)) =
    home_after (home_at before object) offset
home_of_object typed storage before number (BasedOn base) = homes.Based (location_of (home_at before base))
home_of_object typed storage before number Elsewhere =
    homes.Static (external_place (external_number typed (is_global_object number)))
home_of_object typed storage before number Nowhere = homes.Static (Number 0)
home_of_object typed storage before number (InFrame procedure) =
    homes.Frame (frame_number typed procedure number)

-- the homes of objects, after those before
abbrev pub homes_from : TypedModule → Storage → (before : List Home) → List TypedObject → List Home
homes_from typed storage before [] = before
homes_from typed storage before (object ∷ others) =
    homes_from typed storage
    (before ++ home_of_object typed storage before (length before) object.home ∷ []) others

-- the home of each object of a module, by its number
unfoldable pub homes_of : TypedModule → Storage → List Home
homes_of typed storage = homes_from typed storage [] typed.objects

-- the kind of a procedure, from its index among the EXTERNAL names, if it has one
abbrev pub kind_with : (external : Option ℕ) → Visibility → (is_reentrant : Bool) → ProcedureKind
kind_with external visibilities.External is_reentrant = kinds.External (unwrap_or external 0)
kind_with external visibility is_reentrant = if is_reentrant then kinds.Reentrant else kinds.Static

-- the kind of the procedure with this number
abbrev pub kind_of : TypedModule → (number : ℕ) → TypedProcedure → ProcedureKind
kind_of typed number procedure =
    kind_with (external_number typed (is_global_procedure number)) procedure.visibility procedure.is_reentrant

-- the parameters of a procedure, each at the home of its object
abbrev pub parameter_at : List Home → ScalarType × ℕ → Parameter
parameter_at starts typed_object = record {
  scalar = typed_object.0;
  location = location_of (home_at starts typed_object.1);
}

abbrev pub parameters_of : List Home → TypedProcedure → List Parameter
parameters_of starts procedure =
    map (parameter_at starts) (zip procedure.parameter_types procedure.parameters)
