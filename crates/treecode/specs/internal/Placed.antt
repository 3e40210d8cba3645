-- The objects and the procedures of a module as they are placed, one by one.
use Rattle.std.specs.Prelude.{◌≡◌, ℕ, suc, ◌%◌, min, List, [], ◌∷◌, ◌++◌, length, map, Option, None, option_map, slice_get, slice_set, slice_index_or}
use Rattle.std.specs.Option.{option_map_or}
use Rattle.trees.specs.declared.declaration.ScalarType.{ScalarType}
use Rattle.typed_trees.specs.declared.parts.AtAddress.{AtAddress}
use Rattle.typed_trees.specs.declared.parts.AtAddress.TheVariants.{AtNumber, AtObject}
use Rattle.typed_trees.specs.Sizes.{size_of_object}
use Rattle.typed_trees.specs.TypedTrees.{Home as TypedHome, InData, InConstants, Placed, BasedOn, Elsewhere, Nowhere, InFrame, TypedObject, TypedProcedure, TypedModule}
use Rattle.layout.specs.Storage.{Storage}
use Rattle.treecode.specs.declared.module.TreeModule.{TreeModule}
use Rattle.treecode.specs.declared.place.Home.{Home}
use Rattle.treecode.specs.declared.place.Home.TheVariants as homes
use Rattle.treecode.specs.declared.place.Place.TheVariants.{Number}
use Rattle.treecode.specs.declared.procedure.FrameVariable.{FrameVariable}
use Rattle.treecode.specs.declared.procedure.ProcedureKind.{ProcedureKind}
use Rattle.treecode.specs.declared.procedure.TreeProcedure.{TreeProcedure}
use Rattle.treecode.specs.internal.Homes.{external_place, frame_variables, home_after, kind_of, kind_with, location_of, place_of_slot}
use Rattle.treecode.specs.internal.Nodes.{home_at}
use Rattle.treecode.specs.internal.Numbers.{number_in, with_number}

-- the heading of a procedure, and the contents of its frame
pub record Heading : Type 0 where
  pub kind : ProcedureKind
  pub result : Option ScalarType
  pub frame : List FrameVariable
  pub frame_bytes : ℕ

abbrev pub heading_of : TreeProcedure → Heading
heading_of procedure = record {
  kind = procedure.kind;
  result = procedure.result;
  frame = procedure.frame.items;
  frame_bytes = procedure.frame_bytes;
}

abbrev pub headings_of : TreeModule → List Heading
headings_of tree = map heading_of tree.procedures.items

-- a procedure with this number and an empty frame, from the indices of EXTERNAL procedures among the names
abbrev pub heading_in : (externals : List (Option ℕ)) → (number : ℕ) → TypedProcedure → Heading
heading_in externals number procedure = record {
  kind = kind_with (number_in externals number) procedure.visibility procedure.is_reentrant;
  result = procedure.result;
  frame = [];
  frame_bytes = procedure.frame_bytes;
}

-- the heading of the procedure with this number, according to the module
abbrev pub heading_at : TypedModule → (number : ℕ) → TypedProcedure → Heading
heading_at typed number procedure = record {
  kind = kind_of typed number procedure;
  result = procedure.result;
  frame = frame_variables typed number;
  frame_bytes = procedure.frame_bytes;
}

abbrev pub HeadingsAre : TypedModule → List Heading → Type 0
HeadingsAre typed headings =
    (number : ℕ)
    → slice_get headings number ≡ option_map (heading_at typed number) (slice_get typed.procedures number)

-- the headings of procedures, from the number of the first one
abbrev pub headings_in : (externals : List (Option ℕ)) → (first : ℕ) → List TypedProcedure → List Heading
headings_in externals first [] = []
headings_in externals first (procedure ∷ others) =
    heading_in externals first procedure ∷ headings_in externals (suc first) others

-- parameter indices extended by those of objects, from the index of the first one
abbrev pub with_parameters : List (Option ℕ) → (index : ℕ) → (objects : List ℕ) → List (Option ℕ)
with_parameters entries index [] = entries
with_parameters entries index (object ∷ others) =
    with_parameters (with_number entries object index) (suc index) others

abbrev pub with_all_parameters : List (Option ℕ) → List TypedProcedure → List (Option ℕ)
with_all_parameters entries [] = entries
with_all_parameters entries (procedure ∷ others) =
    with_all_parameters (with_parameters entries 0 procedure.parameters) others

-- an object in a frame, which may be a parameter
abbrev pub variable_of : TypedObject → (parameter : Option ℕ) → FrameVariable
variable_of object parameter = record {
  size = min (size_of_object object) 65535;
  parameter = option_map (λ (index : ℕ). index % 65536) parameter;
}

abbrev pub with_variable : FrameVariable → Heading → Heading
with_variable variable heading = record heading { frame = heading.frame ++ variable ∷ [] }

-- adds a variable to the frame of the procedure with this number, if any
abbrev pub with_variable_in : List Heading → (procedure : ℕ) → FrameVariable → List Heading
with_variable_in headings procedure variable =
    option_map_or (λ (heading : Heading). slice_set headings procedure (with_variable variable heading))
    (slice_get headings procedure) headings

-- the number of the next variable in the frame of a procedure
abbrev pub variable_number : List Heading → (procedure : ℕ) → ℕ
variable_number headings procedure =
    option_map_or (λ (heading : Heading). min (length heading.frame) 65535) (slice_get headings procedure) 0

-- the homes of the objects so far, and the procedures with the contents of their frames
pub record PlacedSoFar : Type 0 where
  pub homes : List Home
  pub headings : List Heading

abbrev pub placed_in : TreeModule → PlacedSoFar
placed_in tree = record { homes = tree.homes.items; headings = headings_of tree }

-- the home of an object with AT
abbrev pub home_at_address : (before : List Home) → AtAddress → Home
home_at_address before (AtNumber address) = homes.Static (Number address)
home_at_address before (AtObject object offset) = home_after (home_at before object) offset

-- the home of an object with this number, from the indices of EXTERNAL objects among the names
abbrev pub home_in : (externals : List (Option ℕ)) → Storage → PlacedSoFar → (number : ℕ) → TypedHome → Home
home_in externals storage before number (InData values) =
    homes.Static (place_of_slot (slice_index_or storage.objects number None))
home_in externals storage before number (InConstants values) =
    homes.Static (place_of_slot (slice_index_or storage.objects number None))
home_in externals storage before number (Placed at) = home_at_address before.homes at
home_in externals storage before number (BasedOn base) = homes.Based (location_of (home_at before.homes base))
home_in externals storage before number Elsewhere = homes.Static (external_place (number_in externals number))
home_in externals storage before number Nowhere = homes.Static (Number 0)
home_in externals storage before number (InFrame procedure) =
    homes.Frame (variable_number before.headings procedure)

-- the procedures after an object, which may be in the frame of one
abbrev pub headings_after : List Heading → FrameVariable → TypedHome → List Heading
headings_after before variable (InFrame procedure) = with_variable_in before procedure variable
headings_after before variable home = before

-- places the object with this number
abbrev pub with_placed :
    (externals parameters : List (Option ℕ)) → Storage → PlacedSoFar → (number : ℕ) → TypedObject
    → PlacedSoFar
with_placed externals parameters storage before number object = record {
  homes = before.homes ++ home_in externals storage before number object.home ∷ [];
  headings = headings_after before.headings (variable_of object (number_in parameters number)) object.home;
}

-- places objects, from the number of the first one
abbrev pub all_placed :
    (externals parameters : List (Option ℕ)) → Storage → PlacedSoFar → (number : ℕ) → List TypedObject
    → PlacedSoFar
all_placed externals parameters storage before number [] = before
all_placed externals parameters storage before number (object ∷ others) =
    all_placed externals parameters storage (with_placed externals parameters storage before number object)
    (suc number) others
