-- Where the static objects and the constant lists of a module lie in its segments (PL/M-80 Programming
-- Manual, "Storage of variables"). The data segment holds the objects without AT and DATA, in the order of
-- their declarations and without gaps; the code segment begins with the objects with DATA and the constant
-- lists, in the order of the text.
use Rattle.std.specs.Prelude.{ℕ, Bool, false, not, ◌&&◌, ◌==◌, List, length, map, take, take_while, Option, Some, None, Result, Ok, Err, nat_le, if◌then◌else◌, sum_by}
use Rattle.std.specs.List.{enumerate_from, list_all}
use Rattle.typed_trees.specs.declared.parts.ConstantItem.TheVariants.{ConstantObject, ConstantList}
use Rattle.typed_trees.specs.declared.parts.ConstantItem.{ConstantItem}
use Rattle.typed_trees.specs.TypedTrees.{Home, InData, InConstants, TypedObject, TypedModule}
use Rattle.typed_trees.specs.Sizes.{size_of_object}
use Rattle.typed_trees.specs.Weight.{size_of_constant, constant_bytes}
use Rattle.layout.specs.declared.fault.Fault.{Fault}
use Rattle.layout.specs.declared.fault.Fault.TheVariants.{DataTooLarge, ConstantsTooLarge}
use Rattle.layout.specs.declared.slot.Segment.TheVariants.{Code, Data}
use Rattle.layout.specs.declared.slot.Slot.{Slot}
use Rattle.layout.specs.declared.slot.TheConstants.{SEGMENT_LIMIT}

-- the bytes of the data segment that an object takes
abbrev pub bytes_in_data : Home → TypedObject → ℕ
bytes_in_data (InData values) object = size_of_object object
bytes_in_data home object = 0

abbrev pub data_bytes : List TypedObject → ℕ
data_bytes objects = sum_by (λ (object : TypedObject). bytes_in_data object.home object) objects

-- the bytes of the constants before an object, or before a constant list
abbrev pub is_object : (object : ℕ) → ConstantItem → Bool
is_object object (ConstantObject other) = other == object
is_object object (ConstantList list) = false

abbrev pub is_list : (list : ℕ) → ConstantItem → Bool
is_list list (ConstantObject object) = false
is_list list (ConstantList other) = other == list

abbrev pub constants_before : TypedModule → (ConstantItem → Bool) → ℕ
constants_before typed wanted =
    sum_by (size_of_constant typed)
    (take_while (λ (item : ConstantItem). not (wanted item)) typed.constants.items)

-- where an object lies in its segment; one with AT, BASED, in a frame or in another module lies in none
abbrev pub slot_of_object : TypedModule → (number : ℕ) → TypedObject → Home → Option Slot
slot_of_object typed number object (InData values) =
    Some (record {
      segment = Data;
      offset = data_bytes (take number typed.objects);
      size = size_of_object object;
    })
slot_of_object typed number object (InConstants values) =
    Some (record {
      segment = Code;
      offset = constants_before typed (is_object number);
      size = size_of_object object;
    })
slot_of_object typed number object home = None

abbrev pub slot_of_list : TypedModule → (number : ℕ) → List ℕ → Slot
slot_of_list typed number bytes =
    record { segment = Code; offset = constants_before typed (is_list number); size = length bytes }

-- the storage of a module: where each object of its table lies, and each constant list
pub record Storage : Type 0 where
  pub objects : List (Option Slot)
  pub lists : List Slot
  pub data_size : ℕ
  pub constant_size : ℕ

abbrev pub storage_with : TypedModule → Storage
storage_with typed = record {
  objects = map
      (λ (numbered : ℕ × TypedObject). slot_of_object typed numbered.0 numbered.1 (numbered.1).home)
      (enumerate_from 0 typed.objects);
  lists = map
      (λ (numbered : ℕ × List ℕ). slot_of_list typed numbered.0 numbered.1)
      (enumerate_from 0 typed.constants.lists);
  data_size = data_bytes typed.objects;
  constant_size = constant_bytes typed;
}

-- the bytes of the constants that an object takes
abbrev pub bytes_in_constants : Home → TypedObject → ℕ
bytes_in_constants (InConstants values) object = size_of_object object
bytes_in_constants home object = 0

abbrev pub fits_as_object : TypedObject → Bool
fits_as_object object = nat_le (bytes_in_constants object.home object) SEGMENT_LIMIT

abbrev pub fits_as_list : List ℕ → Bool
fits_as_list bytes = nat_le (length bytes) SEGMENT_LIMIT

-- Whether the constants fit into a segment: all together, and each object with DATA and each list alone. The
-- second says no more where all of these stand among the constants.
abbrev pub constants_fit : TypedModule → Bool
constants_fit typed =
    nat_le (constant_bytes typed) SEGMENT_LIMIT && list_all fits_as_object typed.objects
    && list_all fits_as_list typed.constants.lists

-- Neither the data segment nor the constants have over 65535 bytes.
unfoldable pub storage_of : TypedModule → Result Storage Fault
storage_of typed =
    if nat_le (data_bytes typed.objects) SEGMENT_LIMIT
    then
    (if constants_fit typed then Ok (storage_with typed)
    else Err ConstantsTooLarge)
    else Err DataTooLarge
