-- Storage as one pass over the constants and one over the objects find it.
use Rattle.std.specs.Prelude.{◌≡◌, ℕ, zero, suc, ◌+◌, ◌<◌, List, [], ◌∷◌, length, Contains, Option, Some, None, slice_get}
use Rattle.typed_trees.specs.declared.parts.ConstantItem.TheVariants.{ConstantObject, ConstantList}
use Rattle.typed_trees.specs.declared.parts.ConstantItem.{ConstantItem}
use Rattle.typed_trees.specs.declared.parts.InitialValue.{InitialValue}
use Rattle.typed_trees.specs.TypedTrees.{Home, InData, InConstants, TypedObject, TypedModule}
use Rattle.typed_trees.specs.Sizes.{size_of_object}
use Rattle.typed_trees.specs.Weight.{size_of_constant}
use Rattle.layout.specs.declared.slot.Segment.TheVariants.{Code, Data}
use Rattle.layout.specs.declared.slot.Slot.{Slot}
use Rattle.layout.specs.Storage.{bytes_in_data}

-- the offsets among the constants that are known, by the numbers of objects and of lists
pub record OffsetTables : Type 0 where
  pub objects : List (Option ℕ)
  pub lists : List (Option ℕ)

-- the first offset that a number gets stays
abbrev pub or_first : Option ℕ → (offset : ℕ) → Option ℕ
or_first None offset = Some offset
or_first (Some before) offset = Some before

abbrev pub put_first : List (Option ℕ) → (number offset : ℕ) → List (Option ℕ)
put_first [] number offset = []
put_first (found ∷ others) zero offset = or_first found offset ∷ others
put_first (found ∷ others) (suc number) offset = found ∷ put_first others number offset

abbrev pub put : OffsetTables → ConstantItem → (offset : ℕ) → OffsetTables
put tables (ConstantObject number) offset =
    record tables { objects = put_first tables.objects number offset }
put tables (ConstantList number) offset = record tables { lists = put_first tables.lists number offset }

-- constants are met one after another, from the offset `before` on
abbrev pub put_all : TypedModule → (before : ℕ) → List ConstantItem → OffsetTables → OffsetTables
put_all typed before [] tables = tables
put_all typed before (item ∷ others) tables =
    put_all typed (before + size_of_constant typed item) others (put tables item before)

-- the offset of a number, where those that were not met have another
abbrev pub offset_or : Option (Option ℕ) → (otherwise : ℕ) → ℕ
offset_or (Some (Some offset)) otherwise = offset
offset_or found otherwise = otherwise

abbrev pub offset_in : List (Option ℕ) → (number otherwise : ℕ) → ℕ
offset_in table number otherwise = offset_or (slice_get table number) otherwise

-- where an object lies in its segment, for each segment that it may be in
abbrev pub slot_at : (in_data in_constants : ℕ) → TypedObject → Home → Option Slot
slot_at in_data in_constants object (InData values) =
    Some (record { segment = Data; offset = in_data; size = size_of_object object })
slot_at in_data in_constants object (InConstants values) =
    Some (record { segment = Code; offset = in_constants; size = size_of_object object })
slot_at in_data in_constants object home = None

-- the slots of objects that are numbered from one on, from an offset in the data segment on
abbrev pub slots_from :
    (offsets : List (Option ℕ)) → (otherwise number in_data : ℕ) → List TypedObject → List (Option Slot)
slots_from offsets otherwise number in_data [] = []
slots_from offsets otherwise number in_data (object ∷ others) =
    slot_at in_data (offset_in offsets number otherwise) object object.home
    ∷ slots_from offsets otherwise (number + 1) (in_data + bytes_in_data object.home object) others

abbrev pub list_slots_from :
    (offsets : List (Option ℕ)) → (otherwise number : ℕ) → List (List ℕ) → List Slot
list_slots_from offsets otherwise number [] = []
list_slots_from offsets otherwise number (bytes ∷ others) =
    record { segment = Code; offset = offset_in offsets number otherwise; size = length bytes }
    ∷ list_slots_from offsets otherwise (number + 1) others

-- each object with DATA and each list of a module stands among its constants
pub record HasItsConstants (typed : TypedModule) : Type 0 where
  pub objects :
      (number : ℕ) (object : TypedObject) (values : List InitialValue)
      → slice_get typed.objects number ≡ Some object
      → object.home ≡ InConstants values
      → Contains typed.constants.items (ConstantObject number)
  pub lists :
      (number : ℕ)
      → number < length typed.constants.lists
      → Contains typed.constants.items (ConstantList number)
