-- The slots of objects in frames.
use Rattle.std.specs.Prelude.{◌≡◌, ℕ, ◌<◌, List, length, map, take, slice_index, slice_index_or, Some}
use Rattle.declared.specs.declared.slots.ObjectSlot.{ObjectSlot}
use Rattle.declared.specs.internal.Frames.{FrameObject, sizes_in}
use Rattle.declared.specs.internal.Cuts.{total}

abbrev pub slot_view : ObjectSlot → FrameObject
slot_view slot = record { procedure = slot.procedure; size = slot.size }

abbrev pub slot_sizes : (procedure : ℕ) → List ObjectSlot → List ℕ
slot_sizes procedure slots = sizes_in procedure (map slot_view slots)

-- each frame has the bytes of its objects, and each object begins after those before it
pub record AreSlots (slots : List ObjectSlot) (frame_sizes : List ℕ) : Type 0 where
  pub sizes :
      (procedure : ℕ)
      → procedure < length frame_sizes
      → slice_index frame_sizes procedure ≡ total (slot_sizes procedure slots)
  pub starts :
      (k procedure : ℕ) (slot : ObjectSlot)
      → k < length slots
      → slot ≡ slice_index_or slots k slot
      → slot.procedure ≡ Some procedure
      → procedure < length frame_sizes
      → slot.start ≡ total (take k (slot_sizes procedure slots))
