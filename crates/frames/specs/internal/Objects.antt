-- The stack that a procedure of a typed module takes, and the places of the objects in its frame, in terms of
-- the typed module. Distances are in bytes, upwards from the stack pointer, when nothing is pushed.
use Rattle.std.specs.Prelude.{◌≡◌, ℕ, ◌+◌, ◌<◌, ◌≤◌, min, IsSomeAnd, slice_get}
use Rattle.mem80.specs.declared.memory.TheConstants.{MEMORY_SIZE}
use Rattle.mem80.specs.Range.{IsIn}
use Rattle.typed_trees.specs.Charge.{charge_of}
use Rattle.typed_trees.specs.Sizes.{size_of_object}
use Rattle.typed_trees.specs.TypedTrees.{InFrame, TypedObject, TypedProcedure, TypedModule}
use Rattle.treecode.specs.declared.procedure.TreeProcedure.{TreeProcedure}
use Rattle.treecode.specs.internal.Homes.{frame_number}
use Rattle.frames.specs.declared.frame_plan.FramePlan.{FramePlan}
use Rattle.frames.specs.internal.Charges.{charge_in, IsChargedAs}
use Rattle.frames.specs.internal.Frames.{distance_of, return_of, HasFrame, IsPlanOf}
use Rattle.frames.specs.internal.Calls.{call_bytes}

-- an object in the frame of a procedure has a byte of this number
abbrev pub HasByte : TypedModule → (procedure object offset : ℕ) → Type 0
HasByte typed procedure object offset =
    IsSomeAnd (slice_get typed.objects object)
    (λ (found : TypedObject). (found.home ≡ InFrame procedure) × (offset < size_of_object found))

-- the distance of that byte, by the number of the object in the frame
abbrev pub place_of_byte : TypedModule → FramePlan → (procedure object offset : ℕ) → ℕ
place_of_byte typed plan procedure object offset =
    distance_of plan (frame_number typed procedure object) + offset

-- Each byte of an object in the frame is among the bytes of the call, outside the return address, and no two
-- bytes share a place.
pub record ObjectsLie (typed : TypedModule) (number : ℕ) (heading : TypedProcedure) (plan : FramePlan) :
    Type 0 where
  pub within :
      (object offset : ℕ)
      → HasByte typed number object offset
      → place_of_byte typed plan number object offset < call_bytes heading
  pub return_within : (return_of plan).start + 2 ≤ call_bytes heading
  pub off_return :
      (object offset : ℕ)
      → HasByte typed number object offset
      → ¬ IsIn (place_of_byte typed plan number object offset) (return_of plan)
  pub apart :
      (object offset other other_offset : ℕ)
      → HasByte typed number object offset
      → HasByte typed number other other_offset
      → place_of_byte typed plan number object offset ≡ place_of_byte typed plan number other other_offset
      → (object ≡ other) × (offset ≡ other_offset)

-- a procedure of tree code takes the same stack as the typed one, and its objects do not overlap
pub record IsFramedAs
    (typed : TypedModule) (number : ℕ) (procedure : TreeProcedure) (heading : TypedProcedure) : Type 0 where
  pub charged : IsChargedAs procedure heading
  pub charge : min (charge_in procedure) MEMORY_SIZE ≡ min (charge_of heading) MEMORY_SIZE
  pub frame : HasFrame procedure
  pub objects : (plan : FramePlan) → IsPlanOf procedure plan → ObjectsLie typed number heading plan
