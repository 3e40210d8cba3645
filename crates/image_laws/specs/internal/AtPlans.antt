-- Object modules of the modules of a program, linked and placed by its plan: their segments begin where the
-- placement of the program says, and their merge is refused there for the same reasons.
use Rattle.std.specs.Prelude.{◌≡◌, ℕ, List, [], ◌∷◌, All, length, map, zip, Option, Some, None, Ok}
use Rattle.std.specs.Option.{option_and_then}
use Rattle.mem80.specs.Range.{address_past}
use Rattle.typed_trees.specs.TypedTrees.{TypedModule}
use Rattle.layout.specs.declared.slot.Slot.{Slot}
use Rattle.layout.specs.Following.{Bases, address_of_slot}
use Rattle.layout.specs.Placing.{Plan as PlacingPlan, PlacingRefusal, RangesOverlap, SegmentTooLarge, ObjectMisplaced, bases_from, placing_refusal, stack_range}
use Rattle.layout.specs.Placing.{PassesMemory as PlacingPassesMemory}
use Rattle.object_modules.specs.declared.segment.Segment.TheVariants.{Code, Data, Stack}
use Rattle.object_modules.specs.declared.segment.Target.TheVariants.{InSegment}
use Rattle.object_modules.specs.Displacements.{Linked, linked_modules, public_named}
use Rattle.object_modules.specs.Image.{Plan, Image, PlacementRefusal, PassesMemory, SegmentsMeet, placement_refusal}
use Rattle.object_modules.specs.Merge.{SegmentTooLong, link_refusal, main_modules, merge_of, public_names, repeated_after, unresolved}
use Rattle.object_modules.specs.Module.{Public, ObjectModule, length_of}
use Rattle.image_laws.specs.internal.InMemory.{ArePlaced, ModuleStands, address_of_public, address_of_target, piece_base}
use Rattle.image_laws.specs.Objects.{IsObjectOf, segment_of}

-- the plan of a program, as one of object modules
abbrev pub plan_of : PlacingPlan → Plan
plan_of plan = record {
  code_base = plan.code_base;
  data_base = plan.data_base;
  stack_base = plan.stack_base;
  stack_size = plan.stack_size;
}

-- one for each module, in their order
abbrev pub AreObjectsOf : List TypedModule → List ObjectModule → Type 0
AreObjectsOf [] [] = Unit {0}
AreObjectsOf (typed ∷ others) (object ∷ objects) = IsObjectOf typed object × AreObjectsOf others objects
AreObjectsOf modules objects = ⊥

-- how many bytes the code segment of each module has
abbrev pub code_lengths_of : List ObjectModule → List ℕ
code_lengths_of objects = map (λ (object : ObjectModule). length_of object Code) objects

-- where the segments of a module begin in memory
abbrev pub bases_of : PlacingPlan → Linked → Bases
bases_of plan linked = record {
  code_base = piece_base (plan_of plan) linked.start Code;
  data_base = piece_base (plan_of plan) linked.start Data;
}

-- they begin where the placement has them
abbrev pub BasesAgree : Type 0
BasesAgree =
    (plan : PlacingPlan) (modules : List TypedModule) (objects : List ObjectModule)
    → AreObjectsOf modules objects
    → map (bases_of plan) (linked_modules objects)
    ≡ bases_from plan.code_base plan.data_base modules (code_lengths_of objects)

-- A module stands at these bases: they are what its targets mean, and its segments stand there.
pub record StandsAt
    (plan : PlacingPlan) (merged : ObjectModule) (before after : List ℕ)
    (based : Linked × Bases) : Type 0 where
  pub code : address_of_target (plan_of plan) merged based.0 (InSegment Code) ≡ (based.1).code_base
  pub data_base : address_of_target (plan_of plan) merged based.0 (InSegment Data) ≡ (based.1).data_base
  pub stack :
      address_of_target (plan_of plan) merged based.0 (InSegment Stack) ≡ address_past (stack_range plan)
  pub segments : ModuleStands (plan_of plan) merged before after based.0

-- each module stands at the bases that the placement has for it
abbrev pub ProgramStands : Type 0
ProgramStands =
    (plan : PlacingPlan) (modules : List TypedModule) (objects : List ObjectModule) (merged : ObjectModule)
    (image : Image) (before after : List ℕ)
    → AreObjectsOf modules objects
    → ArePlaced objects merged (plan_of plan) image before after
    → All (StandsAt plan merged before after)
    (zip (linked_modules objects)
    (bases_from plan.code_base plan.data_base modules (code_lengths_of objects)))

-- a public is declared at a slot of its module
pub record IsAtSlot (public : Public) (slot : Slot) : Type 0 where
  pub segment : public.segment ≡ segment_of slot.segment
  pub offset : public.offset ≡ slot.offset

-- such a public lies where the placement has that slot
abbrev pub SlotsLie : Type 0
SlotsLie =
    (plan : PlacingPlan) (objects : List ObjectModule) (merged : ObjectModule)
    → merge_of objects ≡ Ok merged
    → All
    (λ (linked : Linked).
    All
    (λ (public : Public). (slot : Slot) → IsAtSlot public slot
    → address_of_public (plan_of plan) (public_named merged.publics public.name)
    ≡ address_of_slot (bases_of plan linked) slot)
    (linked.object).publics)
    (linked_modules objects)

-- a merge that is refused for its lengths is one of a program that can't be placed for them, at any plan
abbrev pub LengthsRefused : Type 0
LengthsRefused =
    (plan : PlacingPlan) (modules : List TypedModule) (objects : List ObjectModule)
    → AreObjectsOf modules objects
    → link_refusal objects ≡ Some SegmentTooLong
    → placing_refusal plan modules (code_lengths_of objects) ≡ Some SegmentTooLarge

-- and the other way round if no names are wrong, which is judged first
abbrev pub LengthsAgree : Type 0
LengthsAgree =
    (plan : PlacingPlan) (modules : List TypedModule) (objects : List ObjectModule)
    → AreObjectsOf modules objects
    → repeated_after [] (public_names objects) ≡ None
    → unresolved objects ≡ None
    → placing_refusal plan modules (code_lengths_of objects) ≡ Some SegmentTooLarge
    → link_refusal objects ≡ Some SegmentTooLong

-- so modules with one main module and without wrong names have a merge if none of their segments is too
-- large
abbrev pub MergeMade : Type 0
MergeMade =
    (plan : PlacingPlan) (modules : List TypedModule) (objects : List ObjectModule)
    → AreObjectsOf modules objects
    → repeated_after [] (public_names objects) ≡ None
    → unresolved objects ≡ None
    → length (main_modules (linked_modules objects)) ≡ 1
    → (placing_refusal plan modules (code_lengths_of objects) ≡ Some SegmentTooLarge → ⊥)
    → (merged : ObjectModule) × (merge_of objects ≡ Ok merged)

-- The refusal of the merge for a refusal of the program: where an object lies by AT is judged of the
-- program alone, and a merge has no segment that is too long.
abbrev pub refusal_of_merge : PlacingRefusal → Option PlacementRefusal
refusal_of_merge SegmentTooLarge = None
refusal_of_merge PlacingPassesMemory = Some PassesMemory
refusal_of_merge RangesOverlap = Some SegmentsMeet
refusal_of_merge (ObjectMisplaced name) = None

-- a merge is refused at the plan as the program is
abbrev pub RangesRefused : Type 0
RangesRefused =
    (plan : PlacingPlan) (modules : List TypedModule) (objects : List ObjectModule) (merged : ObjectModule)
    → AreObjectsOf modules objects
    → merge_of objects ≡ Ok merged
    → placement_refusal (plan_of plan) merged
    ≡ option_and_then refusal_of_merge (placing_refusal plan modules (code_lengths_of objects))
