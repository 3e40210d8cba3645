-- Placements, plans and faults of the code in the words of programs.
use Rattle.std.specs.Prelude.{ℕ, List, map, codes}
use Rattle.placing.specs.declared.fault.Fault.{Fault}
use Rattle.placing.specs.declared.fault.Fault.TheVariants as faults
use Rattle.placing.specs.declared.placement.ModulePlacement.{ModulePlacement as CodeModulePlacement}
use Rattle.placing.specs.declared.placement.Placement.{Placement as CodePlacement}
use Rattle.mem80.specs.declared.plan.Plan.{Plan as CodePlan}
use Rattle.layout.specs.Placement.{ModulePlacement, Placement}
use Rattle.layout.specs.Placing.{Plan, PlacingRefusal, SegmentTooLarge, PassesMemory, RangesOverlap, ObjectMisplaced}

abbrev pub module_placement_view : CodeModulePlacement → ModulePlacement
module_placement_view placed = record { objects = placed.objects.items; lists = placed.lists.items }

abbrev pub placement_view : CodePlacement → Placement
placement_view placement = record {
  modules = map module_placement_view placement.modules.items;
  code = placement.code;
  stack = placement.stack;
}

abbrev pub plan_view : CodePlan → Plan
plan_view plan = record {
  code_base = plan.code;
  data_base = plan.data_base;
  stack_base = plan.stack;
  stack_size = plan.stack_size;
}

-- the number of a fault
abbrev pub number_of : Fault → List ℕ
number_of faults.SegmentTooLarge = codes "L3"
number_of faults.PassesMemory = codes "P2"
number_of faults.RangesOverlap = codes "P1"
number_of (faults.ObjectMisplaced name) = codes "J5"

-- the refusal that a fault stands for
abbrev pub refusal_of : Fault → PlacingRefusal
refusal_of faults.SegmentTooLarge = SegmentTooLarge
refusal_of faults.PassesMemory = PassesMemory
refusal_of faults.RangesOverlap = RangesOverlap
refusal_of (faults.ObjectMisplaced name) = ObjectMisplaced name
