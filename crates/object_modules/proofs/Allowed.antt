-- What a plan keeps to that a module can be placed by: its code and its data lie in memory, and apart.
use Rattle.object_modules.proofs.Prelude.{◌≡◌, ◌+◌, ◌≤◌, ◌||◌, not, min, max, drop, length, None, refl, is_none, ltb-false, or_parts, none_holds, Code, Data, is_empty, ObjectModule, places_of}
use Rattle.mem80.specs.Range.{ranges_meet}
use Rattle.object_modules.specs.Image.{Plan, ExternalLeft, NoStart, PassesMemory, SegmentsMeet, code_range, data_range, stack_range, passes_memory, placement_refusals, placement_refusal}

-- what a plan that is not refused keeps to
pub record IsAllowed (plan : Plan) (object : ObjectModule) : Type 0 where
  pub code : plan.code_base + length (places_of object Code) ≤ 65536
  pub data_places : plan.data_base + length (places_of object Data) ≤ 65536
  pub apart :
      min (plan.code_base + length (places_of object Code)) (plan.data_base + length (places_of object Data))
      ≤ max plan.code_base plan.data_base

pub allowed :
    (plan : Plan) (object : ObjectModule) → placement_refusal plan object ≡ None → IsAllowed plan object
unfolding placement_refusal
allowed plan object h =
    let a =
    none_holds (not (is_empty object.externals)) ExternalLeft (drop 1 (placement_refusals plan object)) h in
    let b = none_holds (is_none object.start) NoStart (drop 2 (placement_refusals plan object)) a.1 in
    let c = none_holds
    (passes_memory (code_range plan object) || passes_memory (data_range plan object)
    || passes_memory (stack_range plan))
    PassesMemory (drop 3 (placement_refusals plan object)) b.1 in
    let d = none_holds
    (ranges_meet (code_range plan object) (data_range plan object)
    || ranges_meet (code_range plan object) (stack_range plan)
    || ranges_meet (data_range plan object) (stack_range plan))
    SegmentsMeet (drop 4 (placement_refusals plan object)) c.1 in
    let room = or_parts (passes_memory (code_range plan object) || passes_memory (data_range plan object))
    (passes_memory (stack_range plan)) c.0 in
    let both =
    or_parts (passes_memory (code_range plan object)) (passes_memory (data_range plan object)) room.0 in
    let three = or_parts
    (ranges_meet (code_range plan object) (data_range plan object)
    || ranges_meet (code_range plan object) (stack_range plan))
    (ranges_meet (data_range plan object) (stack_range plan)) d.0 in
    let two = or_parts (ranges_meet (code_range plan object) (data_range plan object))
    (ranges_meet (code_range plan object) (stack_range plan)) three.0 in
    record {
      code = ltb-false 65536 (plan.code_base + length (places_of object Code)) both.0;
      data_places = ltb-false 65536 (plan.data_base + length (places_of object Data)) both.1;
      apart =
          ltb-false (max plan.code_base plan.data_base)
          (min (plan.code_base + length (places_of object Code))
          (plan.data_base + length (places_of object Data))) two.0;
    }
