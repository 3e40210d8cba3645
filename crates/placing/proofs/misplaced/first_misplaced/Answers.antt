-- The objects of a module, and then those of the others.
use Rattle.placing.proofs.Prelude.{length, map, refl, arith, slice_get_read, module_view, placed_objects, module_placement_view, name_of_misplaced}
use Rattle.placing.proofs.MisplacedLoops.{module_found, module_passed}
use Rattle.placing.proofs.misplaced.first_misplaced.Goals as goal

pub returns-in-Some-misplaced_in : goal.returns-in-Some-misplaced_in
returns-in-Some-misplaced_in c =
    module_found c.args.ranges.code c.args.ranges.stack c.args.modules.now c.args.placements.now
    c.loop-typed.typed-index c.loop-typed.number
    (name_of_misplaced c.args.ranges.code c.args.ranges.stack
    (placed_objects (map module_view c.args.modules.now) (map module_placement_view c.args.placements.now)))
    c.loop-typed.invariant.0 c.misplaced_in.result c.in-Some-misplaced_in.name c.typed-item.result
    c.in-Some.placed.now (omega arith) c.typed-item.is
    (slice_get_read c.args.placements.now (length c.args.placements.now) c.loop-typed.number
    c.in-Some.placed.now
    refl (c.in-Some.ensures.lookup.3).0 c.in-Some.ensures.lookup.1) c.misplaced_in.ensures
    c.in-Some-misplaced_in.is

pub loop-typed-preserved : goal.loop-typed-preserved
loop-typed-preserved c = (
  module_passed c.args.ranges.code c.args.ranges.stack c.args.modules.now c.args.placements.now
      c.loop-typed.typed-index c.loop-typed.number
      (name_of_misplaced c.args.ranges.code c.args.ranges.stack
      (placed_objects (map module_view c.args.modules.now) (map module_placement_view c.args.placements.now)))
      c.loop-typed.invariant.0 c.misplaced_in.result c.typed-item.result
      c.in-Some.placed.now (omega arith) c.typed-item.is
      (slice_get_read c.args.placements.now (length c.args.placements.now) c.loop-typed.number
      c.in-Some.placed.now
      refl (c.in-Some.ensures.lookup.3).0 c.in-Some.ensures.lookup.1) c.misplaced_in.ensures
      c.in_default-misplaced_in.is,
  omega arith,
)
