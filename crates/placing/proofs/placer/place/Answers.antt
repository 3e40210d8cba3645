-- The refusals in turn, and the placement that is left.
use Rattle.placing.proofs.Prelude.{option_map, ap, ◌∙◌, ObjectMisplaced, modules_of, placement_view}
use Rattle.placing.proofs.LawPlaced.{lawful_placement}
use Rattle.placing.proofs.Placings.{range_found, placed_is, refused_by}
use Rattle.placing.proofs.placer.place.Goals as goal

pub returns-in-Some-clause-fault : goal.returns-in-Some-clause-fault
returns-in-Some-clause-fault c =
    range_found (modules_of c.args.joined.now) c.modules-modules.result.now c.args.layouts.now
    c.args.code_lengths.now c.args.plan.now c.ranges_by-ranges.result c.requires.storage
    c.modules-modules.ensures
    c.ranges_by-ranges.ensures.code c.ranges_by-ranges.ensures.variables c.ranges_by-ranges.ensures.stack
    c.range_fault.result c.in-Some.fault c.range_fault.ensures c.in-Some.is

pub returns-in-Some-first_misplaced-clause-fault : goal.returns-in-Some-first_misplaced-clause-fault
returns-in-Some-first_misplaced-clause-fault c =
    refused_by (modules_of c.args.joined.now) c.modules-modules.result.now c.args.layouts.now
    c.args.code_lengths.now c.args.plan.now c.ranges_by-ranges.result c.requires.storage
    c.modules-modules.ensures
    c.ranges_by-ranges.ensures.code c.ranges_by-ranges.ensures.variables c.ranges_by-ranges.ensures.stack
    c.range_fault.result c.range_fault.ensures c.in_default.is c.in_ok-placements.placements.items
    c.in_ok-placements.ensures.ok c.first_misplaced.result c.as_slice.result.now c.as_slice.ensures.value
    c.first_misplaced.ensures
    ∙ ap (option_map ObjectMisplaced) c.in-Some-first_misplaced.is

pub returns-clause-ok : goal.returns-clause-ok
returns-clause-ok c =
    refused_by (modules_of c.args.joined.now) c.modules-modules.result.now c.args.layouts.now
    c.args.code_lengths.now c.args.plan.now c.ranges_by-ranges.result c.requires.storage
    c.modules-modules.ensures
    c.ranges_by-ranges.ensures.code c.ranges_by-ranges.ensures.variables c.ranges_by-ranges.ensures.stack
    c.range_fault.result c.range_fault.ensures c.in_default.is c.in_ok-placements.placements.items
    c.in_ok-placements.ensures.ok c.first_misplaced.result c.as_slice.result.now c.as_slice.ensures.value
    c.first_misplaced.ensures
    ∙ ap (option_map ObjectMisplaced) c.in_default-first_misplaced.is

pub returns-clause-placed : goal.returns-clause-placed
returns-clause-placed c =
    c.new.ensures
    ∙ placed_is (modules_of c.args.joined.now) c.modules-modules.result.now c.args.layouts.now
    c.args.code_lengths.now c.args.plan.now c.ranges_by-ranges.result c.requires.storage
    c.modules-modules.ensures
    c.ranges_by-ranges.ensures.code c.ranges_by-ranges.ensures.variables c.ranges_by-ranges.ensures.stack
    c.range_fault.result c.range_fault.ensures c.in_default.is c.in_ok-placements.placements.items
    c.in_ok-placements.ensures.ok

pub returns-clause-lawful : goal.returns-clause-lawful
returns-clause-lawful c =
    lawful_placement c.args.plan.now (modules_of c.args.joined.now) c.args.code_lengths.now
    (placement_view c.new.result) c.requires.lengths (returns-clause-ok c) (returns-clause-placed c)
