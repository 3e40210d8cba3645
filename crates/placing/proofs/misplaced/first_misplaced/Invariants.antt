use Rattle.placing.proofs.Prelude.{◌≡◌, map, module_view, placed_objects, module_placement_view, name_of_misplaced}
use Rattle.placing.proofs.MisplacedLoops.{first_left}
use Rattle.placing.proofs.misplaced.first_misplaced.Given as goal

abbrev pub invariant-loop-typed : goal.invariant-loop-typed
invariant-loop-typed l =
    (first_left l.ranges.code l.ranges.stack l.modules l.placements l.typed-index l.number
    ≡ name_of_misplaced l.ranges.code l.ranges.stack
    (placed_objects (map module_view l.modules) (map module_placement_view l.placements)))
    × (l.number ≡ l.typed-index)
