use Rattle.placing.proofs.Prelude.{◌≡◌, length, map, zip, object_view, name_of_misplaced}
use Rattle.placing.proofs.misplaced.misplaced_in.Given as goal

abbrev pub invariant-loop-rest : goal.invariant-loop-rest
invariant-loop-rest l =
    name_of_misplaced l.ranges.code l.ranges.stack (zip (map object_view l.rest) l.places)
    ≡ name_of_misplaced l.ranges.code l.ranges.stack
    (zip (map object_view l.typed.objects.items) l.placed.objects.items)

abbrev pub decreases-loop-rest : goal.decreases-loop-rest
decreases-loop-rest l = length l.rest
