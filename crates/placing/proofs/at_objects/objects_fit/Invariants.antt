use Rattle.placing.proofs.Prelude.{◌≡◌, length, map, object_view, objects_fit}
use Rattle.placing.proofs.at_objects.objects_fit.Given as goal

abbrev pub invariant-loop-rest : goal.invariant-loop-rest
invariant-loop-rest l =
    objects_fit l.code l.stack l.table l.addresses (map object_view l.rest) l.places
    ≡ objects_fit l.code l.stack l.table l.addresses (map object_view l.objects) l.addresses

abbrev pub decreases-loop-rest : goal.decreases-loop-rest
decreases-loop-rest l = length l.rest
