use Rattle.placing.proofs.Prelude.{◌≡◌, length, map, object_view, claim_objects}
use Rattle.placing.proofs.claims.claim_objects.Given as goal

abbrev pub invariant-loop-rest : goal.invariant-loop-rest
invariant-loop-rest l =
    claim_objects l.code l.stack (map object_view l.rest) l.places l.table
    ≡ claim_objects l.code l.stack (map object_view l.fn.objects) l.fn.addresses l.fn.table

abbrev pub decreases-loop-rest : goal.decreases-loop-rest
decreases-loop-rest l = length l.rest
