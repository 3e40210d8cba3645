use Rattle.placing.proofs.Prelude.{◌≡◌, [], length, map, zip, object_view, addresses_after, bases_view}
use Rattle.placing.proofs.addresses.object_addresses.Given as goal

abbrev pub invariant-loop-rest : goal.invariant-loop-rest
invariant-loop-rest l =
    addresses_after (bases_view l.bases) l.addresses.items (zip (map object_view l.rest) l.places)
    ≡ addresses_after (bases_view l.bases) [] (zip (map object_view l.objects) l.slots)

abbrev pub decreases-loop-rest : goal.decreases-loop-rest
decreases-loop-rest l = length l.rest
