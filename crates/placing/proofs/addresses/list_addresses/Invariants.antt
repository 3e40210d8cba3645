use Rattle.placing.proofs.Prelude.{◌≡◌, ◌++◌, length, map, address_of_slot, bases_view}
use Rattle.placing.proofs.addresses.list_addresses.Given as goal

abbrev pub invariant-loop-rest : goal.invariant-loop-rest
invariant-loop-rest l =
    l.addresses.items ++ map (address_of_slot (bases_view l.bases)) l.rest
    ≡ map (address_of_slot (bases_view l.bases)) l.slots

abbrev pub decreases-loop-rest : goal.decreases-loop-rest
decreases-loop-rest l = length l.rest
