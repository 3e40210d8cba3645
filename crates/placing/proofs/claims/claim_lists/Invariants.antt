use Rattle.placing.proofs.Prelude.{◌≡◌, length, map, vec_items, claim_lists}
use Rattle.placing.proofs.claims.claim_lists.Given as goal

abbrev pub invariant-loop-rest : goal.invariant-loop-rest
invariant-loop-rest l =
    claim_lists l.code l.stack (map vec_items l.rest) l.places l.table
    ≡ claim_lists l.code l.stack (map vec_items l.fn.lists) l.fn.addresses l.fn.table

abbrev pub decreases-loop-rest : goal.decreases-loop-rest
decreases-loop-rest l = length l.rest
