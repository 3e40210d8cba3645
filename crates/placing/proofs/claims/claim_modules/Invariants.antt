use Rattle.placing.proofs.Prelude.{◌≡◌, length, map, module_view, module_placement_view, claim_modules}
use Rattle.placing.proofs.claims.claim_modules.Given as goal

abbrev pub invariant-loop-rest : goal.invariant-loop-rest
invariant-loop-rest l =
    claim_modules l.code l.stack (map module_view l.rest) (map module_placement_view l.places) l.table
    ≡ claim_modules l.code l.stack (map module_view l.fn.modules)
    (map module_placement_view l.fn.placements) l.fn.table

abbrev pub decreases-loop-rest : goal.decreases-loop-rest
decreases-loop-rest l = length l.rest
