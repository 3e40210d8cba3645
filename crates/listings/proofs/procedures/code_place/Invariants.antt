use Rattle.listings.proofs.Prelude.{◌≡◌, length, map, owned_public_view, code_place}
use Rattle.listings.proofs.procedures.code_place.Given as goal

-- the names that are left have the place
abbrev pub invariant-loop-rest : goal.invariant-loop-rest
invariant-loop-rest l =
    code_place (map owned_public_view l.rest) l.name
    ≡ code_place (map owned_public_view l.initial.rest) l.name

abbrev pub decreases-loop-rest : goal.decreases-loop-rest
decreases-loop-rest l = length l.rest
