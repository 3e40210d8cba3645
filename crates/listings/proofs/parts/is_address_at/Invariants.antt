use Rattle.listings.proofs.Prelude.{◌≡◌, length, is_address_at}
use Rattle.listings.proofs.parts.is_address_at.Given as goal

-- the fixes that are left say the same
abbrev pub invariant-loop-rest : goal.invariant-loop-rest
invariant-loop-rest l =
    is_address_at l.rest l.place ≡ is_address_at l.initial.rest l.place

abbrev pub decreases-loop-rest : goal.decreases-loop-rest
decreases-loop-rest l = length l.rest
