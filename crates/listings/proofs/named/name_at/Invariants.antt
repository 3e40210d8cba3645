use Rattle.listings.proofs.Prelude.{◌≡◌, length, name_at}
use Rattle.listings.proofs.named.name_at.Given as goal

-- the names that are left have the first name of the address
abbrev pub invariant-loop-rest : goal.invariant-loop-rest
invariant-loop-rest l = name_at l.rest l.address ≡ name_at l.initial.rest l.address

abbrev pub decreases-loop-rest : goal.decreases-loop-rest
decreases-loop-rest l = length l.rest
