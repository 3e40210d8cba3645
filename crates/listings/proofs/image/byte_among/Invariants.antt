use Rattle.listings.proofs.Prelude.{◌≡◌, length, byte_among}
use Rattle.listings.proofs.image.byte_among.Given as goal

-- the pieces that are left have the byte just where all have it
abbrev pub invariant-loop-rest : goal.invariant-loop-rest
invariant-loop-rest l = byte_among l.rest l.address ≡ byte_among l.initial.rest l.address

abbrev pub decreases-loop-rest : goal.decreases-loop-rest
decreases-loop-rest l = length l.rest
