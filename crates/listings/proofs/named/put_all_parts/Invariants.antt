use Rattle.listings.proofs.Prelude.{length, AddsNamesSoFar}
use Rattle.listings.proofs.named.put_all_parts.Given as goal

-- names were added of all modules but those that are left
abbrev pub invariant-loop-rest : goal.invariant-loop-rest
invariant-loop-rest l =
    AddsNamesSoFar l.views l.rest l.fn.names.items l.names.items

abbrev pub decreases-loop-rest : goal.decreases-loop-rest
decreases-loop-rest l = length l.rest
