use Rattle.listings.specs.internal.Origins.{KeepsOrigins}
use Rattle.listings.proofs.Prelude.{length}
use Rattle.listings.proofs.origins.note_module.Given as goal

abbrev pub invariant-loop-rest : goal.invariant-loop-rest
invariant-loop-rest l = KeepsOrigins l.number l.fn.origins.items l.origins.items

abbrev pub decreases-loop-rest : goal.decreases-loop-rest
decreases-loop-rest l = length l.rest
