use Rattle.codegen8080.proofs.Prelude.{length}
use Rattle.codegen8080.proofs.NameLoops.{IsPlacing}
use Rattle.codegen8080.proofs.names.places_of.Given as goal

abbrev pub invariant-loop-left : goal.invariant-loop-left
invariant-loop-left l = IsPlacing l.count l.fn.numbers l.places.items l.place l.left

abbrev pub decreases-loop-left : goal.decreases-loop-left
decreases-loop-left l = length l.left
