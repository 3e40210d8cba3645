use Rattle.codegen8080.proofs.Prelude.{length}
use Rattle.codegen8080.proofs.NameLoops.{IsListingNames}
use Rattle.codegen8080.proofs.names.names_with.Given as goal

abbrev pub invariant-loop-left : goal.invariant-loop-left
invariant-loop-left l = IsListingNames l.fn.externals l.fn.numbers l.rest l.left l.names

abbrev pub decreases-loop-left : goal.decreases-loop-left
decreases-loop-left l = length l.left
