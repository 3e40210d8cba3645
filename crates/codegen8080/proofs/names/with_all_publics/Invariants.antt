use Rattle.codegen8080.proofs.Prelude.{length}
use Rattle.codegen8080.proofs.NameLoops.{IsAddingPublics}
use Rattle.codegen8080.proofs.names.with_all_publics.Given as goal

abbrev pub invariant-loop-left : goal.invariant-loop-left
invariant-loop-left l =
    IsAddingPublics l.code.labels.items l.code.bytes l.fn.publics l.fn.names l.names l.left

abbrev pub decreases-loop-left : goal.decreases-loop-left
decreases-loop-left l = length l.left
