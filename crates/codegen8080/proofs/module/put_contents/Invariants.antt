use Rattle.codegen8080.proofs.Prelude.{length}
use Rattle.codegen8080.proofs.ModuleParts.{IsPutting}
use Rattle.codegen8080.proofs.module.put_contents.Given as goal

abbrev pub invariant-loop-left : goal.invariant-loop-left
invariant-loop-left l = IsPutting l.fn.writer l.writer l.fn.contents l.left

abbrev pub decreases-loop-left : goal.decreases-loop-left
decreases-loop-left l = length l.left
