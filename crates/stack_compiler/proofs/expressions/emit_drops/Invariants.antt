use Rattle.stack_compiler.proofs.Prelude.{◌≡◌, ◌++◌, replicate, Drop}
use Rattle.stack_compiler.proofs.expressions.emit_drops.Given as goal

abbrev pub invariant-loop-left : goal.invariant-loop-left
invariant-loop-left l = l.code.items ++ replicate l.left Drop ≡ l.fn.code.items ++ replicate l.count Drop

abbrev pub decreases-loop-left : goal.decreases-loop-left
decreases-loop-left l = l.left
