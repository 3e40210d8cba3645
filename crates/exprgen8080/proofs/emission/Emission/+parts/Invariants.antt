use Rattle.exprgen8080.proofs.Prelude.{part_measure, step_measure}
use Rattle.exprgen8080.proofs.Emitting.{IsWriting}
use Rattle.exprgen8080.proofs.emission.Emission.+parts.Given as goal

abbrev pub decreases-add : goal.decreases-add
decreases-add l = step_measure l.site.now.tree.now l.step

abbrev pub decreases-emit : goal.decreases-emit
decreases-emit l = part_measure l.site.now.tree.now l.part

abbrev pub invariant-emit-loop-index : goal.invariant-emit-loop-index
invariant-emit-loop-index l = IsWriting l.site l.fn.part l.fn.self l.self l.index l.end
