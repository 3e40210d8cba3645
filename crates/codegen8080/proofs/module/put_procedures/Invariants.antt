use Rattle.codegen8080.proofs.Prelude.{length}
use Rattle.codegen8080.proofs.ModuleParts.{StandingArePut}
use Rattle.codegen8080.proofs.module.put_procedures.Given as goal

abbrev pub invariant-loop-left : goal.invariant-loop-left
invariant-loop-left l = StandingArePut l.tree l.fn.generator l.generator l.number l.fn.procedures l.left

abbrev pub decreases-loop-left : goal.decreases-loop-left
decreases-loop-left l = length l.left
