use Rattle.commands.proofs.{Prelude.{length}, StartMemory.{PutIn}}
use Rattle.commands.proofs.programs.loading.put_bytes.Given as goal

abbrev pub invariant-loop-rest : goal.invariant-loop-rest
invariant-loop-rest l = PutIn l.initial.rest l.rest l.initial.memory l.memory

abbrev pub decreases-loop-rest : goal.decreases-loop-rest
decreases-loop-rest l = length l.rest
