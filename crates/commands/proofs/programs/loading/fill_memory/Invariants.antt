use Rattle.commands.proofs.{Prelude.{◌-◌, MEMORY_SIZE}, StartMemory.{FilledBelow}}
use Rattle.commands.proofs.programs.loading.fill_memory.Given as goal

abbrev pub invariant-loop-next : goal.invariant-loop-next
invariant-loop-next l = FilledBelow l.fill l.next l.memory

abbrev pub decreases-loop-next : goal.decreases-loop-next
decreases-loop-next l = MEMORY_SIZE - l.next
