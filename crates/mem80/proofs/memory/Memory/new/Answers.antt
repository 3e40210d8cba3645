use Rattle.std.proofs.Common.{refl}
use Rattle.mem80.specs.Memory.{zeros}
use Rattle.mem80.proofs.MemoryLemmas.{zeros_are_memory}
use Rattle.mem80.proofs.memory.Memory.new.Goals as goal

pub invariant_of-result : goal.invariant_of-result
invariant_of-result c = zeros_are_memory 65536 _ c.in_ok-bytes.ensures.ok refl

pub returns : goal.returns
unfolding zeros
returns c = record { zeroed = c.in_ok-bytes.ensures.ok }
