use Rattle.std.proofs.Common.{arith}
use Rattle.mem80.proofs.MemoryLemmas.{loaded_is_memory}
use Rattle.mem80.proofs.memory.Memory.load.Goals as goal

pub invariant_of-self : goal.invariant_of-self
invariant_of-self c =
    rw (c.put_bytes.ensures, c.deref_mut.ensures.value)
    (loaded_is_memory _ c.args.bytes.now c.args.start c.self.invariant
    (λ i. omega (arith, c.type_inv.bytes i))
    c.requires)
