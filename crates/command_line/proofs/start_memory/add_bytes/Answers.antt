use Rattle.command_line.proofs.{Prelude.{◌∙◌, ◌+◌, refl, arith}, MemoryBytes.{pair_step}}
use Rattle.command_line.proofs.start_memory.add_bytes.Goals as goal

pub loop-rest-preserved : goal.loop-rest-preserved
loop-rest-preserved c =
    pair_step c.loop-rest.memory.items c.push.new.self.items c.loop-rest.next (c.loop-rest.next + 1)
    c.in-Some.byte c.loop-rest.rest.now c.in-len2-up.len_at_least
    (omega (arith, c.if-next-ge-MEMORY_SIZE.false)) refl c.in-Some.ensures c.in_ok-push.ensures.items
    ∙ c.loop-rest.invariant
