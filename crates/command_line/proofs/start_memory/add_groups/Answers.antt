use Rattle.command_line.proofs.{Prelude.{◌∙◌, memory_group}, Inputs.{group_step}}
use Rattle.command_line.proofs.start_memory.add_groups.Goals as goal

pub loop-rest-preserved : goal.loop-rest-preserved
loop-rest-preserved c =
    group_step memory_group c.loop-rest.memory.items c.add_group.new.memory.items _ c.as_bytes.result.now
    c.loop-rest.rest.now c.in_ok-add_group.field-0
    c.in-len1-up.len_at_least c.as_bytes.ensures.value c.in_ok-add_group.ensures c.if-not-branch.false
    ∙ c.loop-rest.invariant
