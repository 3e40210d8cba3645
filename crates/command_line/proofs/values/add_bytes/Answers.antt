use Rattle.command_line.proofs.{Prelude.{◌∙◌}, Inputs.{pair_step}}
use Rattle.command_line.proofs.values.add_bytes.Goals as goal

pub loop-rest-preserved : goal.loop-rest-preserved
loop-rest-preserved c =
    pair_step c.loop-rest.input.items c.push.new.self.items c.args.port c.in-Some.byte c.loop-rest.rest.now
    c.in-len2-up.len_at_least
    c.in-Some.ensures c.in_ok-push.ensures.items ∙ c.loop-rest.invariant
