use Rattle.frames.proofs.Prelude.{variable_bytes, capped}
use Rattle.frames.proofs.Distances.{bytes_passed}
use Rattle.frames.proofs.frame_plan.variable_bytes.Goals as goal

pub returns : goal.returns
returns c =
    bytes_passed c.args.frame.now c.loop-variable.variable-index c.loop-variable.bytes
    (capped (variable_bytes c.args.frame.now)) c.loop-variable-test.false c.loop-variable.invariant.small
    c.loop-variable.invariant.summed
