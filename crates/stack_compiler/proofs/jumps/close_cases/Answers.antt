use Rattle.stack_compiler.proofs.Prelude.{arith}
use Rattle.stack_compiler.proofs.Cases.{ends_closed}
use Rattle.stack_compiler.proofs.jumps.close_cases.Goals as goal

pub returns : goal.returns
returns c =
    ends_closed c.loop-end.code.items _ c.args.ends.now c.loop-end.end-index
    c.loop-end.invariant (omega arith)
