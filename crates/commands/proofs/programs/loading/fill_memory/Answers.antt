use Rattle.commands.proofs.Prelude.{arith}
use Rattle.commands.proofs.programs.loading.fill_memory.Goals as goal

pub returns-clause-size : goal.returns-clause-size
returns-clause-size c = c.loop-next.invariant.size (omega (arith, c.loop-next-test.false))

pub returns-clause-bytes : goal.returns-clause-bytes
returns-clause-bytes c = λ address below. c.loop-next.invariant.bytes address (omega (arith, below, c.loop-next-test.false))
