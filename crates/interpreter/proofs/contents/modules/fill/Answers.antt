use Rattle.interpreter.proofs.Prelude.{arith, program_view}
use Rattle.interpreter.proofs.ModuleLoops.{modules_put}
use Rattle.interpreter.proofs.contents.modules.fill.Goals as goal

pub returns : goal.returns
returns c =
    modules_put (program_view c.args.program.now) c.modules-placements.result.now c.args.memory.now
    c.loop-number_of_module.memory
    c.loop-number_of_module.number_of_module c.modules-placements.ensures
    c.loop-number_of_module.invariant (omega arith)
