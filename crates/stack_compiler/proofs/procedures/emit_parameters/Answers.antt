use Rattle.stack_compiler.proofs.Prelude.{arith, site_view}
use Rattle.stack_compiler.proofs.ProcedureLoops.{parameters_short}
use Rattle.stack_compiler.proofs.procedures.emit_parameters.Goals as goal

pub returns-in_default : goal.returns-in_default
returns-in_default c =
    parameters_short (site_view c.args.site.now) c.loop-index.code.items _ c.args.scalars.now
    c.loop-index.places.now c.loop-index.index
    c.loop-index.invariant (omega (arith, c.in_default.len_below))
