use Rattle.stack_compiler.proofs.Prelude.{arith, site_view}
use Rattle.stack_compiler.proofs.StatementLoops.{target_emitted, targets_emitted}
use Rattle.stack_compiler.proofs.statements.emit_targets.Goals as goal

pub loop-target-preserved : goal.loop-target-preserved
loop-target-preserved c =
    target_emitted (site_view c.args.site.now) c.loop-target.code.items _ c.args.targets.now
    c.loop-target.target-index c.loop-target.invariant
    c.target-item.result c.emit_target.new.code.items (omega arith) c.target-item.is
    c.in_ok-emit_target.ensures

pub returns : goal.returns
returns c =
    targets_emitted (site_view c.args.site.now) c.loop-target.code.items _ c.args.targets.now
    c.loop-target.target-index c.loop-target.invariant (omega arith)
