use Rattle.join.proofs.Prelude.{arith, map, module_view, globals_of, globals_view}
use Rattle.join.proofs.GlobalLoops.{module_pushed}
use Rattle.join.proofs.shared.shared_by.Goals as goal

pub loop-typed-preserved : goal.loop-typed-preserved
loop-typed-preserved c =
    module_pushed (globals_of (map module_view c.args.modules.now)) (globals_view c.loop-typed.globals.items)
    c.args.modules.now c.loop-typed.typed-index c.loop-typed.invariant
    c.typed-item.result (globals_view c.push_shared.new.globals.items) (omega arith) c.typed-item.is
    c.in_ok-push_shared.ensures.ok
