use Rattle.join.proofs.Prelude.{◌≡◌, ◌++◌, length, filter_map, module_view, global_of, globals_view}
use Rattle.join.proofs.shared.push_shared.Given as goal

abbrev pub invariant-loop-rest : goal.invariant-loop-rest
invariant-loop-rest l =
    globals_view l.globals.items ++ filter_map (global_of (module_view l.typed)) l.rest
    ≡ globals_view l.fn.globals.items ++ filter_map (global_of (module_view l.typed)) l.typed.globals.items

abbrev pub decreases-loop-rest : goal.decreases-loop-rest
decreases-loop-rest l = length l.rest
