use Rattle.stack_need.proofs.Prelude.{◌≡◌, ◌++◌, drop, map, module_view, program_view, bodies_from, capped, body_view}
use Rattle.stack_need.proofs.call_graph.add_all_bodies.Given as goal

abbrev pub invariant-loop-number_of_module : goal.invariant-loop-number_of_module
invariant-loop-number_of_module l =
    map body_view l.graph.items ++ map capped
    (bodies_from (program_view l.program).modules l.number_of_module
    (map module_view (drop l.number_of_module l.program.modules.now)))
    ≡ map body_view l.fn.graph.items ++ map capped
    (bodies_from (program_view l.program).modules 0 (program_view l.program).modules)
