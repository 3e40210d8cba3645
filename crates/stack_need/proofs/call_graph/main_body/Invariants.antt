use Rattle.stack_need.proofs.Prelude.{◌≡◌, drop, map, module_view, program_view, main_body, main_from}
use Rattle.stack_need.proofs.call_graph.main_body.Given as goal

abbrev pub invariant-loop-number_of_module : goal.invariant-loop-number_of_module
invariant-loop-number_of_module l =
    main_from (program_view l.program).modules l.number_of_module
    (map module_view (drop l.number_of_module l.program.modules.now))
    ≡ main_body (program_view l.program).modules
