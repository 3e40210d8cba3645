use Rattle.stack_compiler.proofs.Prelude.{◌≡◌, drop, map, module_view}
use Rattle.stack_compiler.proofs.MainModules.{main_from}
use Rattle.stack_compiler.proofs.compiler.number_of_main.Given as goal

abbrev pub invariant-loop-number : goal.invariant-loop-number
invariant-loop-number l =
    main_from l.number (map module_view (drop l.number l.modules)) ≡ main_from 0 (map module_view l.modules)
