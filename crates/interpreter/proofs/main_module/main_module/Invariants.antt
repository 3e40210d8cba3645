use Rattle.interpreter.proofs.Prelude.{◌≡◌, drop, map, module_view, found_from}
use Rattle.interpreter.proofs.main_module.main_module.Given as goal

abbrev pub invariant-loop-number : goal.invariant-loop-number
invariant-loop-number l =
    found_from l.number (map module_view (drop l.number l.modules)) ≡ found_from 0 (map module_view l.modules)
