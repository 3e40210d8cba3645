use Rattle.resolving.proofs.Prelude.{◌≡◌, [], drop, map, module_view, with_all_procedures}
use Rattle.resolving.proofs.publics.public_procedures.Given as goal

abbrev pub invariant-loop-number_of_module : goal.invariant-loop-number_of_module
invariant-loop-number_of_module l =
    with_all_procedures l.table.entries l.number_of_module
    (map module_view (drop l.number_of_module l.modules))
    ≡ with_all_procedures [] 0 (map module_view l.modules)
