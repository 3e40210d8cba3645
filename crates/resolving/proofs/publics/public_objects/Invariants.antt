use Rattle.resolving.proofs.Prelude.{◌≡◌, [], drop, map, module_view, with_all_objects}
use Rattle.resolving.proofs.publics.public_objects.Given as goal

abbrev pub invariant-loop-number_of_module : goal.invariant-loop-number_of_module
invariant-loop-number_of_module l =
    with_all_objects l.table.entries l.number_of_module (map module_view (drop l.number_of_module l.modules))
    ≡ with_all_objects [] 0 (map module_view l.modules)
