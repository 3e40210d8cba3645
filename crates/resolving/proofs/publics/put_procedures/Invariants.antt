use Rattle.resolving.proofs.Prelude.{◌≡◌, drop, map, procedure_view, with_procedures}
use Rattle.resolving.proofs.publics.put_procedures.Given as goal

abbrev pub invariant-loop-number : goal.invariant-loop-number
invariant-loop-number l =
    with_procedures l.table.entries l.number_of_module l.number
    (map procedure_view (drop l.number l.procedures))
    ≡ with_procedures l.fn.table.entries l.number_of_module 0 (map procedure_view l.procedures)
