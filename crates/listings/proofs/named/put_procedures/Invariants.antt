use Rattle.listings.proofs.Prelude.{◌≡◌, ◌++◌, filter_map, length, map, procedure_view, procedure_symbol, public_symbols, object_of, typed_of, named_view}
use Rattle.listings.proofs.named.put_procedures.Given as goal

-- the names so far, and those of the procedures that are left, are all
abbrev pub invariant-loop-rest : goal.invariant-loop-rest
invariant-loop-rest l =
    map named_view l.names.items
    ++ filter_map (procedure_symbol l.view.code_base (object_of l.view).publics) (map procedure_view l.rest)
    ≡ map named_view l.fn.names.items ++ public_symbols l.view.code_base (typed_of l.view) (object_of l.view)

abbrev pub decreases-loop-rest : goal.decreases-loop-rest
decreases-loop-rest l = length l.rest
