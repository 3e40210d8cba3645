use Rattle.treecode.proofs.Prelude.{◌≡◌, [], length, map, procedure_view, with_all_parameters}
use Rattle.treecode.proofs.homes.parameters_of.Given as goal

abbrev pub invariant-loop-rest : goal.invariant-loop-rest
invariant-loop-rest l =
    with_all_parameters l.parameters.entries.items (map procedure_view l.rest)
    ≡ with_all_parameters [] (map procedure_view l.procedures)

abbrev pub decreases-loop-rest : goal.decreases-loop-rest
decreases-loop-rest l = length l.rest
