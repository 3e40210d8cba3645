use Rattle.types.proofs.Prelude.{◌≡◌, ◌++◌, drop, declaration_trees, parameter_types}
use Rattle.types.proofs.procedures.parameter_types.Given as goal

abbrev pub invariant-loop-parameter : goal.invariant-loop-parameter
invariant-loop-parameter l =
    l.types.items ++ parameter_types (declaration_trees l.declared) (drop l.parameter-index l.parameters)
    ≡ parameter_types (declaration_trees l.declared) l.parameters
