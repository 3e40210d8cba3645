use Rattle.types.proofs.Prelude.{◌≡◌, ◌++◌, drop, parameter_objects, in_front}
use Rattle.types.proofs.procedures.parameter_objects.Given as goal

abbrev pub invariant-loop-parameter : goal.invariant-loop-parameter
invariant-loop-parameter l =
    in_front (λ rest. l.made.items ++ rest) (parameter_objects l.scopes (drop l.parameter-index l.parameters))
    ≡ parameter_objects l.scopes l.parameters
