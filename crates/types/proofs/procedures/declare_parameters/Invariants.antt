use Rattle.types.proofs.Prelude.{◌≡◌, drop, declare_parameters}
use Rattle.types.proofs.procedures.declare_parameters.Given as goal

abbrev pub invariant-loop-name : goal.invariant-loop-name
invariant-loop-name l =
    declare_parameters (drop l.name-index l.names) l.scopes ≡ declare_parameters l.names l.fn.scopes
