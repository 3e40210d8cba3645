use Rattle.names.proofs.Prelude.{◌≡◌, drop, argument_trees, names_in_arguments, bound_at}
use Rattle.names.proofs.uses.+uses.Given as goal

abbrev pub invariant-bind_arguments-loop-argument : goal.invariant-bind_arguments-loop-argument
invariant-bind_arguments-loop-argument l =
    bound_at l.scopes (names_in_arguments (argument_trees (drop l.argument-index l.arguments)))
    l.bindings.items
    ≡ bound_at l.scopes (names_in_arguments (argument_trees l.arguments)) l.initial.bindings.items
