use Rattle.names.proofs.Prelude.{◌≡◌, drop, map, flat_map, restricted_tree, names_in_restricted, bound_at}
use Rattle.names.proofs.uses.bind_values.Given as goal

abbrev pub invariant-loop-value : goal.invariant-loop-value
invariant-loop-value l =
    bound_at l.scopes (flat_map names_in_restricted (map restricted_tree (drop l.value-index l.values)))
    l.bindings.items
    ≡ bound_at l.scopes (flat_map names_in_restricted (map restricted_tree l.values)) l.initial.bindings.items
