use Rattle.names.proofs.Prelude.{◌≡◌, drop, map, flat_map, reference_tree, names_in_reference, bound_at}
use Rattle.names.proofs.uses.bind_targets.Given as goal

abbrev pub invariant-loop-target : goal.invariant-loop-target
invariant-loop-target l =
    bound_at l.scopes (flat_map names_in_reference (map reference_tree (drop l.target-index l.targets)))
    l.bindings.items
    ≡ bound_at l.scopes (flat_map names_in_reference (map reference_tree l.targets)) l.initial.bindings.items
