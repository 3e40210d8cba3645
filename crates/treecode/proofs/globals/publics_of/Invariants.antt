use Rattle.treecode.proofs.Prelude.{◌≡◌, ◌++◌, filter_map, length, module_view, public_item, nodes_of}
use Rattle.treecode.proofs.globals.publics_of.Given as goal

abbrev pub invariant-loop-rest : goal.invariant-loop-rest
invariant-loop-rest l =
    l.publics.items ++ filter_map (public_item (module_view l.typed) (nodes_of l.tree).homes) l.rest
    ≡ filter_map (public_item (module_view l.typed) (nodes_of l.tree).homes) l.typed.globals.items

abbrev pub decreases-loop-rest : goal.decreases-loop-rest
decreases-loop-rest l = length l.rest
