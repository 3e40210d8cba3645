use Rattle.treecode.proofs.Prelude.{◌≡◌, [], length, map, object_view, variables_from, nodes_of}
use Rattle.treecode.proofs.contents.variables_of.Given as goal

abbrev pub invariant-loop-rest : goal.invariant-loop-rest
invariant-loop-rest l =
    variables_from (nodes_of l.tree).homes l.contents.items (map object_view l.rest)
    ≡ variables_from (nodes_of l.tree).homes [] (map object_view l.typed.objects.items)

abbrev pub decreases-loop-rest : goal.decreases-loop-rest
decreases-loop-rest l = length l.rest
