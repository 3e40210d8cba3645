use Rattle.treecode.proofs.Prelude.{◌≡◌, ◌-◌, ◌++◌, length, map, sum_by, content_of, size_of_value, nodes_of}
use Rattle.treecode.proofs.contents.add_values.Given as goal

abbrev pub invariant-loop-rest : goal.invariant-loop-rest
invariant-loop-rest l =
    (l.contents.items ++ map (content_of (nodes_of l.tree).homes) l.rest
    ≡ l.fn.contents.items ++ map (content_of (nodes_of l.tree).homes) l.values)
    × (l.left - sum_by size_of_value l.rest ≡ l.size - sum_by size_of_value l.values)

abbrev pub decreases-loop-rest : goal.decreases-loop-rest
decreases-loop-rest l = length l.rest
