use Rattle.treecode.proofs.Prelude.{◌≡◌, ◌+◌, ◌-◌, max, nodes_of, height_of_arguments}
use Rattle.treecode.proofs.heights.height_of_call.Given as goal

abbrev pub invariant-loop-index : goal.invariant-loop-index
invariant-loop-index l =
    max l.highest
    (height_of_arguments (nodes_of l.tree) (l.arguments.first + l.index) (l.arguments.count - l.index))
    ≡ height_of_arguments (nodes_of l.tree) l.arguments.first l.arguments.count
