use Rattle.treecode.proofs.Prelude.{◌≡◌, ◌+◌, ◌-◌, outside, walk_of, numbered}
use Rattle.treecode.proofs.lowering.Lowering.number_labels.Given as goal

abbrev pub invariant-loop-index : goal.invariant-loop-index
invariant-loop-index l =
    (outside l.self ≡ outside l.fn.self)
    × (numbered (walk_of l.self) (l.first + l.index) (l.count - l.index)
    ≡ numbered (walk_of l.fn.self) l.first l.count)
