use Rattle.listings.proofs.Prelude.{◌+◌, ◌-◌, cells_in, IsAdding, IsLone}
use Rattle.listings.proofs.parts.push_bytes.Given as goal

-- what was added shows the places up to an index
abbrev pub invariant-loop-index : goal.invariant-loop-index
invariant-loop-index l =
    IsAdding IsLone (cells_in l.pieces l.start l.count)
    (cells_in l.pieces (l.start + l.index) (l.count - l.index))
    l.fn.parts.items l.parts.items
