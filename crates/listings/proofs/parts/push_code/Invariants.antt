use Rattle.listings.proofs.Prelude.{◌+◌, ◌-◌, cells_in, IsAdding, IsPartOf}
use Rattle.listings.proofs.parts.push_code.Given as goal

-- what was added shows the places up to an offset
abbrev pub invariant-loop-offset : goal.invariant-loop-offset
invariant-loop-offset l =
    IsAdding (IsPartOf l.pieces l.segment) (cells_in l.pieces l.segment.start l.segment.length)
    (cells_in l.pieces (l.segment.start + l.offset) (l.segment.length - l.offset))
    l.initial.parts.items l.parts.items

abbrev pub decreases-loop-offset : goal.decreases-loop-offset
decreases-loop-offset l = l.segment.length - l.offset
