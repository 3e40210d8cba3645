use Rattle.treecode.proofs.Prelude.{map, procedure_view, layout_view, outside, walk_of, AreComplete}
use Rattle.treecode.proofs.lowering.Lowering.add_bodies.Given as goal

abbrev pub invariant-loop-number : goal.invariant-loop-number
invariant-loop-number l =
    AreComplete (layout_view l.storage) (walk_of l.fn.self) (walk_of l.self)
    (outside l.fn.self) (outside l.self)
    (map procedure_view l.procedures) l.number
