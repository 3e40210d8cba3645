use Rattle.treecode.proofs.Prelude.{◌≡◌, true, drop, statements_view, layout_view, with_item, outside, walk_of, items_after, items_in}
use Rattle.treecode.proofs.lowering.Lowering.+statement.Given as goal

abbrev pub invariant-statements-loop-statement : goal.invariant-statements-loop-statement
invariant-statements-loop-statement l =
    (outside l.self ≡ outside l.fn.self)
    × (with_item (items_after l.numbers.items)
    (items_in (layout_view l.storage) (walk_of l.self) l.reaches_its_end
    (statements_view (drop l.statement-index l.statements)))
    ≡ items_in (layout_view l.storage) (walk_of l.fn.self) true (statements_view l.statements))
