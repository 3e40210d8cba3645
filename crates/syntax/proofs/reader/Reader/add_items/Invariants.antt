use Rattle.syntax.proofs.Prelude.{◌≡◌, length, map, items, after_items}
use Rattle.syntax.proofs.reader.Reader.add_items.Given as goal

abbrev pub invariant-more : goal.invariant-more
invariant-more g l =
    after_items (map g.T.Listed.tree_of l.initial.found.items) (items g.T.Listed.reading l.initial.self)
    ≡ after_items (map g.T.Listed.tree_of l.found.items) (items g.T.Listed.reading l.self)

abbrev pub decreases-more : goal.decreases-more
decreases-more g l = length l.self
