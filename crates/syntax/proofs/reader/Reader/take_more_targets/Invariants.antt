use Rattle.syntax.proofs.Prelude.{◌≡◌, length, map, reference_tree, expression, reference, all_more_items, after_items}
use Rattle.syntax.proofs.reader.Reader.take_more_targets.Given as goal

abbrev pub invariant-more : goal.invariant-more
invariant-more l =
    all_more_items (reference (expression l.room)) l.initial.self
    ≡ after_items (map reference_tree l.targets.items) (all_more_items (reference (expression l.room)) l.self)

abbrev pub decreases-more : goal.decreases-more
decreases-more l = length l.self
