use Rattle.syntax.proofs.Prelude.{◌≡◌, length, map, offset_tree, all_offsets, after_items}
use Rattle.syntax.proofs.reader.Reader.take_offsets.Given as goal

abbrev pub invariant-more : goal.invariant-more
invariant-more l = all_offsets l.fn.self ≡ after_items (map offset_tree l.found.items) (all_offsets l.self)

abbrev pub decreases-more : goal.decreases-more
decreases-more l = length l.self
