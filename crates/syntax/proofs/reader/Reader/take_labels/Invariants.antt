use Rattle.syntax.proofs.Prelude.{◌≡◌, ◌++◌, length, labels_before, after_labels}
use Rattle.syntax.proofs.reader.Reader.take_labels.Given as goal

abbrev pub invariant-more : goal.invariant-more
invariant-more l =
    (labels_before l.initial.self ≡ l.labels.items ++ labels_before l.self)
    × (after_labels l.initial.self ≡ after_labels l.self)

abbrev pub decreases-more : goal.decreases-more
decreases-more l = length l.self
