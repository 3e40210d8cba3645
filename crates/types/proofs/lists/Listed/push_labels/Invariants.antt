use Rattle.types.proofs.Prelude.{◌≡◌, drop, listed_view, with_labels}
use Rattle.types.proofs.lists.Listed.push_labels.Given as goal

abbrev pub invariant-loop : goal.invariant-loop
invariant-loop l =
    with_labels (drop l.index l.labels) (listed_view l.self) ≡ with_labels l.labels (listed_view l.fn.self)
