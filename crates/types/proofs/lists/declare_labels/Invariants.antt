use Rattle.types.proofs.Prelude.{◌≡◌, drop, declare_labels}
use Rattle.types.proofs.lists.declare_labels.Given as goal

abbrev pub invariant-loop-label : goal.invariant-loop-label
invariant-loop-label l =
    declare_labels (drop l.label-index l.labels) l.scopes ≡ declare_labels l.labels l.fn.scopes
