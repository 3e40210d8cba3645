use Rattle.names.proofs.Prelude.{◌≡◌, ◌+◌, length, drop, numbered_from}
use Rattle.names.proofs.scopes.number_labels.Given as goal

abbrev pub invariant-loop-label : goal.invariant-loop-label
invariant-loop-label l = record {
  entries : numbered_from l.number (drop l.label-index l.labels) l.names
      ≡ numbered_from l.fn.first l.labels l.initial.names;
  count : l.number + length (drop l.label-index l.labels) ≡ l.fn.first + length l.labels;
}
