use Rattle.std.proofs.Common.{◌≡◌, ◌≤◌, length, reverse}
use Rattle.convert.specs.Labels.{has_label}
use Rattle.convert.proofs.labels.has_label.Given as goal

abbrev pub invariant-loop-rest : goal.invariant-loop-rest
invariant-loop-rest l = record {
  found : has_label l.name (reverse l.rest) ≡ has_label l.name (reverse l.words);
  within : length l.rest ≤ length l.words;
}

abbrev pub decreases-loop-rest : goal.decreases-loop-rest
decreases-loop-rest l = length l.rest
