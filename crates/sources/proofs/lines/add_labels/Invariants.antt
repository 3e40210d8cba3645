use Rattle.std.proofs.Common.{◌≡◌, ◌+◌, length}
use Rattle.sources.proofs.lines.add_labels.Given as goal

abbrev pub invariant-loop-label : goal.invariant-loop-label
invariant-loop-label l = length l.lines.items ≡ length l.fn.lines.items + l.label-index
