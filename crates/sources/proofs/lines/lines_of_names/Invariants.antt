use Rattle.std.proofs.Common.{◌≡◌, length}
use Rattle.sources.proofs.lines.lines_of_names.Given as goal

abbrev pub invariant-loop-procedure : goal.invariant-loop-procedure
invariant-loop-procedure l = length l.lines.items ≡ l.procedure-index
