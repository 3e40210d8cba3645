use Rattle.std.proofs.Common.{◌≡◌, ◌+◌, drop, length}
use Rattle.std.specs.Prelude.{sum_by}
use Rattle.sources.specs.internal.Counted.{lines_of_body}
use Rattle.sources.proofs.lines.lines_of_bodies.Given as goal

abbrev pub invariant-loop-procedure : goal.invariant-loop-procedure
invariant-loop-procedure l =
    length l.lines.items + sum_by lines_of_body (drop l.procedure-index l.procedures)
    ≡ sum_by lines_of_body l.procedures
