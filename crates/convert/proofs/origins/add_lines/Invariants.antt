use Rattle.std.proofs.Common.{◌≡◌, ◌++◌, length}
use Rattle.convert.specs.Origins.{lines_in}
use Rattle.convert.proofs.origins.add_lines.Given as goal

abbrev pub invariant-loop-rest : goal.invariant-loop-rest
invariant-loop-rest l =
    l.lines.items ++ lines_in l.line l.last l.rest ≡ l.initial.lines.items ++ lines_in l.first l.last l.piece

abbrev pub decreases-loop-rest : goal.decreases-loop-rest
decreases-loop-rest l = length l.rest
