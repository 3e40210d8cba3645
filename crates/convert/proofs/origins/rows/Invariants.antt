use Rattle.std.proofs.Common.{◌≡◌, ◌++◌, length}
use Rattle.convert.specs.Origins.{rows}
use Rattle.convert.proofs.origins.rows.Given as goal

abbrev pub invariant-loop-rest : goal.invariant-loop-rest
invariant-loop-rest l =
    l.table.items ++ rows l.name l.entries l.places l.rest ≡ rows l.name l.entries l.places l.lines

abbrev pub decreases-loop-rest : goal.decreases-loop-rest
decreases-loop-rest l = length l.rest
