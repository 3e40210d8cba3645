use Rattle.std.proofs.Common.{◌≡◌, length}
use Rattle.convert.specs.Assembly.{parts_of, switched}
use Rattle.convert.proofs.assembly.switch_line.Given as goal

abbrev pub invariant-loop-rest : goal.invariant-loop-rest
invariant-loop-rest l =
    switched l.advice l.place l.passed l.rest (parts_of l.assembly)
    ≡ switched l.advice l.place 0 l.line (parts_of l.initial.assembly)

abbrev pub decreases-loop-rest : goal.decreases-loop-rest
decreases-loop-rest l = length l.rest
