use Rattle.std.proofs.Common.{◌≡◌, length}
use Rattle.convert.specs.Assembly.{parts_of, told_open}
use Rattle.convert.proofs.assembly.tell_open.Given as goal

abbrev pub invariant-loop-rest : goal.invariant-loop-rest
invariant-loop-rest l =
    told_open l.advice l.file l.rest (parts_of l.assembly)
    ≡ told_open l.advice l.file l.blocks (parts_of l.initial.assembly)

abbrev pub decreases-loop-rest : goal.decreases-loop-rest
decreases-loop-rest l = length l.rest
