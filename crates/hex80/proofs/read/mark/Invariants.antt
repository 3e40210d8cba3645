use Rattle.hex80.proofs.Prelude.{◌≡◌, ◌-◌, marked_from}
use Rattle.hex80.proofs.read.mark.Given as goal

abbrev pub invariant-loop-address : goal.invariant-loop-address
invariant-loop-address l = l.used ≡ marked_from l.start (l.address - l.start) l.initial.used
