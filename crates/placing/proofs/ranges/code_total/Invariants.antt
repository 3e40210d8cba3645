use Rattle.placing.proofs.Prelude.{◌≡◌, ◌+◌, ◌≤◌, min, drop, sum}
use Rattle.placing.proofs.ranges.code_total.Given as goal

abbrev pub invariant-loop-length : goal.invariant-loop-length
invariant-loop-length l =
    (l.total ≤ 4294967295)
    × (min (l.total + sum (drop l.length-index l.code_lengths)) 4294967295
    ≡ min (sum l.code_lengths) 4294967295)
