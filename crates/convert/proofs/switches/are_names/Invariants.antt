use Rattle.std.proofs.Common.{◌≡◌, false, length, map}
use Rattle.convert.specs.Switches.{all_names}
use Rattle.convert.proofs.switches.are_names.Given as goal

abbrev pub invariant-loop-rest : goal.invariant-loop-rest
invariant-loop-rest l =
    all_names l.some (map (λ item. item.now) l.rest) ≡ all_names false (map (λ item. item.now) l.items)

abbrev pub decreases-loop-rest : goal.decreases-loop-rest
decreases-loop-rest l = length l.rest
