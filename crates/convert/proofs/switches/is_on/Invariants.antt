use Rattle.std.proofs.Common.{◌≡◌, false, length, map}
use Rattle.convert.specs.Switches.{on_after, switch_view}
use Rattle.convert.proofs.switches.is_on.Given as goal

abbrev pub invariant-loop-rest : goal.invariant-loop-rest
invariant-loop-rest l =
    on_after l.on l.name (map switch_view l.rest) ≡ on_after false l.name (map switch_view l.switches)

abbrev pub decreases-loop-rest : goal.decreases-loop-rest
decreases-loop-rest l = length l.rest
