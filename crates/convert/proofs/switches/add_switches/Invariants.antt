use Rattle.std.proofs.Common.{◌≡◌, ◌++◌, length, map}
use Rattle.convert.specs.Switches.{switch_view, switches_of}
use Rattle.convert.proofs.switches.add_switches.Given as goal

abbrev pub invariant-loop-rest : goal.invariant-loop-rest
invariant-loop-rest l =
    map switch_view l.switches.items ++ switches_of l.on (map (λ item. item.now) l.rest)
    ≡ map switch_view l.initial.switches.items ++ switches_of l.on (map (λ item. item.now) l.items)

abbrev pub decreases-loop-rest : goal.decreases-loop-rest
decreases-loop-rest l = length l.rest
