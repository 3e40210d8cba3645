use Rattle.std.proofs.Common.{◌≡◌, ◌++◌, true, length, map}
use Rattle.convert.specs.Switches.{switch_view, switches_of}
use Rattle.convert.proofs.switches.set_switches.Given as goal

abbrev pub invariant-loop-rest : goal.invariant-loop-rest
invariant-loop-rest l =
    map switch_view l.switches.items ++ switches_of true (map (λ name. name.now) l.rest)
    ≡ map switch_view l.initial.switches.items ++ switches_of true (map (λ name. name.now) l.names)

abbrev pub decreases-loop-rest : goal.decreases-loop-rest
decreases-loop-rest l = length l.rest
