use Rattle.treecode.proofs.Prelude.{◌≡◌, length, with_parameters}
use Rattle.treecode.proofs.homes.add_parameters.Given as goal

abbrev pub invariant-loop-rest : goal.invariant-loop-rest
invariant-loop-rest l =
    with_parameters l.parameters.entries.items l.index l.rest
    ≡ with_parameters l.fn.parameters.entries.items 0 l.objects

abbrev pub decreases-loop-rest : goal.decreases-loop-rest
decreases-loop-rest l = length l.rest
