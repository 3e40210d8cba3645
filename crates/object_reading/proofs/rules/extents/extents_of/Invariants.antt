use Rattle.object_reading.proofs.Prelude.{◌≡◌, length, extents_in}
use Rattle.object_reading.proofs.rules.extents.extents_of.Given as goal

abbrev pub invariant-loop-rest : goal.invariant-loop-rest
invariant-loop-rest l =
    extents_in l.number l.extents l.served l.rest
    ≡ extents_in l.initial.number l.initial.extents l.initial.served l.initial.rest

abbrev pub decreases-loop-rest : goal.decreases-loop-rest
decreases-loop-rest l = length l.rest
