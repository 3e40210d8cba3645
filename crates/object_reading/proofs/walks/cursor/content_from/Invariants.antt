use Rattle.object_reading.proofs.Prelude.{◌≡◌, length, contents_left, AreParts}
use Rattle.object_reading.proofs.walks.cursor.content_from.Given as goal

abbrev pub invariant-loop-found : goal.invariant-loop-found
invariant-loop-found l = record {
  left : contents_left l.rest ≡ contents_left l.initial.rest;
  after : AreParts l.rest;
}

abbrev pub decreases-loop-found : goal.decreases-loop-found
decreases-loop-found l = length l.rest
