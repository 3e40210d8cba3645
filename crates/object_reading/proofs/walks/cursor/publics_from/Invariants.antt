use Rattle.object_reading.proofs.Prelude.{◌≡◌, length, definition_bytes, publics_left, AreParts, AreEntries}
use Rattle.object_reading.proofs.walks.cursor.publics_from.Given as goal

abbrev pub invariant-loop-entries : goal.invariant-loop-entries
invariant-loop-entries l = record {
  left :
      publics_left l.segment l.entries l.rest
      ≡ publics_left l.initial.segment l.initial.entries l.initial.rest;
  definitions : AreEntries definition_bytes l.entries;
  after : AreParts l.rest;
}

abbrev pub decreases-loop-entries : goal.decreases-loop-entries
decreases-loop-entries l = length l.rest
