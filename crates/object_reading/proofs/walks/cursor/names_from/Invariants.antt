use Rattle.object_reading.proofs.Prelude.{◌≡◌, length, listed_name_bytes, externals_left, AreParts, AreEntries}
use Rattle.object_reading.proofs.walks.cursor.names_from.Given as goal

abbrev pub invariant-loop-entries : goal.invariant-loop-entries
invariant-loop-entries l = record {
  left : externals_left l.entries l.rest ≡ externals_left l.initial.entries l.initial.rest;
  names : AreEntries listed_name_bytes l.entries;
  after : AreParts l.rest;
}

abbrev pub decreases-loop-entries : goal.decreases-loop-entries
decreases-loop-entries l = length l.rest
