use Rattle.object_reading.proofs.Prelude.{◌≡◌, length, AreParts, AreFixEntries}
use Rattle.object_reading.specs.internal.Cursors.{fixes_left}
use Rattle.object_reading.proofs.walks.cursor_fixes.fixes_from.Given as goal

abbrev pub invariant-loop-cursor : goal.invariant-loop-cursor
invariant-loop-cursor l = record {
  left : fixes_left l.cursor ≡ fixes_left l.initial.cursor;
  entries : AreFixEntries l.cursor.target l.cursor.entries.now;
  after : AreParts l.cursor.rest.now;
}

abbrev pub decreases-loop-cursor : goal.decreases-loop-cursor
decreases-loop-cursor l = length l.cursor.rest.now
