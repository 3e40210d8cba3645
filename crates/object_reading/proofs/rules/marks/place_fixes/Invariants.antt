use Rattle.object_reading.proofs.Prelude.{◌≡◌, length, content_view, fixes_in, AreFixEntries, marks_after}
use Rattle.object_reading.proofs.rules.marks.place_fixes.Given as goal

abbrev pub invariant-loop-fix : goal.invariant-loop-fix
invariant-loop-fix l = record {
  left :
      marks_after (content_view l.content) (fixes_in l.target l.kind l.entries) l.marks
      ≡ marks_after (content_view l.content) (fixes_in l.target l.kind l.initial.entries) l.initial.marks;
  entries : AreFixEntries l.target l.entries;
  long : length l.marks ≡ length l.initial.marks;
}

abbrev pub decreases-loop-fix : goal.decreases-loop-fix
decreases-loop-fix l = length l.entries
