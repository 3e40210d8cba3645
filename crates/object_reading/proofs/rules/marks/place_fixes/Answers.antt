use Rattle.object_reading.proofs.Prelude.{◌∙◌, sym, content_view}
use Rattle.object_reading.proofs.FixEntries.{entries_then}
use Rattle.object_reading.proofs.FixMarks.{marks_more}
use Rattle.object_reading.proofs.rules.marks.place_fixes.Goals as goal

pub loop-fix-preserved : goal.loop-fix-preserved
loop-fix-preserved c = record {
  left =
      sym (marks_more (content_view c.args.content.now) c.args.target c.args.kind
      c.loop-fix.entries.now c.in-Some.after.now
      c.in-Some.fix c.loop-fix.marks c.place_fix.new.marks c.loop-fix.invariant.entries
      (sym c.in-Some.ensures)
      (sym c.place_fix.ensures.fits ∙ c.if-not-place_fix.false)
      (c.place_fix.ensures.marks c.if-not-place_fix.false))
      ∙ c.loop-fix.invariant.left;
  entries =
      entries_then c.args.target c.args.kind c.loop-fix.entries.now c.in-Some.fix c.in-Some.after.now
      c.loop-fix.invariant.entries (sym c.in-Some.ensures);
  long = c.place_fix.ensures.long ∙ c.loop-fix.invariant.long;
}
