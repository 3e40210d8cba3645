use Rattle.object_writing.proofs.Prelude.{◌≤◌, drop, length}
use Rattle.object_writing.proofs.RunsLeft.{SegmentLeft}
use Rattle.object_writing.proofs.text.write_segment.Given as goal

abbrev pub invariant-loop-run : goal.invariant-loop-run
invariant-loop-run g l = record {
  segment : SegmentLeft l.object l.segment (drop l.run-index l.runs) (drop l.first l.fixes)
      (g.W.Write.contents l.initial.out) (g.W.Write.contents l.out);
  fixes : l.first ≤ length l.fixes;
}
