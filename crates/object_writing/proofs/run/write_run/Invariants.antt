use Rattle.object_writing.proofs.Prelude.{◌+◌, ◌-◌, ◌≤◌, drop, length, run_text}
use Rattle.object_writing.proofs.RunsLeft.{RunLeft}
use Rattle.object_writing.proofs.run.write_run.Given as goal

abbrev pub invariant-loop-at : goal.invariant-loop-at
invariant-loop-at g l = record {
  run : RunLeft l.segment (l.offset + l.at) (drop l.at l.bytes) (drop l.first l.fixes)
      (g.W.Write.contents l.initial.out) (g.W.Write.contents l.out)
      (run_text l.segment l.offset l.bytes l.fixes);
  bytes : l.at ≤ length l.bytes;
  fixes : l.first ≤ length l.fixes;
}

abbrev pub decreases-loop-at : goal.decreases-loop-at
decreases-loop-at g l = length l.bytes - l.at
