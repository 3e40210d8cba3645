use Rattle.object_reading.proofs.Prelude.{length, state_view}
use Rattle.object_reading.proofs.WholeFile.{HasPassed}
use Rattle.object_reading.proofs.judgement.judging.judge.Given as goal

abbrev pub invariant-loop-records : goal.invariant-loop-records
invariant-loop-records l = HasPassed l.bytes l.records (state_view l.state)

abbrev pub decreases-loop-records : goal.decreases-loop-records
decreases-loop-records l = length l.records
