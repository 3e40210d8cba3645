use Rattle.hex80.proofs.Prelude.{◌≡◌, ◌≤◌, ◌-◌, drop, length, lines, judged_after, judgement_of, Marks}
use Rattle.hex80.proofs.read.judge.Given as goal

abbrev pub invariant-loop-at : goal.invariant-loop-at
invariant-loop-at l = record {
  within : l.at ≤ length l.text;
  marks : Marks l.used l.pieces.items;
  judged : judged_after l.pieces.items (lines (drop l.at l.text)) ≡ judgement_of l.text;
}

abbrev pub decreases-loop-at : goal.decreases-loop-at
decreases-loop-at l = length l.text - l.at
