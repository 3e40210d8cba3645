use Rattle.printing.proofs.Prelude.{length, take, ◌≤◌, ◌-◌, flat_map, Appends, shown_line}
use Rattle.printing.proofs.lines.write_events.Given as goal

abbrev pub invariant-loop-at : goal.invariant-loop-at
invariant-loop-at g l = record {
  fits : l.at ≤ length l.events;
  written : Appends (g.W.Write.contents l.initial.out) (g.W.Write.contents l.out)
      (flat_map (shown_line l.quiet) (take l.at l.events));
}

abbrev pub decreases-loop-at : goal.decreases-loop-at
decreases-loop-at g l = length l.events - l.at
