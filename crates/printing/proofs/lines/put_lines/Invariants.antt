use Rattle.printing.proofs.Prelude.{◌≡◌, ◌≤◌, ◌*◌, take, flat_map, shown_line}
use Rattle.printing.proofs.lines.put_lines.Given as goal

abbrev pub invariant-loop-event : goal.invariant-loop-event
invariant-loop-event l = record {
  fits : l.end ≤ l.event-index * 10;
  lines : take l.end l.text ≡ flat_map (shown_line l.quiet) (take l.event-index l.events);
}
