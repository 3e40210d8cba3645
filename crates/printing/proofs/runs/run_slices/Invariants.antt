use Rattle.printing.proofs.Prelude.{◌-◌, ◌≤◌, flat_map, Appends, shown_line}
use Rattle.printing.proofs.RunLemmas.{Made}
use Rattle.printing.proofs.runs.run_slices.Given as goal

abbrev pub invariant-loop-left : goal.invariant-loop-left
invariant-loop-left g l = record {
  within : l.left ≤ l.fn.limit;
  made : Made l.fn.machine (l.fn.limit - l.left) l.machine;
  written : Appends (g.W.Write.contents l.fn.out) (g.W.Write.contents l.out)
      (flat_map (shown_line l.fn.quiet) l.machine.state.events);
}

abbrev pub decreases-loop-left : goal.decreases-loop-left
decreases-loop-left g l = l.left
