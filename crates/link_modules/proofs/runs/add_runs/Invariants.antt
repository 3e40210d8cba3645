use Rattle.link_modules.proofs.Prelude.{◌≡◌, length, length_of, HaveTheirFixes, grown_from, grown_over}
use Rattle.link_modules.proofs.runs.add_runs.Given as goal

abbrev pub invariant-loop-rest : goal.invariant-loop-rest
invariant-loop-rest l = record {
  theirs : HaveTheirFixes (length_of l.fn.object l.segment) l.left l.rest;
  added :
      grown_over l.resolved l.segment l.grown l.left l.rest
      ≡ grown_from l.resolved l.segment l.fn.grown l.fn.object;
}

abbrev pub decreases-loop-rest : goal.decreases-loop-rest
decreases-loop-rest l = length l.rest
