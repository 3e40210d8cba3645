use Rattle.link_modules.proofs.Prelude.{◌≡◌, drop, end_in, end_joined}
use Rattle.link_modules.proofs.merging.merged_end.Given as goal

abbrev pub invariant-loop-one : goal.invariant-loop-one
invariant-loop-one g l =
    end_joined (end_in l.segment) l.end (drop l.one-index l.placed) ≡ end_joined (end_in l.segment) 0 l.placed
