use Rattle.link_modules.proofs.Prelude.{◌≡◌, drop, alignment_joined}
use Rattle.link_modules.proofs.merging.merged_alignment.Given as goal

abbrev pub invariant-loop-one : goal.invariant-loop-one
invariant-loop-one g l =
    alignment_joined l.segment (drop l.one-index l.placed) ≡ alignment_joined l.segment l.placed
