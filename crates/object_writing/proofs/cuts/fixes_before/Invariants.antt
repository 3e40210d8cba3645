use Rattle.object_writing.proofs.Prelude.{◌≡◌, ◌+◌, drop, count_before}
use Rattle.object_writing.proofs.cuts.fixes_before.Given as goal

abbrev pub invariant-loop-count : goal.invariant-loop-count
invariant-loop-count l = l.count + count_before (drop l.count l.fixes) l.place ≡ count_before l.fixes l.place
