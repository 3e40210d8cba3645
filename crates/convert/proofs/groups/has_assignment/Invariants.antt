use Rattle.std.proofs.Common.{◌≡◌, ◌+◌, ◌≤◌, length}
use Rattle.convert.specs.Groups.{has_outside, is_assign}
use Rattle.convert.proofs.groups.has_assignment.Given as goal

abbrev pub invariant-loop-rest : goal.invariant-loop-rest
invariant-loop-rest l = record {
  same : has_outside is_assign l.depth l.rest ≡ has_outside is_assign 0 l.words;
  deep : l.depth + length l.rest ≤ length l.words;
}

abbrev pub decreases-loop-rest : goal.decreases-loop-rest
decreases-loop-rest l = length l.rest
