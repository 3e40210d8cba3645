use Rattle.std.proofs.Common.{◌≡◌, ◌+◌, ◌≤◌, length}
use Rattle.convert.specs.Groups.{closing}
use Rattle.convert.proofs.groups.closing.Given as goal

abbrev pub invariant-loop-rest : goal.invariant-loop-rest
invariant-loop-rest l = record {
  closed : closing l.count l.depth l.rest ≡ closing 1 1 l.words;
  within : l.count + length l.rest ≡ 1 + length l.words;
  deep : l.depth ≤ 64;
}

abbrev pub decreases-loop-rest : goal.decreases-loop-rest
decreases-loop-rest l = length l.rest
