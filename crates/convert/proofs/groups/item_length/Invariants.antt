use Rattle.std.proofs.Common.{◌≡◌, ◌+◌, ◌≤◌, length}
use Rattle.convert.specs.Groups.{item_end, item_length}
use Rattle.convert.proofs.groups.item_length.Given as goal

abbrev pub invariant-loop-rest : goal.invariant-loop-rest
invariant-loop-rest l = record {
  counted : l.count + item_end l.depth l.rest ≡ item_length l.words;
  within : l.count + length l.rest ≡ length l.words;
  deep : l.depth ≤ l.count;
}

abbrev pub decreases-loop-rest : goal.decreases-loop-rest
decreases-loop-rest l = length l.rest
