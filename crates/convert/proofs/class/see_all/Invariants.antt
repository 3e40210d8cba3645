use Rattle.std.proofs.Common.{◌≡◌, ◌++◌, ◌≤◌, ◌+◌, length}
use Rattle.convert.specs.Classes.{seen_in}
use Rattle.convert.proofs.class.see_all.Given as goal

abbrev pub invariant-loop-after : goal.invariant-loop-after
invariant-loop-after l = record {
  seen :
      l.all.items ++ seen_in l.blocks.items l.all.items l.after l.rest
      ≡ l.initial.all.items ++ seen_in l.initial.blocks.items l.initial.all.items l.words l.expanded;
  count : length l.all.items + length l.after ≡ length l.initial.all.items + length l.words;
  short : length l.rest ≤ 4294967296;
}

abbrev pub decreases-loop-after : goal.decreases-loop-after
decreases-loop-after l = length l.after
