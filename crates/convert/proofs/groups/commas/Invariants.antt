use Rattle.std.proofs.Common.{◌≡◌, ◌+◌, ◌≤◌, length}
use Rattle.convert.specs.Groups.{commas}
use Rattle.convert.proofs.groups.commas.Given as goal

abbrev pub invariant-loop-rest : goal.invariant-loop-rest
invariant-loop-rest l = record {
  counted : l.count + commas l.depth l.rest ≡ commas 0 l.words;
  within : l.count + length l.rest ≤ length l.words;
  deep : l.depth + length l.rest ≤ length l.words;
}

abbrev pub decreases-loop-rest : goal.decreases-loop-rest
decreases-loop-rest l = length l.rest
