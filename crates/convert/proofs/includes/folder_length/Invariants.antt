use Rattle.std.proofs.Common.{◌≡◌, ◌≤◌, ◌+◌, length}
use Rattle.convert.specs.Includes.{folder_length}
use Rattle.convert.proofs.includes.folder_length.Given as goal

abbrev pub invariant-loop-rest : goal.invariant-loop-rest
invariant-loop-rest l = record {
  counted : folder_length l.found l.seen l.rest ≡ folder_length 0 0 l.name;
  within : l.seen + length l.rest ≡ length l.name;
  small : l.found ≤ l.seen;
}

abbrev pub decreases-loop-rest : goal.decreases-loop-rest
decreases-loop-rest l = length l.rest
