use Rattle.std.proofs.Common.{◌≡◌, ◌+◌, length}
use Rattle.convert.specs.Includes.{answer_from}
use Rattle.convert.proofs.includes.answer_from.Given as goal

abbrev pub invariant-loop-rest : goal.invariant-loop-rest
invariant-loop-rest l = record {
  same : answer_from l.file l.name l.rest ≡ answer_from 1 l.name l.entries;
  count : l.file + length l.rest ≡ 1 + length l.entries;
}

abbrev pub decreases-loop-rest : goal.decreases-loop-rest
decreases-loop-rest l = length l.rest
