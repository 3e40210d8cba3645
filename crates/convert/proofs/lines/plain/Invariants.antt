use Rattle.std.proofs.Common.{◌≡◌, ◌≤◌, ◌+◌, ◌++◌, length}
use Rattle.convert.specs.Lines.{plain, plain_after}
use Rattle.convert.specs.internal.Feeds.{waiting}
use Rattle.convert.proofs.lines.plain.Given as goal

abbrev pub invariant-loop-rest : goal.invariant-loop-rest
invariant-loop-rest l = record {
  plain_is : l.text.items ++ plain_after l.last l.fed l.rest ≡ plain l.source;
  shorter : length l.text.items + (waiting l.fed + length l.rest) ≤ length l.source;
}

abbrev pub decreases-loop-rest : goal.decreases-loop-rest
decreases-loop-rest l = length l.rest
