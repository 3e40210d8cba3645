use Rattle.std.proofs.Common.{◌≡◌, ◌≤◌, ◌+◌, ◌++◌, true, false, length}
use Rattle.convert.specs.Texts.{start_of}
use Rattle.convert.specs.Wrapping.{wrapped_text}
use Rattle.convert.proofs.wrapping.write_wrapped.Given as goal

abbrev pub invariant-loop-rest : goal.invariant-loop-rest
invariant-loop-rest l = record {
  written :
      l.text.items ++ wrapped_text l.source l.fresh l.marked l.place l.end l.depth l.rest
      ≡ l.initial.text.items
      ++ wrapped_text l.source true false (start_of l.words) (start_of l.words) 0 l.words;
  deep : l.depth + length l.rest ≤ length l.words;
  within : length l.rest ≤ length l.words;
}

abbrev pub decreases-loop-rest : goal.decreases-loop-rest
decreases-loop-rest l = length l.rest
