use Rattle.listings.proofs.Prelude.{◌≡◌, ◌+◌, length, first_length}
use Rattle.listings.proofs.text_lines.line_length.Given as goal

-- the bytes so far, and those of the rest before its first line feed, are all
abbrev pub invariant-loop-rest : goal.invariant-loop-rest
invariant-loop-rest l = record {
  counted : l.count + first_length l.rest ≡ first_length l.text;
  within : l.count + length l.rest ≡ length l.text;
}

abbrev pub decreases-loop-rest : goal.decreases-loop-rest
decreases-loop-rest l = length l.rest
