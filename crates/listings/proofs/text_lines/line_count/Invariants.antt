use Rattle.listings.proofs.Prelude.{◌≡◌, ◌+◌, length, lines_of}
use Rattle.listings.proofs.text_lines.line_count.Given as goal

-- the lines so far, and those that are left, are all
abbrev pub invariant-loop-rest : goal.invariant-loop-rest
invariant-loop-rest l = l.count + length (lines_of l.rest) ≡ length (lines_of l.text)

abbrev pub decreases-loop-rest : goal.decreases-loop-rest
decreases-loop-rest l = length l.rest
