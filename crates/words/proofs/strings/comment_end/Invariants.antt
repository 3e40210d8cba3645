use Rattle.words.proofs.Prelude.{◌≡◌, drop, false, comment_end, further}
use Rattle.words.proofs.strings.comment_end.Given as goal

-- the end of what is left is that of the whole
abbrev pub invariant-loop-i : goal.invariant-loop-i
invariant-loop-i l = further l.i (comment_end l.starred (drop l.i l.text)) ≡ comment_end false l.text
