use Rattle.words.proofs.Prelude.{◌≡◌, ◌+◌, drop, prefix_len, is_blank}
use Rattle.words.proofs.characters.count_of_blanks.Given as goal

-- each byte so far is a blank
abbrev pub invariant-loop-i : goal.invariant-loop-i
invariant-loop-i l = l.i + prefix_len is_blank (drop l.i l.text) ≡ prefix_len is_blank l.text
