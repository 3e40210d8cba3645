use Rattle.words.proofs.Prelude.{◌≡◌, drop, false, string_end, further}
use Rattle.words.proofs.strings.string_end.Given as goal

-- the end of what is left is that of the whole
abbrev pub invariant-loop-i : goal.invariant-loop-i
invariant-loop-i l = further l.i (string_end l.quoted (drop l.i l.text)) ≡ string_end false l.text
