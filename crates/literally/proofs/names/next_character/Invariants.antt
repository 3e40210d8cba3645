use Rattle.literally.proofs.Prelude.{◌≡◌, drop, name_of}
use Rattle.literally.proofs.names.next_character.Given as goal

-- no character stands before this place
abbrev pub invariant-loop-i : goal.invariant-loop-i
invariant-loop-i l = name_of (drop l.i l.text) ≡ name_of (drop l.fn.from l.text)
