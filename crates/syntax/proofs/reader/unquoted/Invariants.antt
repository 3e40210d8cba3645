use Rattle.syntax.proofs.Prelude.{◌≡◌, false, ◌++◌, drop, unquoted}
use Rattle.syntax.proofs.reader.unquoted.Given as goal

abbrev pub invariant-loop-byte : goal.invariant-loop-byte
invariant-loop-byte l =
    l.characters.items ++ unquoted l.quoted (drop l.byte-index l.text) ≡ unquoted false l.text
