use Rattle.symbols.proofs.Prelude.{◌≡◌, ◌≤◌, length, name_of}
use Rattle.symbols.proofs.name.first_character.Given as goal

abbrev pub invariant-loop-rest : goal.invariant-loop-rest
invariant-loop-rest l = (name_of l.rest ≡ name_of l.text) × (length l.rest ≤ length l.text)

abbrev pub decreases-loop-rest : goal.decreases-loop-rest
decreases-loop-rest l = length l.rest
