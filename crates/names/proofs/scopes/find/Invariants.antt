use Rattle.names.proofs.Prelude.{◌≡◌, length, reverse, known_in}
use Rattle.names.proofs.scopes.find.Given as goal

abbrev pub invariant-loop-last : goal.invariant-loop-last
invariant-loop-last l = known_in (reverse l.rest) l.fn.name ≡ known_in (reverse l.fn.tables) l.fn.name

abbrev pub decreases-loop-last : goal.decreases-loop-last
decreases-loop-last l = length l.rest
