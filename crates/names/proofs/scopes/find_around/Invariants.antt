use Rattle.names.proofs.Prelude.{◌≡◌, length, reverse, declared_around}
use Rattle.names.proofs.scopes.find_around.Given as goal

abbrev pub invariant-loop-last : goal.invariant-loop-last
invariant-loop-last l =
    declared_around (reverse l.rest) l.fn.name ≡ declared_around (reverse l.fn.bodies) l.fn.name

abbrev pub decreases-loop-last : goal.decreases-loop-last
decreases-loop-last l = length l.rest
