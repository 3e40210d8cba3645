use Rattle.stack_compiler.proofs.Prelude.{◌≡◌, ◌-◌, length, padded}
use Rattle.stack_compiler.proofs.tables.pad_places.Given as goal

abbrev pub invariant-loop-places : goal.invariant-loop-places
invariant-loop-places l = padded 0 l.places.items l.count ≡ padded 0 l.fn.places.items l.count

abbrev pub decreases-loop-places : goal.decreases-loop-places
decreases-loop-places l = l.count - length l.places.items
