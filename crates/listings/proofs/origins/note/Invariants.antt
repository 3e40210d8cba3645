use Rattle.listings.specs.internal.Origins.{KeepsWith}
use Rattle.listings.proofs.origins.note.Given as goal

abbrev pub invariant-loop-address : goal.invariant-loop-address
invariant-loop-address l = KeepsWith l.origin l.fn.origins.items l.origins.items
