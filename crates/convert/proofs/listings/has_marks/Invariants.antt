use Rattle.std.proofs.Common.{◌≡◌, false, length}
use Rattle.convert.specs.Listings.{has_marks}
use Rattle.convert.proofs.listings.has_marks.Given as goal

abbrev pub invariant-loop-rest : goal.invariant-loop-rest
invariant-loop-rest l = has_marks l.included l.rest ≡ has_marks false l.columns

abbrev pub decreases-loop-rest : goal.decreases-loop-rest
decreases-loop-rest l = length l.rest
