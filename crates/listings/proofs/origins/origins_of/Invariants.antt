use Rattle.listings.specs.internal.Origins.{AreOriginsIn}
use Rattle.listings.proofs.Prelude.{◌≡◌, length}
use Rattle.listings.proofs.origins.origins_of.Given as goal

-- the module of this number is the next one
abbrev pub invariant-loop-view : goal.invariant-loop-view
invariant-loop-view l = (l.number ≡ l.view-index) × AreOriginsIn (length l.views) l.origins.items
