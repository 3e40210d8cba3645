use Rattle.link_modules.proofs.Prelude.{◌≡◌, length, missing_in}
use Rattle.link_modules.proofs.names.first_missing.Given as goal

abbrev pub invariant-loop-name : goal.invariant-loop-name
invariant-loop-name g l =
    missing_in l.table (g.L.Linkable.told l.walk).externals
    ≡ missing_in l.table (g.L.Linkable.told l.fn.walk).externals

abbrev pub decreases-loop-name : goal.decreases-loop-name
decreases-loop-name g l = length (g.L.Linkable.told l.walk).externals
