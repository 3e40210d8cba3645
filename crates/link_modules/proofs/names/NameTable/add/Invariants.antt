use Rattle.link_modules.proofs.Prelude.{◌≡◌, length, map, gathered, public_name}
use Rattle.link_modules.proofs.names.NameTable.add.Given as goal

abbrev pub invariant-loop-public : goal.invariant-loop-public
invariant-loop-public g l =
    gathered l.self (map public_name (g.L.Linkable.told l.walk).publics)
    ≡ gathered l.fn.self (map public_name (g.L.Linkable.told l.fn.walk).publics)

abbrev pub decreases-loop-public : goal.decreases-loop-public
decreases-loop-public g l = length (g.L.Linkable.told l.walk).publics
