use Rattle.link_modules.proofs.Prelude.{◌≡◌, ◌++◌, length, map, public_moved, owned_public_view}
use Rattle.link_modules.proofs.publics.add_publics.Given as goal

abbrev pub invariant-loop-public : goal.invariant-loop-public
invariant-loop-public g l =
    map owned_public_view l.publics.items ++ map (public_moved l.placed) (g.L.Linkable.told l.walk).publics
    ≡ map owned_public_view l.fn.publics.items
    ++ map (public_moved l.placed) (g.L.Linkable.told l.fn.walk).publics

abbrev pub decreases-loop-public : goal.decreases-loop-public
decreases-loop-public g l = length (g.L.Linkable.told l.walk).publics
