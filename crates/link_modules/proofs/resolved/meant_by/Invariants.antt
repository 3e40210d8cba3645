use Rattle.link_modules.proofs.Prelude.{◌≡◌, ◌++◌, length, map, option_map, public_named, owned_public_view}
use Rattle.link_modules.proofs.resolved.meant_by.Given as goal

abbrev pub invariant-loop-name : goal.invariant-loop-name
invariant-loop-name g l =
    map (option_map owned_public_view) l.meant.items
    ++ map (public_named l.publics) (g.L.Linkable.told l.walk).externals
    ≡ map (public_named l.publics) (g.L.Linkable.told l.fn.walk).externals

abbrev pub decreases-loop-name : goal.decreases-loop-name
decreases-loop-name g l = length (g.L.Linkable.told l.walk).externals
