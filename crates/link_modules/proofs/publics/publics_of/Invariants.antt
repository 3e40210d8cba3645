use Rattle.link_modules.proofs.Prelude.{◌≡◌, ◌++◌, drop, map, all_publics, owned_public_view}
use Rattle.link_modules.proofs.publics.publics_of.Given as goal

abbrev pub invariant-loop-one : goal.invariant-loop-one
invariant-loop-one g l =
    map owned_public_view l.publics.items ++ all_publics (drop l.one-index l.placed) ≡ all_publics l.placed
