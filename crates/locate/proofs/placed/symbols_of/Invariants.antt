use Rattle.locate.proofs.Prelude.{◌≡◌, ◌++◌, drop, map, symbol_at, owned_public_view, plan_view, symbol_view}
use Rattle.locate.proofs.placed.symbols_of.Given as goal

abbrev pub invariant-loop-public : goal.invariant-loop-public
invariant-loop-public l =
    map symbol_view l.symbols.items
    ++ map (symbol_at (plan_view l.plan)) (map owned_public_view (drop l.public-index l.publics))
    ≡ map (symbol_at (plan_view l.plan)) (map owned_public_view l.publics)
