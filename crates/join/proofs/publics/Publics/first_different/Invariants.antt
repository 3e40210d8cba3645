use Rattle.join.proofs.Prelude.{◌≡◌, drop, first_external, globals_view, differs_in, publics_view}
use Rattle.join.proofs.publics.Publics.first_different.Given as goal

abbrev pub invariant-loop-global : goal.invariant-loop-global
invariant-loop-global l =
    first_external (differs_in (publics_view l.self)) (globals_view (drop l.global-index l.globals))
    ≡ first_external (differs_in (publics_view l.self)) (globals_view l.globals)
