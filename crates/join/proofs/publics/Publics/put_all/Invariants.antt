use Rattle.join.proofs.Prelude.{◌≡◌, length, globals_view, publics_view, with_publics}
use Rattle.join.proofs.publics.Publics.put_all.Given as goal

abbrev pub invariant-loop-rest : goal.invariant-loop-rest
invariant-loop-rest l =
    with_publics (publics_view l.self) (globals_view l.rest)
    ≡ with_publics (publics_view l.fn.self) (globals_view l.globals)

abbrev pub decreases-loop-rest : goal.decreases-loop-rest
decreases-loop-rest l = length l.rest
