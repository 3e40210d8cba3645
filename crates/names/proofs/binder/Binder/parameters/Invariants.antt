use Rattle.names.proofs.Prelude.{◌≡◌, drop, see_all, declares_parameter, gives}
use Rattle.names.proofs.binder.Binder.parameters.Given as goal

abbrev pub invariant-loop-name : goal.invariant-loop-name
invariant-loop-name l =
    gives (see_all declares_parameter (drop l.name-index l.names)) l.self
    ≡ gives (see_all declares_parameter l.names) l.initial.self
