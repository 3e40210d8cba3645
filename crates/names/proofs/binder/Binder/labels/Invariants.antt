use Rattle.names.proofs.Prelude.{◌≡◌, drop, see_all, declares_label, gives}
use Rattle.names.proofs.binder.Binder.labels.Given as goal

abbrev pub invariant-loop-name : goal.invariant-loop-name
invariant-loop-name l =
    gives (see_all declares_label (drop l.name-index l.names)) l.self
    ≡ gives (see_all declares_label l.names) l.initial.self
