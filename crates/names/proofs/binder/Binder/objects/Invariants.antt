use Rattle.names.proofs.Prelude.{◌≡◌, drop, see_all, declares_object, gives}
use Rattle.names.proofs.binder.Binder.objects.Given as goal

abbrev pub invariant-loop-name : goal.invariant-loop-name
invariant-loop-name l =
    gives (see_all declares_object (drop l.name-index l.names)) l.self
    ≡ gives (see_all declares_object l.names) l.initial.self
