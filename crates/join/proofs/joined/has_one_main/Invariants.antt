use Rattle.join.proofs.Prelude.{◌≡◌, count_by, drop, map, module_view, is_main}
use Rattle.join.proofs.MainModules.{mains}
use Rattle.join.proofs.joined.has_one_main.Given as goal

abbrev pub invariant-loop-typed : goal.invariant-loop-typed
invariant-loop-typed l =
    mains l.found (drop l.typed-index l.modules) ≡ count_by is_main (map module_view l.modules)
