use Rattle.join.proofs.Prelude.{◌≡◌, ◌++◌, drop, map, module_view, globals_of, globals_view}
use Rattle.join.proofs.shared.shared_by.Given as goal

abbrev pub invariant-loop-typed : goal.invariant-loop-typed
invariant-loop-typed l =
    globals_view l.globals.items ++ globals_of (map module_view (drop l.typed-index l.modules))
    ≡ globals_of (map module_view l.modules)
