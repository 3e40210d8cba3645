use Rattle.stack_compiler.proofs.Prelude.{◌≡◌, ◌++◌, drop, map, module_view, row_view, started_row}
use Rattle.stack_compiler.proofs.tables.started_tables.Given as goal

abbrev pub invariant-loop-typed : goal.invariant-loop-typed
invariant-loop-typed l =
    map row_view l.tables.items ++ map started_row (map module_view (drop l.typed-index l.modules))
    ≡ map started_row (map module_view l.modules)
