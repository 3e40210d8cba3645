use Rattle.stack_compiler.proofs.Prelude.{◌≡◌, ◌++◌, drop, map, procedure_view, started_entry}
use Rattle.stack_compiler.proofs.tables.started_entries.Given as goal

abbrev pub invariant-loop-procedure : goal.invariant-loop-procedure
invariant-loop-procedure l =
    l.entries.items ++ map started_entry (map procedure_view (drop l.procedure-index l.procedures))
    ≡ map started_entry (map procedure_view l.procedures)
