use Rattle.stack_compiler.proofs.Prelude.{◌≡◌, drop, map, noted_all, row_view}
use Rattle.stack_compiler.proofs.tables.note_all.Given as goal

abbrev pub invariant-loop-at : goal.invariant-loop-at
invariant-loop-at l =
    noted_all (map row_view l.tables.items) l.at (drop l.at l.code)
    ≡ noted_all (map row_view l.fn.tables.items) 0 l.code
