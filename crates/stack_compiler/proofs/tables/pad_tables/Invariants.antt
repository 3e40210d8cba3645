use Rattle.stack_compiler.proofs.Prelude.{◌≡◌, ◌+◌, ◌-◌, suc, length, map, empty_row, padded, row_view}
use Rattle.stack_compiler.proofs.tables.pad_tables.Given as goal

abbrev pub invariant-loop-alloc : goal.invariant-loop-alloc
invariant-loop-alloc l =
    padded empty_row (map row_view l.tables.items) (suc l.number)
    ≡ padded empty_row (map row_view l.fn.tables.items) (suc l.number)

abbrev pub decreases-loop-alloc : goal.decreases-loop-alloc
decreases-loop-alloc l = l.number + 1 - length l.tables.items
