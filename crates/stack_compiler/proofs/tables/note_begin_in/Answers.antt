use Rattle.stack_compiler.proofs.Prelude.{length, refl, slice_get_read, row_begun}
use Rattle.stack_compiler.proofs.RowLoops.{row_changed}
use Rattle.stack_compiler.proofs.tables.note_begin_in.Goals as goal

pub returns-in-Some : goal.returns-in-Some
returns-in-Some c =
    row_changed (row_begun c.args.number c.args.after) c.args.tables.now.items c.args.number_of_module
    c.in-Some.table.now c.note_begin.new.table
    (slice_get_read c.args.tables.now.items (length c.args.tables.now.items) c.args.number_of_module
    c.in-Some.table.now refl
    (c.in-Some.ensures.item.3).0 c.in-Some.ensures.value) c.note_begin.ensures
