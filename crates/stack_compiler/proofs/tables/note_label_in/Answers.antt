use Rattle.stack_compiler.proofs.Prelude.{length, refl, slice_get_read, row_labelled}
use Rattle.stack_compiler.proofs.RowLoops.{row_changed}
use Rattle.stack_compiler.proofs.tables.note_label_in.Goals as goal

pub returns-in_ok-note_label : goal.returns-in_ok-note_label
returns-in_ok-note_label c =
    row_changed (row_labelled c.args.label c.args.after) c.args.tables.now.items c.args.number_of_module
    c.in-Some.table.now c.note_label.new.table
    (slice_get_read c.args.tables.now.items (length c.args.tables.now.items) c.args.number_of_module
    c.in-Some.table.now refl
    (c.in-Some.ensures.item.3).0 c.in-Some.ensures.value) c.in_ok-note_label.ensures
