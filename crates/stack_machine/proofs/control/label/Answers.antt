-- A read of the module's table, and one of its labels.
use Rattle.stack_machine.proofs.Prelude.{◌∙◌, length, refl, sym, ap, arith, slice_index_or, option_map_or, unwrap_or, slice_get_read, ModuleTable}
use Rattle.stack_machine.proofs.control.label.Goals as goal

pub returns-in-Some : goal.returns-in-Some
returns-in-Some c =
    let found = c.in-Some.ensures.lookup in
    let place =
    slice_get_read c.args.tables.now (length c.args.tables.now) c.args.number_of_module c.in-Some.table.now
    refl found.3.0 found.1 in
    c.unwrap_or.ensures
    ∙ ap (λ copied. unwrap_or copied 0) c.copied.ensures
    ∙ c.get-in-Some.ensures.lookup.4 (omega arith) 0
    ∙ ap (λ places. slice_index_or places c.args.label 0) c.deref.ensures.value
    ∙ sym (ap (λ table. option_map_or (λ (it : ModuleTable). slice_index_or it.labels.items c.args.label 0)
    table 0) place)
