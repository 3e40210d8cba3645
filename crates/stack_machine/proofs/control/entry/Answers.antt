-- A read of the module's table, and one of its procedures.
use Rattle.stack_machine.proofs.Prelude.{◌≡◌, ◌∙◌, ℕ, List, Option, Some, None, Bor, length, refl, sym, ap, option_and_then, option_copied, slice_get, IsItemAt, slice_get_past, slice_get_read, ModuleTable}
use Rattle.stack_machine.proofs.control.entry.Goals as goal

copied_from : {A : Type 0} (xs : List A) (i : ℕ) (r : Option (Bor A)) → IsItemAt xs i r
    → option_copied r ≡ slice_get xs i
copied_from xs i None item = sym (slice_get_past xs i item.3)
copied_from xs i (Some x) item = sym (slice_get_read xs (length xs) i x.now refl item.3.0 item.1)

pub returns-in-Some : goal.returns-in-Some
returns-in-Some c =
    let found = c.in-Some.ensures.lookup in
    let place =
    slice_get_read c.args.tables.now (length c.args.tables.now) c.args.number_of_module c.in-Some.table.now
    refl found.3.0 found.1 in
    c.copied.ensures
    ∙ copied_from c.deref.result.now c.args.procedure c.get-in-Some.result c.get-in-Some.ensures.lookup
    ∙ ap (λ entries. slice_get entries c.args.procedure) c.deref.ensures.value
    ∙ sym (ap (option_and_then (λ (it : ModuleTable). slice_get it.procedures.items c.args.procedure)) place)
