use Rattle.types.proofs.Prelude.{rules, sym, subst, item_tree, Leaves, block_view, progress_view, typed_item_view, leaves_fault}
use Rattle.types.proofs.ItemLemmas.{declared_with, item_fails, names_fail}
use Rattle.types.proofs.checker.Checker.declare_item.Goals as goal

pub returns-in_err-declare_names : goal.returns-in_err-declare_names
returns-in_err-declare_names c =
    leaves_fault _ c.in_err-declare_names.field-0.0 _ _ (search rules)
    (names_fail (block_view c.args.block) (item_tree c.args.item.now) (progress_view c.args.self.now) _
    c.in_err-declare_names.ensures)

pub returns-in_err-typed : goal.returns-in_err-typed
returns-in_err-typed c =
    leaves_fault _ c.in_err-typed.field-0.0 _ _ (search rules)
    (item_fails (block_view c.args.block) (item_tree c.args.item.now) (progress_view c.args.self.now) _
    (progress_view c.declare_names.new.self) c.in_ok-declare_names.ensures
    (rw c.in_err-typed.was at c.fitting_item-typed.ensures))

pub returns : goal.returns
returns c =
    subst (Leaves c.add_objects.result (progress_view c.add_objects.new.self))
    (sym (declared_with (block_view c.args.block) (item_tree c.args.item.now) (progress_view c.args.self.now)
    (typed_item_view c.in_ok-typed.field-0) (progress_view c.declare_names.new.self)
    c.in_ok-declare_names.ensures (rw c.in_ok-typed.was at c.fitting_item-typed.ensures)))
    c.add_objects.ensures
