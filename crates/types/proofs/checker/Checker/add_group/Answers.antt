use Rattle.types.proofs.Prelude.{[], ◌∷◌, rules, with_objects, block_view, progress_view, typed_item_view, state_goes_on, state_fails, leaves_fault}
use Rattle.types.proofs.ItemLemmas.{first_object}
use Rattle.types.proofs.checker.Checker.add_group.Goals as goal

pub loop-name-preserved : goal.loop-name-preserved
loop-name-preserved c =
    state_goes_on
    (λ name. with_objects (block_view c.args.block) (typed_item_view c.args.item.now) (name ∷ []))
    (with_objects (block_view c.args.block) (typed_item_view c.args.item.now))
    (first_object (block_view c.args.block) (typed_item_view c.args.item.now))
    c.args.names.now c.loop-name.name-index c.name-item.result (progress_view c.loop-name.self)
    (progress_view c.add_copy.new.self) _
    c.loop-name-test.true c.name-item.is c.loop-name.invariant (search rules)

pub returns-in_err-add_copy : goal.returns-in_err-add_copy
returns-in_err-add_copy c =
    leaves_fault c.from_residual.result c.in_err-add_copy.field-0.0
    (progress_view c.add_copy.new.self) _ (search rules)
    (state_fails (λ name. with_objects (block_view c.args.block) (typed_item_view c.args.item.now)
    (name ∷ [])) (with_objects (block_view c.args.block) (typed_item_view c.args.item.now))
    (first_object (block_view c.args.block) (typed_item_view c.args.item.now))
    c.args.names.now c.loop-name.name-index c.name-item.result (progress_view c.loop-name.self) _ _
    c.loop-name-test.true c.name-item.is c.loop-name.invariant c.in_err-add_copy.ensures)
