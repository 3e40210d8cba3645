use Rattle.types.proofs.Prelude.{[], ◌∷◌, rules, with_names, block_view, progress_view, state_goes_on, state_fails, leaves_fault}
use Rattle.types.proofs.ItemLemmas.{first_name}
use Rattle.types.proofs.checker.Checker.declare_group.Goals as goal

pub loop-name-preserved : goal.loop-name-preserved
loop-name-preserved c =
    state_goes_on (λ name. with_names (block_view c.args.block) (name ∷ []))
    (with_names (block_view c.args.block)) (first_name (block_view c.args.block))
    c.args.names.now c.loop-name.name-index c.name-item.result (progress_view c.loop-name.self)
    (progress_view c.declare_name.new.self) _
    c.loop-name-test.true c.name-item.is c.loop-name.invariant (search rules)

pub returns-in_err-declare_name : goal.returns-in_err-declare_name
returns-in_err-declare_name c =
    leaves_fault c.from_residual.result c.in_err-declare_name.field-0.0
    (progress_view c.declare_name.new.self) _ (search rules)
    (state_fails (λ name. with_names (block_view c.args.block) (name ∷ []))
    (with_names (block_view c.args.block)) (first_name (block_view c.args.block))
    c.args.names.now c.loop-name.name-index c.name-item.result (progress_view c.loop-name.self) _ _
    c.loop-name-test.true c.name-item.is c.loop-name.invariant c.in_err-declare_name.ensures)
