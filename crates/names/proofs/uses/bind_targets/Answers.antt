use Rattle.names.proofs.Prelude.{map, rules, flat_map, Reference, reference_tree, names_in_reference, bound_at}
use Rattle.names.proofs.Loops.{goes_on, fails_within, loop_ended, hands_on}
use Rattle.names.proofs.BindingWalks.{bind_more_append, bound_none}
use Rattle.names.proofs.uses.bind_targets.Goals as goal

pub loop-target-preserved : goal.loop-target-preserved
loop-target-preserved c =
    goes_on
    (λ (target : Reference) bindings. bound_at c.args.scopes.now
    (names_in_reference (reference_tree target)) bindings)
    (λ targets bindings. bound_at c.args.scopes.now
    (flat_map names_in_reference (map reference_tree targets)) bindings)
    (λ target targets bindings. bind_more_append c.args.scopes.now
    (names_in_reference (reference_tree target))
    (flat_map names_in_reference (map reference_tree targets)) bindings)
    c.args.targets.now c.loop-target.target-index c.target-item.result c.loop-target.bindings.items
    c.bind_reference.new.bindings.items _
    c.loop-target-test.true c.target-item.is c.loop-target.invariant c.in_ok-bind_reference.ensures

pub returns-in_err-bind_reference : goal.returns-in_err-bind_reference
returns-in_err-bind_reference c =
    hands_on c.from_residual.result c.in_err-bind_reference.field-0.0
    c.bind_reference.new.bindings.items _ (search rules)
    (fails_within
    (λ (target : Reference) bindings. bound_at c.args.scopes.now
    (names_in_reference (reference_tree target)) bindings)
    (λ targets bindings. bound_at c.args.scopes.now
    (flat_map names_in_reference (map reference_tree targets)) bindings)
    (λ target targets bindings. bind_more_append c.args.scopes.now
    (names_in_reference (reference_tree target))
    (flat_map names_in_reference (map reference_tree targets)) bindings)
    c.args.targets.now c.loop-target.target-index c.target-item.result c.loop-target.bindings.items _ _
    c.loop-target-test.true c.target-item.is c.loop-target.invariant c.in_err-bind_reference.ensures)

pub returns : goal.returns
returns c =
    loop_ended
    (λ (target : Reference) bindings. bound_at c.args.scopes.now
    (names_in_reference (reference_tree target)) bindings)
    (λ targets bindings. bound_at c.args.scopes.now
    (flat_map names_in_reference (map reference_tree targets)) bindings)
    (λ target targets bindings. bind_more_append c.args.scopes.now
    (names_in_reference (reference_tree target))
    (flat_map names_in_reference (map reference_tree targets)) bindings)
    c.args.targets.now c.loop-target.target-index c.loop-target.bindings.items _ _ c.loop-target-test.false
    c.loop-target.invariant
    (bound_none c.args.scopes.now c.loop-target.bindings.items)
