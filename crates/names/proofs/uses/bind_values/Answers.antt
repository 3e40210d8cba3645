use Rattle.names.proofs.Prelude.{map, rules, flat_map, Restricted, restricted_tree, names_in_restricted, bound_at}
use Rattle.names.proofs.Loops.{goes_on, fails_within, loop_ended, hands_on}
use Rattle.names.proofs.BindingWalks.{bind_more_append, bound_none}
use Rattle.names.proofs.uses.bind_values.Goals as goal

pub loop-value-preserved : goal.loop-value-preserved
loop-value-preserved c =
    goes_on
    (λ (value : Restricted) bindings. bound_at c.args.scopes.now
    (names_in_restricted (restricted_tree value)) bindings)
    (λ values bindings. bound_at c.args.scopes.now
    (flat_map names_in_restricted (map restricted_tree values)) bindings)
    (λ value values bindings. bind_more_append c.args.scopes.now (names_in_restricted (restricted_tree value))
    (flat_map names_in_restricted (map restricted_tree values)) bindings)
    c.args.values.now c.loop-value.value-index c.value-item.result c.loop-value.bindings.items
    c.bind_restricted.new.bindings.items _
    c.loop-value-test.true c.value-item.is c.loop-value.invariant c.in_ok-bind_restricted.ensures

pub returns-in_err-bind_restricted : goal.returns-in_err-bind_restricted
returns-in_err-bind_restricted c =
    hands_on c.from_residual.result c.in_err-bind_restricted.field-0.0
    c.bind_restricted.new.bindings.items _ (search rules)
    (fails_within
    (λ (value : Restricted) bindings. bound_at c.args.scopes.now
    (names_in_restricted (restricted_tree value)) bindings)
    (λ values bindings. bound_at c.args.scopes.now
    (flat_map names_in_restricted (map restricted_tree values)) bindings)
    (λ value values bindings. bind_more_append c.args.scopes.now (names_in_restricted (restricted_tree value))
    (flat_map names_in_restricted (map restricted_tree values)) bindings)
    c.args.values.now c.loop-value.value-index c.value-item.result c.loop-value.bindings.items _ _
    c.loop-value-test.true c.value-item.is c.loop-value.invariant c.in_err-bind_restricted.ensures)

pub returns : goal.returns
returns c =
    loop_ended
    (λ (value : Restricted) bindings. bound_at c.args.scopes.now
    (names_in_restricted (restricted_tree value)) bindings)
    (λ values bindings. bound_at c.args.scopes.now
    (flat_map names_in_restricted (map restricted_tree values)) bindings)
    (λ value values bindings. bind_more_append c.args.scopes.now (names_in_restricted (restricted_tree value))
    (flat_map names_in_restricted (map restricted_tree values)) bindings)
    c.args.values.now c.loop-value.value-index c.loop-value.bindings.items _ _ c.loop-value-test.false
    c.loop-value.invariant
    (bound_none c.args.scopes.now c.loop-value.bindings.items)
