use Rattle.names.proofs.Prelude.{rules, None, ◌∙◌, arith, Expression, expression_tree, argument_trees, names_in_expression, names_in_arguments, bound_at, fault_in}
use Rattle.names.proofs.Loops.{goes_on, fails_within, loop_ended, hands_on}
use Rattle.names.proofs.BindingWalks.{bind_more_append, bound_none, bound_append_ok, fails_append, fails_cons}
use Rattle.names.proofs.References.{reference_fails, reference_names, member_bound}
use Rattle.names.proofs.uses.+uses.Goals as goal

pub bind_arguments-loop-argument-preserved : goal.bind_arguments-loop-argument-preserved
bind_arguments-loop-argument-preserved t c =
    goes_on
    (λ (argument : Expression) bindings. bound_at c.args.scopes.now
    (names_in_expression (expression_tree argument)) bindings)
    (λ arguments bindings. bound_at c.args.scopes.now
    (names_in_arguments (argument_trees arguments)) bindings)
    (λ argument arguments bindings. bind_more_append c.args.scopes.now
    (names_in_expression (expression_tree argument))
    (names_in_arguments (argument_trees arguments)) bindings)
    c.args.arguments.now c.loop-argument.argument-index c.argument-item.result c.loop-argument.bindings.items
    c.bind_expression.new.bindings.items _
    c.loop-argument-test.true c.argument-item.is c.loop-argument.invariant c.in_ok-bind_expression.ensures

pub bind_arguments-returns-in_err-bind_expression : goal.bind_arguments-returns-in_err-bind_expression
bind_arguments-returns-in_err-bind_expression t c =
    let a = fails_within
    (λ (argument : Expression) bindings. bound_at c.args.scopes.now
    (names_in_expression (expression_tree argument)) bindings)
    (λ arguments bindings. bound_at c.args.scopes.now
    (names_in_arguments (argument_trees arguments)) bindings)
    (λ argument arguments bindings. bind_more_append c.args.scopes.now
    (names_in_expression (expression_tree argument))
    (names_in_arguments (argument_trees arguments)) bindings)
    c.args.arguments.now c.loop-argument.argument-index c.argument-item.result
    c.loop-argument.bindings.items _ _
    c.loop-argument-test.true c.argument-item.is c.loop-argument.invariant c.in_err-bind_expression.ensures in
    hands_on c.from_residual.result c.in_err-bind_expression.field-0.0
    c.bind_expression.new.bindings.items _ (search rules) a

pub bind_arguments-returns : goal.bind_arguments-returns
bind_arguments-returns t c =
    loop_ended
    (λ (argument : Expression) bindings. bound_at c.args.scopes.now
    (names_in_expression (expression_tree argument)) bindings)
    (λ arguments bindings. bound_at c.args.scopes.now
    (names_in_arguments (argument_trees arguments)) bindings)
    (λ argument arguments bindings. bind_more_append c.args.scopes.now
    (names_in_expression (expression_tree argument))
    (names_in_arguments (argument_trees arguments)) bindings)
    c.args.arguments.now c.loop-argument.argument-index c.loop-argument.bindings.items _ _
    c.loop-argument-test.false c.loop-argument.invariant
    (bound_none c.args.scopes.now c.loop-argument.bindings.items)

pub bind_reference-returns-in_err-bind_arguments : goal.bind_reference-returns-in_err-bind_arguments
bind_reference-returns-in_err-bind_arguments t c =
    let a = reference_fails c.args.scopes.now c.args.reference.now c.as_slice.result.now
    c.args.bindings.now.items c.bind_name.new.bindings.items c.as_slice.ensures.value
    c.in_ok-bind_name.ensures
    (fault_in c.in_err-bind_arguments.field-0.0) c.in_err-bind_arguments.ensures in
    hands_on c.from_residual-in_err-bind_arguments.result c.in_err-bind_arguments.field-0.0
    c.bind_arguments.new.bindings.items _ (search rules) a

pub bind_reference-returns-in-None : goal.bind_reference-returns-in-None
bind_reference-returns-in-None t c =
    member_bound c.args.scopes.now c.args.reference.now c.as_slice.result.now c.args.bindings.now.items
    c.bind_name.new.bindings.items c.as_slice.ensures.value c.in_ok-bind_name.ensures
    c.bind_arguments.new.bindings.items None c.in_ok-bind_arguments.ensures c.in-None.is
    ∙ bound_none c.args.scopes.now c.bind_arguments.new.bindings.items

pub bind_reference-returns-in-Some : goal.bind_reference-returns-in-Some
bind_reference-returns-in-Some t c =
    let a = member_bound c.args.scopes.now c.args.reference.now c.as_slice.result.now
    c.args.bindings.now.items c.bind_name.new.bindings.items c.as_slice.ensures.value
    c.in_ok-bind_name.ensures
    c.bind_arguments.new.bindings.items _ c.in_ok-bind_arguments.ensures c.in-Some.is in
    rw a (rw (← c.deref.ensures, ← c.as_slice-in-Some.ensures.value) c.bind_arguments-in-Some.ensures)

pub bind_expression-returns-in_err-bind_reference-in-Assignment : goal.bind_expression-returns-in_err-bind_reference-in-Assignment
bind_expression-returns-in_err-bind_reference-in-Assignment t c = grind (arith, fails_append)

pub bind_expression-returns-in_err-bind_expression-in-Binary : goal.bind_expression-returns-in_err-bind_expression-in-Binary
bind_expression-returns-in_err-bind_expression-in-Binary t c = grind (arith, fails_append)

pub bind_expression-returns-in_ok-bind_reference-in-Assignment : goal.bind_expression-returns-in_ok-bind_reference-in-Assignment
bind_expression-returns-in_ok-bind_reference-in-Assignment t c = grind (arith, bound_append_ok)

pub bind_expression-returns-in_ok-bind_expression-in-Binary : goal.bind_expression-returns-in_ok-bind_expression-in-Binary
bind_expression-returns-in_ok-bind_expression-in-Binary t c = grind (arith, bound_append_ok)

pub bind_expression-returns-in-Constant : goal.bind_expression-returns-in-Constant
bind_expression-returns-in-Constant t c = grind (arith, bound_none)

pub bind_expression-returns-in-Constant-2 : goal.bind_expression-returns-in-Constant-2
bind_expression-returns-in-Constant-2 t c = grind (arith, bound_none)

pub bind_reference-returns-in_err-bind_name : goal.bind_reference-returns-in_err-bind_name
bind_reference-returns-in_err-bind_name t c = grind (arith, fails_cons, reference_names)
