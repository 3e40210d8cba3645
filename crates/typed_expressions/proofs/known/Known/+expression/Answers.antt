use Rattle.typed_expressions.proofs.Prelude.{constants_view, known_view, rules, fault_in}
use Rattle.typed_expressions.proofs.ArgumentLoops.{goes_on, argument_fails, arguments_ended}
use Rattle.typed_expressions.proofs.GivenParts.{given_is}
use Rattle.typed_expressions.proofs.known.Known.+expression.Goals as goal

pub arguments-loop-tree-preserved : goal.arguments-loop-tree-preserved
arguments-loop-tree-preserved t c =
    rw c.in_ok-push.ensures.items
    (goes_on (known_view c.args.self.now) c.args.trees.now c.loop-tree.tree-index c.tree-item.result
    c.loop-tree.made.items (constants_view c.loop-tree.constants) _
    c.loop-tree-test.true c.tree-item.is c.loop-tree.invariant c.in_ok-argument.argument
    (constants_view c.expression.new.constants) c.in_ok-argument.ensures)

pub arguments-returns : goal.arguments-returns
arguments-returns t c =
    arguments_ended (known_view c.args.self.now) c.args.trees.now c.loop-tree.tree-index
    c.loop-tree.made.items (constants_view c.loop-tree.constants) _
    c.loop-tree-test.false c.loop-tree.invariant

pub expression-returns-in-Reference : goal.expression-returns-in-Reference
expression-returns-in-Reference t c =
    rw c.in-Reference.is (rw (given_is c.args.self.now c.in-Reference.reference.value) (search rules))

pub expression-returns-in-Location : goal.expression-returns-in-Location
expression-returns-in-Location t c =
    rw c.in-Location.is (rw (given_is c.args.self.now c.in-Location.reference.value) (search rules))

pub expression-returns-in_err-destination-in-Assignment : goal.expression-returns-in_err-destination-in-Assignment
expression-returns-in_err-destination-in-Assignment t c = search (rules, given_is)

pub expression-returns-in_err-value-in-Assignment : goal.expression-returns-in_err-value-in-Assignment
expression-returns-in_err-value-in-Assignment t c = search (rules, given_is)

pub expression-returns-in_ok-value-in-Assignment : goal.expression-returns-in_ok-value-in-Assignment
expression-returns-in_ok-value-in-Assignment t c = search (rules, given_is)

pub arguments-returns-in_err-argument : goal.arguments-returns-in_err-argument
arguments-returns-in_err-argument t c =
    let failed =
    argument_fails (known_view c.args.self.now) c.args.trees.now c.loop-tree.tree-index c.tree-item.result
    c.loop-tree.made.items (constants_view c.loop-tree.constants) _
    (fault_in c.in_err-argument.field-0.0) c.loop-tree-test.true c.tree-item.is c.loop-tree.invariant
    c.in_err-argument.ensures in
    search rules
