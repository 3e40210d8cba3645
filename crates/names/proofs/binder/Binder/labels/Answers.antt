use Rattle.names.proofs.Prelude.{List, rules, Identifier, see_all, declares_label, gives}
use Rattle.names.proofs.Loops.{goes_on, fails_within, loop_ended, hands_on}
use Rattle.names.proofs.BindingWalks.{gives_turn, gives_nothing}
use Rattle.names.proofs.binder.Binder.labels.Goals as goal

pub loop-name-preserved : goal.loop-name-preserved
loop-name-preserved c =
    goes_on
    (λ (name : Identifier) walk. gives (declares_label name) walk)
    (λ (names : List Identifier) walk. gives (see_all declares_label names) walk)
    (λ name names walk. gives_turn (declares_label name) (see_all declares_label names) walk)
    c.args.names.now c.loop-name.name-index c.name-item.result c.loop-name.self c.label.new.self _
    c.loop-name-test.true c.name-item.is c.loop-name.invariant c.in_ok-label.ensures

pub returns-in_err-label : goal.returns-in_err-label
returns-in_err-label c =
    hands_on c.from_residual.result c.in_err-label.field-0.0 c.label.new.self _ (search rules)
    (fails_within
    (λ (name : Identifier) walk. gives (declares_label name) walk)
    (λ (names : List Identifier) walk. gives (see_all declares_label names) walk)
    (λ name names walk. gives_turn (declares_label name) (see_all declares_label names) walk)
    c.args.names.now c.loop-name.name-index c.name-item.result c.loop-name.self _ _
    c.loop-name-test.true c.name-item.is c.loop-name.invariant c.in_err-label.ensures)

pub returns : goal.returns
returns c =
    loop_ended
    (λ (name : Identifier) walk. gives (declares_label name) walk)
    (λ (names : List Identifier) walk. gives (see_all declares_label names) walk)
    (λ name names walk. gives_turn (declares_label name) (see_all declares_label names) walk)
    c.args.names.now c.loop-name.name-index c.loop-name.self _ _ c.loop-name-test.false c.loop-name.invariant
    (gives_nothing c.loop-name.self)
