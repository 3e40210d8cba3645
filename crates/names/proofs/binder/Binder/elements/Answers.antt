use Rattle.names.proofs.Prelude.{List, map, rules, Element, element_tree, see_all, see_element, gives}
use Rattle.names.proofs.Loops.{goes_on, fails_within, loop_ended, hands_on}
use Rattle.names.proofs.BindingWalks.{gives_turn, gives_nothing}
use Rattle.names.proofs.binder.Binder.elements.Goals as goal

pub loop-element-preserved : goal.loop-element-preserved
loop-element-preserved c =
    goes_on
    (λ (element : Element) walk. gives (see_element (element_tree element)) walk)
    (λ (elements : List Element) walk. gives (see_all see_element (map element_tree elements)) walk)
    (λ element elements walk. gives_turn (see_element (element_tree element))
    (see_all see_element (map element_tree elements)) walk)
    c.args.elements.now c.loop-element.element-index c.element-item.result c.loop-element.self
    c.element.new.self _
    c.loop-element-test.true c.element-item.is c.loop-element.invariant c.in_ok-element.ensures

pub returns-in_err-element : goal.returns-in_err-element
returns-in_err-element c =
    hands_on c.from_residual.result c.in_err-element.field-0.0 c.element.new.self _ (search rules)
    (fails_within
    (λ (element : Element) walk. gives (see_element (element_tree element)) walk)
    (λ (elements : List Element) walk. gives (see_all see_element (map element_tree elements)) walk)
    (λ element elements walk. gives_turn (see_element (element_tree element))
    (see_all see_element (map element_tree elements)) walk)
    c.args.elements.now c.loop-element.element-index c.element-item.result c.loop-element.self _ _
    c.loop-element-test.true c.element-item.is c.loop-element.invariant c.in_err-element.ensures)

pub returns : goal.returns
returns c =
    loop_ended
    (λ (element : Element) walk. gives (see_element (element_tree element)) walk)
    (λ (elements : List Element) walk. gives (see_all see_element (map element_tree elements)) walk)
    (λ element elements walk. gives_turn (see_element (element_tree element))
    (see_all see_element (map element_tree elements)) walk)
    c.args.elements.now c.loop-element.element-index c.loop-element.self _ _ c.loop-element-test.false
    c.loop-element.invariant
    (gives_nothing c.loop-element.self)
