use Rattle.types.proofs.Prelude.{map, refl, rules, element_tree, declare_element, declare_elements, block_view, progress_view, state_goes_on, state_fails, leaves_fault}
use Rattle.types.proofs.checker.Checker.declare_elements.Goals as goal

pub loop-element-preserved : goal.loop-element-preserved
loop-element-preserved c =
    state_goes_on (λ element. declare_element (block_view c.args.block) (element_tree element))
    (λ elements. declare_elements (block_view c.args.block) (map element_tree elements))
    (λ first others state. refl)
    c.args.elements.now c.loop-element.element-index c.element-item.result (progress_view c.loop-element.self)
    (progress_view c.declare_element.new.self) _
    c.loop-element-test.true c.element-item.is c.loop-element.invariant (search rules)

pub returns-in_err-declare_element : goal.returns-in_err-declare_element
returns-in_err-declare_element c =
    leaves_fault c.from_residual.result c.in_err-declare_element.field-0.0
    (progress_view c.declare_element.new.self) _ (search rules)
    (state_fails (λ element. declare_element (block_view c.args.block) (element_tree element))
    (λ elements. declare_elements (block_view c.args.block) (map element_tree elements))
    (λ first others state. refl)
    c.args.elements.now c.loop-element.element-index c.element-item.result
    (progress_view c.loop-element.self) _ _
    c.loop-element-test.true c.element-item.is c.loop-element.invariant c.in_err-declare_element.ensures)
