use Rattle.types.proofs.Prelude.{◌≡◌, drop, map, element_tree, block_view, progress_view}
use Rattle.typing.specs.internal.ItemChecks as checks
use Rattle.types.proofs.checker.Checker.declare_elements.Given as goal

-- the elements that are left decide
abbrev pub invariant-loop-element : goal.invariant-loop-element
invariant-loop-element l =
    checks.declare_elements (block_view l.block) (map element_tree (drop l.element-index l.elements))
    (progress_view l.self)
    ≡ checks.declare_elements (block_view l.block) (map element_tree l.elements)
    (progress_view l.initial.self)
