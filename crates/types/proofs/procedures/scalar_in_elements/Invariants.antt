use Rattle.types.proofs.Prelude.{◌≡◌, drop, map, element_tree, scalar_in_elements}
use Rattle.types.proofs.procedures.scalar_in_elements.Given as goal

abbrev pub invariant-loop-element : goal.invariant-loop-element
invariant-loop-element l =
    scalar_in_elements (map element_tree (drop l.element-index l.elements)) l.name
    ≡ scalar_in_elements (map element_tree l.elements) l.name
