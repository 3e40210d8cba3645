use Rattle.names.proofs.Prelude.{◌≡◌, drop, map, element_tree, see_all, see_element, gives}
use Rattle.names.proofs.binder.Binder.elements.Given as goal

abbrev pub invariant-loop-element : goal.invariant-loop-element
invariant-loop-element l =
    gives (see_all see_element (map element_tree (drop l.element-index l.elements))) l.self
    ≡ gives (see_all see_element (map element_tree l.elements)) l.initial.self
