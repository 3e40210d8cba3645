use Rattle.typed_expressions.proofs.Prelude.{◌≡◌, ◌+◌, map, drop, restricted_tree, elements_enough}
use Rattle.typed_expressions.proofs.filling.enough_elements.Given as goal

abbrev pub invariant-loop-value : goal.invariant-loop-value
invariant-loop-value l =
    l.count + elements_enough (map restricted_tree (drop l.value-index l.values))
    ≡ elements_enough (map restricted_tree l.values)
