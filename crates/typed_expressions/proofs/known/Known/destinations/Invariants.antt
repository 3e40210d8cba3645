use Rattle.typed_expressions.proofs.Prelude.{◌≡◌, map, drop, reference_tree, target_trees, destinations, constants_view, destination_view, known_view, after_destinations}
use Rattle.typing.specs.internal.Results.{in_front}
use Rattle.typed_expressions.proofs.known.Known.destinations.Given as goal

abbrev pub invariant-loop-target : goal.invariant-loop-target
invariant-loop-target l =
    in_front (after_destinations (map destination_view l.made.items))
    (destinations (known_view l.self) (map reference_tree (drop l.target-index l.others))
    (constants_view l.constants))
    ≡ destinations (known_view l.self) (target_trees l.first l.others) (constants_view l.fn.constants)
