use Rattle.typed_expressions.proofs.Prelude.{◌≡◌, drop, Ok, argument_trees, ◌>>=◌, arguments, in_front, constants_view, known_view}
use Rattle.typed_expressions.proofs.known.Known.+expression.Given as goal

abbrev pub invariant-arguments-loop-tree : goal.invariant-arguments-loop-tree
invariant-arguments-loop-tree l =
    arguments (known_view l.self) (argument_trees l.trees) (constants_view l.initial.constants)
    ≡ (arguments (known_view l.self) (argument_trees (drop l.tree-index l.trees)) (constants_view l.constants)
    >>= λ rest. Ok (in_front l.made.items rest.0, rest.1))
