use Rattle.typed_trees.proofs.Prelude.{◌≡◌, drop, max, min, height_of_arguments, arguments_view}
use Rattle.typed_trees.proofs.charge.+expression.Given as goal

abbrev pub invariant-arguments_height-loop-argument : goal.invariant-arguments_height-loop-argument
invariant-arguments_height-loop-argument l =
    max l.height (min (height_of_arguments (arguments_view (drop l.argument-index l.arguments))) 4294967295)
    ≡ min (height_of_arguments (arguments_view l.arguments)) 4294967295
