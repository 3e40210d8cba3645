-- Typed arguments and destinations that stand before others.
use Rattle.std.specs.Prelude.{List, [], ◌∷◌, ◌++◌}
use Rattle.typed_trees.specs.declared.expression.TypedExpression.{TypedExpression as Expression}
use Rattle.typed_trees.specs.TypedTrees.{TypedArguments, MoreArguments}
use Rattle.typed_trees.specs.Views.{expression_view}
use Rattle.typing.specs.Nodes.{Destination}

abbrev pub in_front : List Expression → TypedArguments → TypedArguments
in_front [] others = others
in_front (first ∷ rest) others = MoreArguments (expression_view first) (in_front rest others)

-- destinations after others
abbrev pub after_destinations : {S : Type 0} → List Destination → List Destination × S → List Destination × S
after_destinations made rest = (made ++ rest.0, rest.1)
