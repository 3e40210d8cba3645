-- Lists of arguments.
use Rattle.syntax.proofs.Prelude.{◌≡◌, max, List, [], ◌∷◌, ◌++◌, map, refl, arith, Expression, expression_height, arguments_height, expression_tree, argument_trees, arguments_of}

-- one more argument
pub arguments_height_push : (items : List Expression) (next : Expression)
    → arguments_height (argument_trees (items ++ next ∷ []))
    ≡ max (arguments_height (argument_trees items)) (expression_height (expression_tree next))
arguments_height_push [] next = omega arith
arguments_height_push (first ∷ items) next = omega (arith, arguments_height_push items next)

-- the trees of arguments, as a list
pub arguments_of_map : (items : List Expression)
    → arguments_of (map expression_tree items) ≡ argument_trees items
arguments_of_map [] = refl
arguments_of_map (first ∷ items) = rw (arguments_of_map items) refl
