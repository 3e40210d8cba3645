-- The greatest height of arguments, one after another.
use Rattle.treecode.proofs.Prelude.{◌≡◌, ℕ, suc, ◌+◌, ◌-◌, ◌<◌, max, Option, slice_get, sym, ap, ◌∙◌, arith, ExpressionNumber, Range, Nodes, item_of, height_of_argument, height_of_arguments}

-- an item of a range is found in its table
item_found : (nodes : Nodes) (range : Range) (index : ℕ) → index < range.count
    → item_of nodes.arguments range index ≡ slice_get nodes.arguments (range.first + index)
item_found nodes range index below = grind (arith)

-- the first of the remaining ones, and the others
first_left : (nodes : Nodes) (range : Range) (index : ℕ) → index < range.count
    → height_of_arguments nodes (range.first + index) (range.count - index)
    ≡ max (height_of_argument nodes (item_of nodes.arguments range index))
    (height_of_arguments nodes (range.first + (index + 1)) (range.count - (index + 1)))
first_left nodes range index below =
    let count : range.count - index ≡ suc (range.count - (index + 1)) = omega arith in
    let next : suc (range.first + index) ≡ range.first + (index + 1) = omega arith in
    ap (λ (left : ℕ). height_of_arguments nodes (range.first + index) left) count
    ∙ ap
    (λ (from : ℕ).
    max (height_of_argument nodes (slice_get nodes.arguments (range.first + index)))
    (height_of_arguments nodes from (range.count - (index + 1)))) next
    ∙ ap
    (λ (found : Option ExpressionNumber).
    max (height_of_argument nodes found)
    (height_of_arguments nodes (range.first + (index + 1)) (range.count - (index + 1))))
    (sym (item_found nodes range index below))

-- one more argument is visited
pub highest_next : (nodes : Nodes) (range : Range) (index highest next height all : ℕ)
    (argument : Option ExpressionNumber) → index < range.count
    → argument ≡ item_of nodes.arguments range index
    → height ≡ height_of_argument nodes argument
    → next ≡ max highest height
    → max highest (height_of_arguments nodes (range.first + index) (range.count - index)) ≡ all
    → max next (height_of_arguments nodes (range.first + (index + 1)) (range.count - (index + 1))) ≡ all
highest_next nodes range index highest next height all argument below found is_height is_next before =
    let split : _ = first_left nodes range index below in
    let is_item : _ =
    is_height ∙ ap (λ (one : Option ExpressionNumber). height_of_argument nodes one) found in
    omega arith
