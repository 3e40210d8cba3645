-- The heights of lists, item by item.
use Rattle.typed_trees.proofs.Prelude.{◌≡◌, ℕ, ◌+◌, ◌<◌, ◌≤◌, max, List, [], ◌∷◌, length, map, drop, get_or, refl, ap, ◌∙◌, arith, drop_of_length-le, TypedExpression, TypedTarget, TypedStatement, count_of_arguments, height_of, height_of_arguments, height_of_statement, height_of_statements, height_of_target, height_of_targets, arguments_view, expression_view, statement_view, statements_view, target_view, drop_item}

pub arguments_more : (items : List TypedExpression) (i : ℕ) (item : TypedExpression) → i < length items
    → item ≡ get_or items i item
    → height_of_arguments (arguments_view (drop i items))
    ≡ max (height_of (expression_view item)) (height_of_arguments (arguments_view (drop (i + 1) items)))
arguments_more items i item within is =
    drop_item (λ all. height_of_arguments (arguments_view all)) items i item within is

pub arguments_none : (items : List TypedExpression) (i : ℕ) → length items ≤ i
    → height_of_arguments (arguments_view (drop i items)) ≡ 0
arguments_none items i past =
    ap (λ all. height_of_arguments (arguments_view all)) (drop_of_length-le items past)

pub arguments_count : (items : List TypedExpression)
    → count_of_arguments (arguments_view items) ≡ length items
arguments_count [] = refl
arguments_count (first ∷ others) = ap (λ count. 1 + count) (arguments_count others) ∙ omega arith

pub targets_more : (items : List TypedTarget) (i : ℕ) (item : TypedTarget) → i < length items
    → item ≡ get_or items i item
    → height_of_targets (map target_view (drop i items))
    ≡ max (height_of_target (target_view item)) (height_of_targets (map target_view (drop (i + 1) items)))
targets_more items i item within is =
    drop_item (λ all. height_of_targets (map target_view all)) items i item within is

pub targets_none : (items : List TypedTarget) (i : ℕ) → length items ≤ i
    → height_of_targets (map target_view (drop i items)) ≡ 0
targets_none items i past = ap (λ all. height_of_targets (map target_view all)) (drop_of_length-le items past)

pub statements_more : (items : List TypedStatement) (i : ℕ) (item : TypedStatement) → i < length items
    → item ≡ get_or items i item
    → height_of_statements (statements_view (drop i items))
    ≡ max (height_of_statement (statement_view item))
    (height_of_statements (statements_view (drop (i + 1) items)))
statements_more items i item within is =
    drop_item (λ all. height_of_statements (statements_view all)) items i item within is

pub statements_none : (items : List TypedStatement) (i : ℕ) → length items ≤ i
    → height_of_statements (statements_view (drop i items)) ≡ 0
statements_none items i past = ap (λ all. height_of_statements (statements_view all)) (drop_of_length-le items past)
