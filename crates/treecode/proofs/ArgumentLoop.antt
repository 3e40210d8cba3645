-- The arguments of a call, one by one.
use Rattle.treecode.proofs.Prelude.{◌≡◌, ℕ, ◌+◌, ◌<◌, ◌≤◌, List, [], ◌∷◌, ◌++◌, length, drop, get_or, ap, sym, ◌∙◌, append_assoc, append-nil, arguments_view, expression_view, Storage, ExpressionNumber, Nodes, expression_in, numbers_in, with_both, with_item, drop_item, at_drop_all}
use Rattle.typed_trees.specs.declared.expression.TypedExpression.{TypedExpression}

-- numbers after others
abbrev pub after_numbers : List ExpressionNumber → List ExpressionNumber → List ExpressionNumber
after_numbers before more = before ++ more

module _ (storage : Storage) (nodes : Nodes) (numbers : List ExpressionNumber)
    (total : Nodes × List ExpressionNumber) (arguments : List TypedExpression) (i : ℕ)
    (rest : with_item (after_numbers numbers) (numbers_in storage nodes (arguments_view (drop i arguments)))
    ≡ total) where
  pub argument_added : (argument : TypedExpression) (now : Nodes) (number : ExpressionNumber)
      (pushed : List ExpressionNumber)
      → i < length arguments → argument ≡ get_or arguments i argument
      → expression_in storage nodes (expression_view argument) ≡ (now, number)
      → pushed ≡ numbers ++ number ∷ []
      → with_item (after_numbers pushed)
      (numbers_in storage now (arguments_view (drop (i + 1) arguments))) ≡ total
  argument_added argument now number pushed within is given push =
      ap (λ (all : List ExpressionNumber). with_item (after_numbers all) left) push
      ∙ ap (λ (more : List ExpressionNumber). (left.0, more)) (append_assoc numbers (number ∷ []) left.1)
      ∙ sym (ap (λ (made : Nodes × ExpressionNumber). with_item (after_numbers numbers)
      (with_both (λ one more. one ∷ more) made
      (λ (given : Nodes). numbers_in storage given (arguments_view (drop (i + 1) arguments))))) given)
      ∙ sym (drop_item (λ all. with_item (after_numbers numbers)
      (numbers_in storage nodes (arguments_view all)))
      arguments i argument within is)
      ∙ rest
    where
      left : Nodes × List ExpressionNumber
      left = numbers_in storage now (arguments_view (drop (i + 1) arguments))

  pub arguments_all_added : length arguments ≤ i → (nodes, numbers) ≡ total
  arguments_all_added past =
      ap (λ (all : List ExpressionNumber). (nodes, all)) (sym (append-nil numbers))
      ∙ sym (at_drop_all (λ all. with_item (after_numbers numbers) (numbers_in storage nodes (arguments_view all)))
      arguments i past)
      ∙ rest
