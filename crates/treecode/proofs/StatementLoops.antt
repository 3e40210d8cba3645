-- Targets and statements in a row, one by one.
use Rattle.treecode.proofs.Prelude.{◌≡◌, ℕ, ◌+◌, ◌<◌, ◌≤◌, Bool, List, [], ◌∷◌, ◌++◌, length, map, drop, get_or, ap, sym, ◌∙◌, append_assoc, append-nil, statement_view, statements_view, target_view, Storage, Target, StatementNumber, AddedStatement, target_in, with_both, with_item, Items, Walk, goal_with, goals_in, items_after, items_in, statement_in, drop_item, at_drop_all}
use Rattle.typed_trees.specs.{declared.expression.TypedTarget.{TypedTarget}, declared.statement.TypedStatement.{TypedStatement}}

-- targets after others
abbrev pub after_targets : List Target → List Target → List Target
after_targets before more = before ++ more

module _ (storage : Storage) (walk : Walk) (added : List Target) (total : Walk × List Target)
    (targets : List TypedTarget) (i : ℕ)
    (rest : with_item (after_targets added) (goals_in storage walk (map target_view (drop i targets)))
    ≡ total) where
  pub goal_added : (target : TypedTarget) (now : Walk) (one : Target) (pushed : List Target)
      → i < length targets → target ≡ get_or targets i target
      → goal_with walk (target_in storage walk.nodes (target_view target)) ≡ (now, one)
      → pushed ≡ added ++ one ∷ []
      → with_item (after_targets pushed) (goals_in storage now (map target_view (drop (i + 1) targets)))
      ≡ total
  goal_added target now one pushed within is given push =
      ap (λ (all : List Target). with_item (after_targets all) left) push
      ∙ ap (λ (more : List Target). (left.0, more)) (append_assoc added (one ∷ []) left.1)
      ∙ sym (ap (λ (made : Walk × Target). with_item (after_targets added)
      (with_both (λ first more. first ∷ more) made
      (λ (given : Walk). goals_in storage given (map target_view (drop (i + 1) targets))))) given)
      ∙ sym (drop_item (λ all. with_item (after_targets added) (goals_in storage walk (map target_view all)))
      targets i target within is)
      ∙ rest
    where
      left : Walk × List Target
      left = goals_in storage now (map target_view (drop (i + 1) targets))

  pub goals_all_added : length targets ≤ i → (walk, added) ≡ total
  goals_all_added past =
      ap (λ (all : List Target). (walk, all)) (sym (append-nil added))
      ∙ sym (at_drop_all (λ all. with_item (after_targets added)
      (goals_in storage walk (map target_view all)))
      targets i past)
      ∙ rest

module _ (storage : Storage) (walk : Walk) (ends : Bool) (numbers : List StatementNumber)
    (total : Walk × Items)
    (statements : List TypedStatement) (i : ℕ)
    (rest : with_item (items_after numbers) (items_in storage walk ends (statements_view (drop i statements)))
    ≡ total) where
  pub item_added : (statement : TypedStatement) (now : Walk) (added : AddedStatement)
      (pushed : List StatementNumber)
      → i < length statements → statement ≡ get_or statements i statement
      → statement_in storage walk (statement_view statement) ≡ (now, added)
      → pushed ≡ numbers ++ added.number ∷ []
      → with_item (items_after pushed)
      (items_in storage now added.reaches_its_end (statements_view (drop (i + 1) statements))) ≡ total
  item_added statement now added pushed within is given push =
      ap (λ (all : List StatementNumber). with_item (items_after all) left) push
      ∙ ap (λ (more : List StatementNumber). (left.0, record (left.1) { numbers = more }))
      (append_assoc numbers (added.number ∷ []) (left.1).numbers)
      ∙ sym (ap (λ (made : Walk × AddedStatement). with_item (items_after numbers)
      (with_item (items_after ((made.1).number ∷ []))
      (items_in storage made.0 (made.1).reaches_its_end (statements_view (drop (i + 1) statements))))) given)
      ∙ sym (drop_item (λ all. with_item (items_after numbers)
      (items_in storage walk ends (statements_view all)))
      statements i statement within is)
      ∙ rest
    where
      left : Walk × Items
      left = items_in storage now added.reaches_its_end (statements_view (drop (i + 1) statements))

  pub items_all_added : length statements ≤ i
      → (walk, record { numbers = numbers; reaches_its_end = ends }) ≡ total
  items_all_added past =
      ap (λ (all : List StatementNumber). (walk, record { numbers = all; reaches_its_end = ends }))
      (sym (append-nil numbers))
      ∙ sym (at_drop_all (λ all. with_item (items_after numbers) (items_in storage walk ends (statements_view all)))
      statements i past)
      ∙ rest
