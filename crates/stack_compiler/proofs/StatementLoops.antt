-- The code of targets and of statements, one by one.
use Rattle.stack_compiler.proofs.Prelude.{◌≡◌, ℕ, suc, ◌+◌, ◌<◌, ◌≤◌, List, [], ◌∷◌, ◌++◌, length, map, drop, get_or, ap, refl, sym, ◌∙◌, append_assoc, append-nil, TypedTarget, TypedStatement, statement_view, statements_view, target_view, Instruction, Site, count_of_statements, statement_code, statements_code, target_code, targets_code, drop_item, at_drop_all}

pub statements_count : (items : List TypedStatement)
    → count_of_statements (statements_view items) ≡ length items
statements_count [] = refl
statements_count (first ∷ others) = ap suc (statements_count others)

module _ (site : Site) (made total : List Instruction) (targets : List TypedTarget) (i : ℕ)
    (rest : made ++ targets_code site (map target_view (drop i targets)) ≡ total) where
  pub target_emitted : (target : TypedTarget) (now : List Instruction) → i < length targets
      → target ≡ get_or targets i target
      → now ≡ made ++ target_code site (target_view target)
      → now ++ targets_code site (map target_view (drop (i + 1) targets)) ≡ total
  target_emitted target now within is given =
      ap (λ code. code ++ targets_code site (map target_view (drop (i + 1) targets))) given
      ∙ append_assoc made (target_code site (target_view target))
      (targets_code site (map target_view (drop (i + 1) targets)))
      ∙ sym (drop_item (λ left. made ++ targets_code site (map target_view left)) targets i target within is)
      ∙ rest

  pub targets_emitted : length targets ≤ i → made ≡ total
  targets_emitted past =
      sym (append-nil made)
      ∙ sym (at_drop_all (λ left. made ++ targets_code site (map target_view left)) targets i past) ∙ rest

module _ (site : Site) (made total : List Instruction) (statements : List TypedStatement) (i : ℕ)
    (rest : made ++ statements_code site (statements_view (drop i statements)) ≡ total) where
  pub statement_emitted : (statement : TypedStatement) (now : List Instruction) → i < length statements
      → statement ≡ get_or statements i statement
      → now ≡ made ++ statement_code site (statement_view statement)
      → now ++ statements_code site (statements_view (drop (i + 1) statements)) ≡ total
  statement_emitted statement now within is given =
      ap (λ code. code ++ statements_code site (statements_view (drop (i + 1) statements))) given
      ∙ append_assoc made (statement_code site (statement_view statement))
      (statements_code site (statements_view (drop (i + 1) statements)))
      ∙ sym (drop_item (λ left. made ++ statements_code site (statements_view left)) statements i
      statement within is)
      ∙ rest

  pub statements_emitted : length statements ≤ i → made ≡ total
  statements_emitted past =
      sym (append-nil made) ∙ sym (at_drop_all (λ left. made ++ statements_code site (statements_view left)) statements i past) ∙ rest
