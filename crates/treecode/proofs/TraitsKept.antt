-- The traits of nodes follow from their parts, and their numbers rise, when an expression is added with its
-- own traits.
use Rattle.treecode.proofs.Prelude.{◌≡◌, ◌⊎◌, ℕ, zero, suc, ◌<◌, ◌≤◌, List, [], ◌∷◌, ◌++◌, length, Some, slice_get, inl, inr, refl, sym, ap, ◌∙◌, subst, arith, slice_get_within, ScalarType, Expression, ExpressionForm, ExpressionNumber, Nodes, KeepTraits, expression_of, traits_of, PartsAreBelow, NumbersRise, got_before, same_Some}
use Rattle.treecode.specs.declared.expression.ExpressionForm.TheVariants as forms
use Rattle.treecode.proofs.Grown.{nothing_found}
use Rattle.treecode.proofs.SameMemory.{all_same, parts_up}

-- an item of a list with one more is in the list, or is the last one
pub found_or_last : {A : Type 0} (xs : List A) (last x : A) (index : ℕ)
    → slice_get (xs ++ last ∷ []) index ≡ Some x
    → (slice_get xs index ≡ Some x) ⊎ ((index ≡ length xs) × (last ≡ x))
found_or_last [] last x zero e = inr (refl, same_Some _ _ e)
found_or_last [] last x (suc index) e = absurd (nothing_found e)
found_or_last (first ∷ xs) last x zero e = inl e
found_or_last (first ∷ xs) last x (suc index) e =
    elim (found_or_last xs last x index e) [ inl found ↦ inl found | inr is ↦ inr (ap suc is.0, is.1) ]

-- nodes with one more expression
abbrev pub with_expression : Nodes → Expression → Nodes
with_expression nodes expression = record nodes { expressions = nodes.expressions ++ expression ∷ [] }

-- the parts of a form are below the number of the added expression
parts_stay : (nodes : Nodes) (added : Expression) (bound : ℕ) (form : ExpressionForm)
    → PartsAreBelow nodes bound form → PartsAreBelow (with_expression nodes added) bound form
parts_stay nodes added bound (forms.Number number) parts = parts
parts_stay nodes added bound form parts = parts

pub own_scalar : (nodes : Nodes) (scalar : ScalarType) (form : ExpressionForm)
    → (traits_of nodes scalar form).scalar ≡ scalar
unfolding traits_of
own_scalar nodes scalar form = refl

module _ (nodes : Nodes) (scalar : ScalarType) (form : ExpressionForm) (rises : NumbersRise nodes)
    (below : PartsAreBelow nodes (length nodes.expressions) form) where
  -- the traits of a form with parts among the nodes are the same afterwards
  same_after : (of : ScalarType) (one : ExpressionForm) → PartsAreBelow nodes (length nodes.expressions) one
      → traits_of (with_expression nodes (expression_of nodes scalar form)) of one ≡ traits_of nodes of one
  same_after of one parts =
      all_same nodes (with_expression nodes (expression_of nodes scalar form)) (length nodes.expressions) refl
      (λ (number : ℕ) less. got_before nodes.expressions (expression_of nodes scalar form ∷ []) number less)
      (λ (index : ℕ) (number : ExpressionNumber) e. e) rises of one parts

  pub traits_kept : KeepTraits nodes → KeepTraits (with_expression nodes (expression_of nodes scalar form))
  traits_kept keeps number expression e =
      elim (found_or_last nodes.expressions (expression_of nodes scalar form) expression number e)
      [ inl found ↦ old found | inr is ↦ new is.1 ]
    where
      old : slice_get nodes.expressions number ≡ Some expression
          → expression.traits
          ≡ traits_of (with_expression nodes
          (expression_of nodes scalar form)) expression.traits.scalar expression.form
      old found =
          keeps number expression found
          ∙ sym
          (same_after expression.traits.scalar expression.form
          (parts_up nodes number (length nodes.expressions) (up
          (slice_get_within nodes.expressions number expression found))
          expression.form (rises number expression found)))
        where
          up : number < length nodes.expressions → number ≤ length nodes.expressions
          up less = omega arith

      is_own : (expression_of nodes scalar form).traits
          ≡ traits_of (with_expression nodes (expression_of nodes scalar form))
          (expression_of nodes scalar form).traits.scalar form
      is_own =
          sym (same_after scalar form below)
          ∙ ap (λ (of : ScalarType). traits_of (with_expression nodes
          (expression_of nodes scalar form)) of form)
          (sym (own_scalar nodes scalar form))

      new : expression_of nodes scalar form ≡ expression
          → expression.traits
          ≡ traits_of (with_expression nodes
          (expression_of nodes scalar form)) expression.traits.scalar expression.form
      new is =
          subst
          (λ (one : Expression).
          one.traits
          ≡ traits_of (with_expression nodes (expression_of nodes scalar form)) one.traits.scalar one.form) is
          is_own

  pub numbers_rise : NumbersRise (with_expression nodes (expression_of nodes scalar form))
  numbers_rise number expression e =
      elim (found_or_last nodes.expressions (expression_of nodes scalar form) expression number e) [
        | inl found ↦ parts_stay nodes (expression_of nodes scalar form) number expression.form
            (rises number expression found)
        | inr is ↦ subst
            (λ (one : Expression).
            PartsAreBelow (with_expression nodes (expression_of nodes scalar form)) number one.form) is.1
            (subst
            (λ (bound : ℕ). PartsAreBelow (with_expression nodes (expression_of nodes scalar form)) bound
            form)
            (sym is.0)
            (parts_stay nodes (expression_of nodes scalar form) (length nodes.expressions) form below))
      ]
