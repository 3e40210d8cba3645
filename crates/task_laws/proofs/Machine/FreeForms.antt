-- Free expressions: a number is free, and a free expression in memory is quiet.
use Rattle.task_laws.proofs.Prelude.{◌≡◌, ℕ, ◌+◌, ◌%◌, true, false, Option, Some, None, refl, sym, ap, ◌∙◌, is_some, slice_get, option_and_then, option_map_or, ScalarType, Byte, Address, TypedExpression, TypedReference, Storage, node_traits, Expression, ExpressionForm, ExpressionNumber, Place, Code, Data, External, Number, Reference, Traits, number_of_place, known_number, IsExpression, IsForm, IsNode, IsPart, IsReference, IsValue, Nodes, home_at, KeepTraits, byte_after, distance_of, free_at, is_direct, is_free_form, is_free_of, is_quiet_form, known_of, number_at, place_of_reference, quiet_at, traits_of, and_from, false≢true, UnaryFunction, HighByte, byte_taken}
use Rattle.treecode.proofs.TakenBytes.{memory_of_high}
use Rattle.treecode.specs.declared.expression.ExpressionForm.TheVariants as forms
use Rattle.task_laws.proofs.Machine.KeptCode.{index_known_quiet, known_of_entry, known_quiet, part_known_quiet, place_known, quiet_of_entry}

-- a known number
number_of : (found : Option Place) → is_some (known_number found) ≡ true → (place : Place)
    × (found ≡ Some place) × (is_some (number_of_place place) ≡ true)
number_of (Some (Number n)) is = (Number n, refl, refl)
number_of (Some (Code offset)) is = absurd (false≢true is)
number_of (Some (Data offset)) is = absurd (false≢true is)
number_of (Some (External offset name)) is = absurd (false≢true is)
number_of None is = absurd (false≢true is)

module _ (nodes : Nodes) (storage : Storage) (keeps : KeepTraits nodes) where
  pub free_of_entry : (number : ℕ) (expression : Expression) → slice_get nodes.expressions number ≡ Some
      expression
      → free_at nodes (record { index = number })
      ≡ is_free_of nodes expression.traits.scalar (known_of nodes expression.traits.scalar expression.form)
      expression.form
  unfolding traits_of
  free_of_entry number expression at =
      ap (λ (traits : Traits). traits.is_free) (node_traits nodes number expression keeps at)

  -- a number is free
  pub number_is_free :
      {bound number : ℕ} {tree : TypedExpression}
      → IsExpression nodes storage bound number tree
      → is_some (number_at nodes (record { index = number })) ≡ true
      → free_at nodes (record { index = number }) ≡ true
  number_is_free (IsNode {number = number} {expression = expression} below at scalar form) some =
      let known = number_of (known_of nodes expression.traits.scalar expression.form)
      (ap (λ (found : Option Place). is_some (known_number found))
      (sym (known_of_entry nodes storage keeps number expression at)) ∙ some) in
      free_of_entry number expression at
      ∙ ap (λ (found : Option Place). is_free_of nodes expression.traits.scalar found expression.form) known.1
      ∙ known.2

  -- a free node that is not quiet is not known, so its form is free
  pub not_known :
      {bound number : ℕ} {tree : TypedExpression} (expression : Expression)
      → IsExpression nodes storage bound number tree
      → slice_get nodes.expressions number ≡ Some expression
      → quiet_at nodes (record { index = number }) ≡ false
      → free_at nodes (record { index = number }) ≡ true
      → is_free_form nodes expression.traits.scalar expression.form ≡ true
  not_known {number = number} expression node at loud free =
      by (known_of nodes expression.traits.scalar expression.form) refl
    where
      by : (found : Option Place) → known_of nodes expression.traits.scalar expression.form ≡ found
          → is_free_form nodes expression.traits.scalar expression.form ≡ true
      by (Some place) is =
          (absurd (false≢true (sym loud ∙ known_quiet nodes storage keeps node
          (ap (λ (found : Option Place). is_some found)
          (known_of_entry nodes storage keeps number expression at ∙ is)))))
      by None is =
          sym (ap (λ (found : Option Place). is_free_of nodes expression.traits.scalar found expression.form)
          is)
          ∙ sym (free_of_entry number expression at) ∙ free

  -- a value at a known place in memory
  pub value_is_quiet :
      {bound : ℕ} {reference : Reference} {part : TypedReference}
      → IsReference nodes storage bound reference part
      → is_direct nodes (forms.Value reference) ≡ true
      → is_quiet_form nodes (forms.Value reference) ≡ true
  value_is_quiet part direct = part_known_quiet nodes storage keeps part direct

  -- and the high byte of one
  after_is_quiet :
      {bound : ℕ} (scalar : ScalarType) (form : ExpressionForm) (tree : TypedExpression)
      → IsForm nodes storage bound form tree
      → option_map_or (λ (reference : Reference). is_some (place_of_reference nodes reference))
      (byte_after scalar form) false ≡ true
      → is_quiet_form nodes form ≡ true
  after_is_quiet Address _ tree
      (IsValue (IsPart {object = object} {offset = offset} {first = first} {second = second} one two))
      direct =
      let both =
      place_known (home_at nodes.homes object) ((offset % 65536 + 1) % 65536) (distance_of nodes first)
      (distance_of nodes second) direct in
      and_from _ _ (index_known_quiet nodes storage keeps one both.0)
      (index_known_quiet nodes storage keeps two both.1)
  after_is_quiet Address _ tree other direct = absurd (false≢true direct)
  after_is_quiet Byte _ tree other direct = absurd (false≢true direct)

  pub high_is_quiet :
      {bound : ℕ} {operand : ExpressionNumber} {tree : TypedExpression}
      (function : UnaryFunction) → byte_taken function ≡ HighByte
      → IsExpression nodes storage bound operand.index tree
      → is_direct nodes (forms.Function function operand) ≡ true
      → quiet_at nodes operand ≡ true
  high_is_quiet {operand = operand} function high
      (IsNode {tree = tree} {expression = expression} below at scalar form) direct =
      quiet_of_entry nodes storage keeps operand.index expression at
      ∙ after_is_quiet expression.traits.scalar expression.form tree form
      (sym (ap (λ (found : Option Expression). option_map_or
      (λ (reference : Reference). is_some (place_of_reference nodes reference))
      (option_and_then (λ (one : Expression). byte_after one.traits.scalar one.form) found) false) at)
      ∙ ap (λ (found : Option Reference). option_map_or
      (λ (reference : Reference). is_some (place_of_reference nodes reference)) found false)
      (sym (memory_of_high nodes function operand high))
      ∙ direct)
