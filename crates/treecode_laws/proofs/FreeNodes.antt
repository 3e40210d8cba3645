-- Known and free nodes store nothing.
use Rattle.treecode_laws.proofs.Prelude.{◌≡◌, ◌⊎◌, inl, inr, ℕ, ◌+◌, ◌%◌, true, false, Option, Some, None, is_some, option_map, slice_get, refl, sym, ap, ◌∙◌, option_map_or, option_and_then, and_from, and_parts, ScalarType, Byte, Address, UnaryFunction, HighByte, byte_taken, TypedExpression, TypedReference, Subscript, Storage, Expression, ExpressionForm, ExpressionNumber, Home, Place, Reference, IndexNode, Traits, place_of_part, IsExpression, IsNode, IsForm, IsNumber, IsValue, IsLocation, IsConstantList, IsConversion, IsEmbedded, IsUnary, IsBinary, IsCallOf, IsFunction, IsShift, IsInput, IsReference, IsPart, IsSubscript, IsAbsent, IsIndex, Nodes, home_at, KeepTraits, byte_after, distance_of, free_at, has_immediate, is_direct, is_free_form, is_free_of, is_free_with, is_of_low_byte, known_at, known_of, number_at, place_of_reference, traits_of, node_traits, stores_nothing, part_stores_nothing, index_stores_nothing, false≢true, known_of_node}
use Rattle.trees.proofs.TakenBytes.{by_byte}
use Rattle.treecode.specs.declared.expression.ExpressionForm.TheVariants as forms
use Rattle.treecode.proofs.TakenBytes.{memory_of_high}
use Rattle.treecode.specs.declared.place.Home.TheVariants as homes

-- a result that depends on a value is there only if the value is
pub from_value : {A B : Type 0} (go : A → Option B) (value : Option A)
    → is_some (option_and_then go value) ≡ true → is_some value ≡ true
from_value go (Some value) is = refl
from_value go None is = absurd (false≢true is)

pub from_number : {A B : Type 0} (go : A → B) (value : Option A)
    → is_some (option_map go value) ≡ true → is_some value ≡ true
from_number go (Some value) is = refl
from_number go None is = absurd (false≢true is)

-- both of two values
from_both : {A B C : Type 0} (go : A → B → Option C) (one : Option A) (other : Option B)
    → is_some (option_and_then (λ a. option_and_then (go a) other) one) ≡ true
    → (is_some one ≡ true) × (is_some other ≡ true)
from_both go (Some one) other is = (refl, from_value (go one) other is)
from_both go None other is = absurd (false≢true is)

from_numbers : {A B C : Type 0} (go : A → B → C) (one : Option A) (other : Option B)
    → is_some (option_and_then (λ a. option_map (go a) other) one) ≡ true
    → (is_some one ≡ true) × (is_some other ≡ true)
from_numbers go (Some one) other is = (refl, from_number (go one) other is)
from_numbers go None other is = absurd (false≢true is)

-- the place of a part of an object is known only if its subscripts are known
from_part : (home : Home) (offset : ℕ) (one other : Option ℕ)
    → is_some (place_of_part home offset one other) ≡ true
    → (is_some one ≡ true) × (is_some other ≡ true)
from_part (homes.Static place) offset one other is = from_numbers _ one other is
from_part (homes.Based base) offset one other is = absurd (false≢true is)
from_part (homes.Frame variable) offset one other is = absurd (false≢true is)

free_of_node : (nodes : Nodes) (number : ℕ) (expression : Expression) → KeepTraits nodes
    → slice_get nodes.expressions number ≡ Some expression
    → free_at nodes (record { index = number })
    ≡ is_free_of nodes expression.traits.scalar (known_of nodes expression.traits.scalar expression.form)
    expression.form
unfolding traits_of
free_of_node nodes number expression keeps at =
    ap (λ (traits : Traits). traits.is_free) (node_traits nodes number expression keeps at)

module _ (nodes : Nodes) (storage : Storage) (keeps : KeepTraits nodes) where
  subscripts_known : (reference : Reference) → is_some (place_of_reference nodes reference) ≡ true
      → (is_some (distance_of nodes reference.subscript) ≡ true)
      × (is_some (distance_of nodes reference.member_subscript) ≡ true)
  subscripts_known reference known =
      from_part (home_at nodes.homes reference.object) reference.offset
      (distance_of nodes reference.subscript) (distance_of nodes reference.member_subscript) known

  mutual
    -- a node with a known value stores nothing
    pub known_stores_nothing : {bound number : ℕ} {tree : TypedExpression}
        → IsExpression nodes storage bound number tree
        → is_some (known_at nodes (record { index = number })) ≡ true
        → stores_nothing tree ≡ true
    known_stores_nothing (IsNode {number = number} {expression = expression} below at scalar form) known =
        known_form form expression.traits.scalar
        (sym (ap (λ (place : Option Place). is_some place) (known_of_node nodes number expression keeps at))
        ∙ known)

    known_form : {bound : ℕ} {form : ExpressionForm} {tree : TypedExpression}
        → IsForm nodes storage bound form tree
        → (scalar : ScalarType) → is_some (known_of nodes scalar form) ≡ true
        → stores_nothing tree ≡ true
    known_form IsNumber scalar known = refl
    known_form (IsValue reference) scalar known = absurd (false≢true known)
    known_form (IsLocation part) scalar known = parts_store part (subscripts_known _ known)
    known_form IsConstantList scalar known = refl
    known_form (IsConversion {inner = inner} tree) scalar known =
        known_stores_nothing tree (from_value _ (known_at nodes inner) known)
    known_form (IsEmbedded target value) scalar known = absurd (false≢true known)
    known_form (IsUnary {operand = operand} tree) scalar known =
        known_stores_nothing tree
        (from_value _ (known_at nodes operand) (from_number _ (number_at nodes operand) known))
    known_form (IsBinary {left = left} {right = right} first second) scalar known =
        let parts : _ = from_both _ (known_at nodes left) (known_at nodes right) known in
        and_from _ _ (known_stores_nothing first parts.0) (known_stores_nothing second parts.1)
    known_form (IsCallOf given) scalar known = absurd (false≢true known)
    known_form (IsFunction {operand = operand} tree) scalar known =
        known_stores_nothing tree (from_value _ (known_at nodes operand) known)
    known_form (IsShift {value = value} {count = count} first second) scalar known =
        let parts : _ = from_numbers _ (number_at nodes value) (number_at nodes count) known in
        and_from _ _ (known_stores_nothing first (from_value _ (known_at nodes value) parts.0))
        (known_stores_nothing second (from_value _ (known_at nodes count) parts.1))
    known_form IsInput scalar known = absurd (false≢true known)

    -- known subscripts store nothing
    parts_store : {bound : ℕ} {reference : Reference} {part : TypedReference}
        → IsReference nodes storage bound reference part
        → (is_some (distance_of nodes reference.subscript) ≡ true)
        × (is_some (distance_of nodes reference.member_subscript) ≡ true)
        → part_stores_nothing part ≡ true
    parts_store (IsPart first second) known =
        and_from _ _ (known_index first known.0) (known_index second known.1)

    known_index : {bound : ℕ} {index : Option IndexNode} {subscript : Subscript}
        → IsSubscript nodes storage bound index subscript
        → is_some (distance_of nodes index) ≡ true
        → index_stores_nothing subscript ≡ true
    known_index IsAbsent known = refl
    known_index (IsIndex {number = number} tree) known =
        known_stores_nothing tree
        (from_value _ (known_at nodes number) (from_number _ (number_at nodes number) known))

  -- the high byte of a part of memory at a known place
  high_in_place : {bound : ℕ} {form : ExpressionForm} {tree : TypedExpression} (scalar : ScalarType)
      → IsForm nodes storage bound form tree
      → option_map_or (λ (reference : Reference). is_some (place_of_reference nodes reference))
      (byte_after scalar form) false
      ≡ true
      → stores_nothing tree ≡ true
  high_in_place Address (IsValue {reference = reference} part) direct =
      parts_store part
      (subscripts_known (record reference { offset = (reference.offset + 1) % 65536 }) direct)
  high_in_place Byte form direct = absurd (false≢true direct)
  high_in_place Address IsNumber direct = refl
  high_in_place Address (IsLocation part) direct = absurd (false≢true direct)
  high_in_place Address IsConstantList direct = refl
  high_in_place Address (IsConversion tree) direct = absurd (false≢true direct)
  high_in_place Address (IsEmbedded target value) direct = absurd (false≢true direct)
  high_in_place Address (IsUnary tree) direct = absurd (false≢true direct)
  high_in_place Address (IsBinary first second) direct = absurd (false≢true direct)
  high_in_place Address (IsCallOf given) direct = absurd (false≢true direct)
  high_in_place Address (IsFunction tree) direct = absurd (false≢true direct)
  high_in_place Address (IsShift first second) direct = absurd (false≢true direct)
  high_in_place Address IsInput direct = refl

  high_stores_nothing : {bound : ℕ} {operand : ExpressionNumber} {tree : TypedExpression}
      (function : UnaryFunction) → byte_taken function ≡ HighByte
      → IsExpression nodes storage bound operand.index tree
      → is_direct nodes (forms.Function function operand) ≡ true
      → stores_nothing tree ≡ true
  high_stores_nothing {operand = operand} function high
      (IsNode {expression = expression} below at scalar form) direct =
      high_in_place expression.traits.scalar form
      (ap
      (λ (found : Option Expression).
      option_map_or (λ (reference : Reference). is_some (place_of_reference nodes reference))
      (option_and_then (λ (one : Expression). byte_after one.traits.scalar one.form) found) false)
      (sym at)
      ∙ ap
      (λ (found : Option Reference).
      option_map_or (λ (reference : Reference). is_some (place_of_reference nodes reference)) found false)
      (sym (memory_of_high nodes function operand high))
      ∙ direct)

  -- a free node is known, or its form is free
  known_or_free : (scalar : ScalarType) (form : ExpressionForm) (known : Option Place)
      → known_of nodes scalar form ≡ known
      → is_free_of nodes scalar known form ≡ true
      → (is_some (known_of nodes scalar form) ≡ true) ⊎ (is_free_form nodes scalar form ≡ true)
  known_or_free scalar form (Some place) is free = inl (ap (λ (known : Option Place). is_some known) is)
  known_or_free scalar form None is free = inr free

  mutual
    -- a node with a low byte that code puts into A by changing only A and the flags stores nothing
    pub free_stores_nothing : {bound number : ℕ} {tree : TypedExpression}
        → IsExpression nodes storage bound number tree
        → free_at nodes (record { index = number }) ≡ true
        → stores_nothing tree ≡ true
    free_stores_nothing (IsNode {number = number} {expression = expression} below at scalar form) free =
        elim
        (known_or_free expression.traits.scalar expression.form
        (known_of nodes expression.traits.scalar expression.form) refl
        (sym (free_of_node nodes number expression keeps at) ∙ free)) [
          | inl known ↦ known_form form expression.traits.scalar known
          | inr by_form ↦ free_form form expression.traits.scalar by_form
        ]

    free_form : {bound : ℕ} {form : ExpressionForm} {tree : TypedExpression}
        → IsForm nodes storage bound form tree
        → (scalar : ScalarType) → is_free_form nodes scalar form ≡ true
        → stores_nothing tree ≡ true
    free_form IsNumber scalar free = refl
    free_form (IsValue part) scalar free = parts_store part (subscripts_known _ free)
    free_form (IsLocation reference) scalar free = absurd (false≢true free)
    free_form IsConstantList scalar free = refl
    free_form (IsConversion tree) scalar free = free_stores_nothing tree free
    free_form (IsEmbedded target value) scalar free = absurd (false≢true free)
    free_form (IsUnary tree) scalar free = free_stores_nothing tree free
    free_form (IsBinary {operator = operator} {left = left} {right = right} first second) scalar free =
        let parts : _ = and_parts (free_at nodes left) (is_some (number_at nodes right))
        (and_parts (has_immediate operator) (is_free_with nodes left right) free).1 in
        and_from _ _ (free_stores_nothing first parts.0)
        (known_stores_nothing second (from_value _ (known_at nodes right) parts.1))
    free_form (IsCallOf given) scalar free = absurd (false≢true free)
    free_form (IsFunction {function = function} {tree = inner} tree) scalar free =
        by_byte (λ one. one ≡ true → stores_nothing inner ≡ true) (byte_taken function) _ _
        (λ _ its. free_stores_nothing tree its) (λ high its. high_stores_nothing function high tree its) free
    free_form (IsShift {function = function} {value = value} {count = count} first second) scalar free =
        let parts : _ = and_parts (free_at nodes value) (is_some (number_at nodes count))
        (and_parts (is_of_low_byte scalar function) (is_free_with nodes value count) free).1 in
        and_from _ _ (free_stores_nothing first parts.0)
        (known_stores_nothing second (from_value _ (known_at nodes count) parts.1))
    free_form IsInput scalar free = refl
