-- The traits of a form of nodes are the same when others are added after them.
use Rattle.treecode.proofs.Prelude.{◌≡◌, ℕ, zero, suc, ◌+◌, ◌<◌, ◌&&◌, Bool, List, Option, Some, None, option_map, max, min, slice_get, refl, sym, ap, ◌∙◌, subst, arith, option_map_or, option_and_then, ScalarType, result_of_one, shifted, Expression, ExpressionForm, ExpressionNumber, Home, Number, Reference, Target, Traits, converted_place, function_of_place, known_distance, known_number, place_of_part, result_of_known, shift_of_known, Nodes, home_at, distance_of, height_of_argument, height_of_arguments, height_of_form, height_of_reference, height_of_subscript, height_of_target, is_quiet_form, known_of, no_traits, place_of_reference, reference_is_quiet, reference_stores_nothing, stores_nothing_in_form, subscript_is_quiet, subscript_stores_nothing, traits_at, SubscriptIsBelow, ReferenceIsBelow, TargetIsBelow, ArgumentsAreBelow, PartsAreBelow}
use Rattle.treecode.specs.declared.expression.ExpressionForm.TheVariants as forms
use Rattle.treecode.specs.declared.reference.Subscript.{Subscript}
use Rattle.treecode.specs.declared.reference.Target.TheVariants as targets

-- two paths through a function of two arguments
pub same_of_both : {A B C : Type 0} (f : A → B → C) {a b : A} {c d : B} → a ≡ b → c ≡ d → f a c ≡ f b d
same_of_both f {b = b} {c = c} e g = ap (λ x. f x c) e ∙ ap (f b) g

module _ (before after : Nodes) (bound : ℕ)
    (homes : after.homes ≡ before.homes)
    (same : (number : ℕ) → number < bound → slice_get after.expressions number
    ≡ slice_get before.expressions number)
    (given : (index : ℕ) (number : ExpressionNumber) → slice_get before.arguments index ≡ Some number
    → slice_get after.arguments index ≡ Some number) where
  pub same_traits : (number : ExpressionNumber) → number.index < bound
      → traits_at after number ≡ traits_at before number
  same_traits number below =
      ap (λ (found : Option Expression). option_map_or (λ (e : Expression). e.traits) found no_traits)
      (same number.index below)

  pub same_distance : (index : Option Subscript) → SubscriptIsBelow bound index
      → distance_of after index ≡ distance_of before index
  same_distance None below = refl
  same_distance (Some subscript) below =
      ap (λ (traits : Traits). known_distance subscript.stride (known_number traits.known))
      (same_traits subscript.index below)

  pub same_place : (reference : Reference) → ReferenceIsBelow bound reference
      → place_of_reference after reference ≡ place_of_reference before reference
  same_place reference below =
      ap
      (λ (starts : List Home).
      place_of_part (home_at starts reference.object) reference.offset (distance_of after reference.subscript)
      (distance_of after reference.member_subscript)) homes
      ∙ same_of_both (place_of_part (home_at before.homes reference.object) reference.offset)
      (same_distance reference.subscript below.0) (same_distance reference.member_subscript below.1)

  pub same_known : (scalar : ScalarType) (form : ExpressionForm) → PartsAreBelow before bound form
      → known_of after scalar form ≡ known_of before scalar form
  same_known scalar (forms.Number number) below = refl
  same_known scalar (forms.Value reference) below = refl
  same_known scalar (forms.Location reference) below = same_place reference below
  same_known scalar (forms.List offset) below = refl
  same_known scalar (forms.Conversion inner) below =
      ap (λ (t : Traits). option_and_then (converted_place scalar) t.known) (same_traits inner below)
  same_known scalar (forms.Assignment target value) below = refl
  same_known scalar (forms.Unary operator operand) below =
      ap
      (λ (t : Traits).
      option_map (λ number. Number (result_of_one scalar operator number)) (known_number t.known))
      (same_traits operand below)
  same_known scalar (forms.Binary operands operator left right) below =
      same_of_both (λ (t u : Traits). result_of_known operands operator t.known u.known)
      (same_traits left below.0)
      (same_traits right below.1)
  same_known scalar (forms.Call procedure arguments) below = refl
  same_known scalar (forms.Function function operand) below =
      ap (λ (t : Traits). option_and_then (function_of_place function) t.known) (same_traits operand below)
  same_known scalar (forms.Shift function value count) below =
      same_of_both
      (λ (t u : Traits). shift_of_known (shifted scalar function) (known_number t.known)
      (known_number u.known))
      (same_traits value below.0) (same_traits count below.1)
  same_known scalar (forms.Input port) below = refl

  same_index_height : (index : Option Subscript) → SubscriptIsBelow bound index
      → height_of_subscript after index ≡ height_of_subscript before index
  same_index_height None below = refl
  same_index_height (Some subscript) below = ap (λ (t : Traits). t.height) (same_traits subscript.index below)

  same_reference_height : (reference : Reference) → ReferenceIsBelow bound reference
      → height_of_reference after reference ≡ height_of_reference before reference
  same_reference_height reference below =
      same_of_both (λ (one two : ℕ). min (1 + max one two) 65535)
      (same_index_height reference.subscript below.0)
      (same_index_height reference.member_subscript below.1)

  pub same_target_height : (target : Target) → TargetIsBelow bound target
      → height_of_target after target ≡ height_of_target before target
  same_target_height (targets.Stored from to reference) below = same_reference_height reference below
  same_target_height (targets.Sent from port) below = refl

  same_arguments_height : (first count : ℕ)
      → ArgumentsAreBelow before bound (record { first = first; count = count })
      → height_of_arguments after first count ≡ height_of_arguments before first count
  same_arguments_height first zero below = refl
  same_arguments_height first (suc count) below =
      same_of_both (λ (one two : ℕ). max one two)
      (argument_height first ((below 0 (omega arith)).0)
      (subst (λ (at : ℕ). slice_get before.arguments at
      ≡ Some ((below 0 (omega arith)).0)) (omega arith) ((below 0 (omega arith)).1))
      ((below 0 (omega arith)).2))
      (same_arguments_height (suc first) count
      (λ (index : ℕ) less. next_below first count index (below (suc index) (omega arith))))
    where
      -- an argument after the first
      next_below : (first count index : ℕ)
          → ((number : ExpressionNumber) × (slice_get before.arguments (first + suc index) ≡ Some number)
          × (number.index < bound))
          → (number : ExpressionNumber) × (slice_get before.arguments (suc first + index) ≡ Some number)
          × (number.index < bound)
      next_below first count index found = (
        found.0,
        subst (λ (at : ℕ). slice_get before.arguments at
            ≡ Some found.0) (omega arith) found.1,
        found.2,
      )

      argument_height : (first : ℕ) (number : ExpressionNumber) → slice_get before.arguments first
          ≡ Some number
          → number.index < bound
          → height_of_argument after (slice_get after.arguments first)
          ≡ height_of_argument before (slice_get before.arguments first)
      argument_height first number at below =
          ap (λ (found : Option ExpressionNumber). height_of_argument after found) (given first number at)
          ∙ ap (λ (t : Traits). t.height) (same_traits number below)
          ∙ sym (ap (λ (found : Option ExpressionNumber). height_of_argument before found) at)

  pub same_height : (form : ExpressionForm) → PartsAreBelow before bound form
      → height_of_form after form ≡ height_of_form before form
  same_height (forms.Number number) below = refl
  same_height (forms.Value reference) below = same_reference_height reference below
  same_height (forms.Location reference) below = same_reference_height reference below
  same_height (forms.List offset) below = refl
  same_height (forms.Conversion inner) below = ap (λ (t : Traits). t.height) (same_traits inner below)
  same_height (forms.Assignment target value) below =
      same_of_both (λ (one two : ℕ). min (1 + max one two) 65535) (same_target_height target below.0)
      (ap (λ (t : Traits). t.height) (same_traits value below.1))
  same_height (forms.Unary operator operand) below =
      ap (λ (t : Traits). min (1 + t.height) 65535) (same_traits operand below)
  same_height (forms.Binary operands operator left right) below =
      same_of_both (λ (t u : Traits). min (1 + max t.height u.height) 65535) (same_traits left below.0)
      (same_traits right below.1)
  same_height (forms.Call procedure arguments) below =
      ap (λ (highest : ℕ). min (1 + arguments.count + highest) 65535)
      (same_arguments_height arguments.first arguments.count below)
  same_height (forms.Function function operand) below =
      ap (λ (t : Traits). min (2 + t.height) 65535) (same_traits operand below)
  same_height (forms.Shift function value count) below =
      same_of_both (λ (t u : Traits). min (3 + max t.height u.height) 65535) (same_traits value below.0)
      (same_traits count below.1)
  same_height (forms.Input port) below = refl

  same_index_quiet : (index : Option Subscript) → SubscriptIsBelow bound index
      → subscript_is_quiet after index ≡ subscript_is_quiet before index
  same_index_quiet None below = refl
  same_index_quiet (Some subscript) below =
      ap (λ (t : Traits). t.is_quiet) (same_traits subscript.index below)

  same_reference_quiet : (reference : Reference) → ReferenceIsBelow bound reference
      → reference_is_quiet after reference ≡ reference_is_quiet before reference
  same_reference_quiet reference below =
      same_of_both (λ (one two : Bool). one && two) (same_index_quiet reference.subscript below.0)
      (same_index_quiet reference.member_subscript below.1)

  pub same_quiet : (form : ExpressionForm) → PartsAreBelow before bound form
      → is_quiet_form after form ≡ is_quiet_form before form
  same_quiet (forms.Number number) below = refl
  same_quiet (forms.Value reference) below = same_reference_quiet reference below
  same_quiet (forms.Location reference) below = same_reference_quiet reference below
  same_quiet (forms.List offset) below = refl
  same_quiet (forms.Conversion inner) below = ap (λ (t : Traits). t.is_quiet) (same_traits inner below)
  same_quiet (forms.Assignment target value) below = refl
  same_quiet (forms.Unary operator operand) below =
      ap (λ (t : Traits). t.is_quiet) (same_traits operand below)
  same_quiet (forms.Binary operands operator left right) below =
      same_of_both (λ (t u : Traits). t.is_quiet && u.is_quiet) (same_traits left below.0)
      (same_traits right below.1)
  same_quiet (forms.Call procedure arguments) below = refl
  same_quiet (forms.Function function operand) below =
      ap (λ (t : Traits). t.is_quiet) (same_traits operand below)
  same_quiet (forms.Shift function value count) below =
      same_of_both (λ (t u : Traits). t.is_quiet && u.is_quiet) (same_traits value below.0)
      (same_traits count below.1)
  same_quiet (forms.Input port) below = refl

  same_index_storing : (index : Option Subscript) → SubscriptIsBelow bound index
      → subscript_stores_nothing after index ≡ subscript_stores_nothing before index
  same_index_storing None below = refl
  same_index_storing (Some subscript) below =
      ap (λ (t : Traits). t.stores_nothing) (same_traits subscript.index below)

  same_reference_storing : (reference : Reference) → ReferenceIsBelow bound reference
      → reference_stores_nothing after reference ≡ reference_stores_nothing before reference
  same_reference_storing reference below =
      same_of_both (λ (one two : Bool). one && two) (same_index_storing reference.subscript below.0)
      (same_index_storing reference.member_subscript below.1)

  pub same_storing : (form : ExpressionForm) → PartsAreBelow before bound form
      → stores_nothing_in_form after form ≡ stores_nothing_in_form before form
  same_storing (forms.Number number) below = refl
  same_storing (forms.Value reference) below = same_reference_storing reference below
  same_storing (forms.Location reference) below = same_reference_storing reference below
  same_storing (forms.List offset) below = refl
  same_storing (forms.Conversion inner) below =
      ap (λ (t : Traits). t.stores_nothing) (same_traits inner below)
  same_storing (forms.Assignment target value) below = refl
  same_storing (forms.Unary operator operand) below =
      ap (λ (t : Traits). t.stores_nothing) (same_traits operand below)
  same_storing (forms.Binary operands operator left right) below =
      same_of_both (λ (t u : Traits). t.stores_nothing && u.stores_nothing) (same_traits left below.0)
      (same_traits right below.1)
  same_storing (forms.Call procedure arguments) below = refl
  same_storing (forms.Function function operand) below =
      ap (λ (t : Traits). t.stores_nothing) (same_traits operand below)
  same_storing (forms.Shift function value count) below =
      same_of_both (λ (t u : Traits). t.stores_nothing && u.stores_nothing) (same_traits value below.0)
      (same_traits count below.1)
  same_storing (forms.Input port) below = refl
