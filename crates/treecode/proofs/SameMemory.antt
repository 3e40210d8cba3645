-- The memory of a form, and the registers that its code keeps, are the same when nodes are added.
use Rattle.treecode.proofs.Prelude.{◌≡◌, ℕ, ◌<◌, ◌≤◌, ◌&&◌, Bool, false, List, Option, Some, None, is_some, slice_get, refl, sym, ap, ◌∙◌, arith, cond, nat_lt, option_map_or, option_and_then, ScalarType, BinaryOperator, ShiftFunction, ShiftLeft, ShiftRight, RotateLeft, RotateRight, byte_taken, for_byte, Expression, ExpressionForm, ExpressionNumber, Home, Place, Reference, Target, Traits, known_number, Nodes, home_at, byte_after, form_at, has_immediate, high_in_memory, is_direct, is_free_form, is_free_of, is_free_with, is_of_low_byte, keeps_none, keeps_of, keeps_of_address, keeps_of_binary, keeps_of_byte, keeps_of_extended, keeps_of_form, keeps_of_index, keeps_of_part, keeps_of_shift, keeps_of_subscript, keeps_of_value, height_of_form, is_quiet_form, stores_nothing_in_form, known_of, memory_of_form, memory_of_inner, number_at, place_of_reference, same_low_byte, traits_at, traits_of, SubscriptIsBelow, ReferenceIsBelow, TargetIsBelow, PartsAreBelow, NumbersRise}
use Rattle.trees.specs.declared.declaration.ScalarType.TheVariants as scalars
use Rattle.trees.specs.declared.expression.BinaryOperator.TheVariants as operators
use Rattle.trees.proofs.TakenBytes.{by_byte}
use Rattle.treecode.specs.declared.expression.ExpressionForm.TheVariants as forms
use Rattle.treecode.specs.declared.reference.Subscript.{Subscript}
use Rattle.treecode.specs.declared.reference.Target.TheVariants as targets
use Rattle.treecode.specs.declared.traits.Keeps.{Keeps}
use Rattle.treecode.proofs.SameTraits.{same_of_both, same_height, same_known, same_place, same_quiet, same_storing, same_traits}

-- a number below a bound is below a greater one
subscript_up : (bound greater : ℕ) → bound ≤ greater → (index : Option Subscript)
    → SubscriptIsBelow bound index
    → SubscriptIsBelow greater index
subscript_up bound greater up None below = tt
subscript_up bound greater up (Some subscript) below = omega arith

reference_up : (bound greater : ℕ) → bound ≤ greater → (reference : Reference)
    → ReferenceIsBelow bound reference
    → ReferenceIsBelow greater reference
reference_up bound greater up reference below = (
  subscript_up bound greater up reference.subscript below.0,
  subscript_up bound greater up
      reference.member_subscript below.1,
)

target_up : (bound greater : ℕ) → bound ≤ greater → (target : Target) → TargetIsBelow bound target
    → TargetIsBelow greater target
target_up bound greater up (targets.Stored from to reference) below =
    reference_up bound greater up reference below
target_up bound greater up (targets.Sent from port) below = tt

less_up : (number bound greater : ℕ) → bound ≤ greater → number < bound → number < greater
less_up number bound greater up below = omega arith

pub parts_up : (nodes : Nodes) (bound greater : ℕ) → bound ≤ greater → (form : ExpressionForm)
    → PartsAreBelow nodes bound form → PartsAreBelow nodes greater form
parts_up nodes bound greater up (forms.Number number) below = tt
parts_up nodes bound greater up (forms.Value reference) below = reference_up bound greater up reference below
parts_up nodes bound greater up (forms.Location reference) below =
    reference_up bound greater up reference below
parts_up nodes bound greater up (forms.List offset) below = tt
parts_up nodes bound greater up (forms.Conversion inner) below = less_up _ bound greater up below
parts_up nodes bound greater up (forms.Assignment target value) below =
    (target_up bound greater up target below.0, less_up _ bound greater up below.1)
parts_up nodes bound greater up (forms.Unary operator operand) below = less_up _ bound greater up below
parts_up nodes bound greater up (forms.Binary operands operator left right) below =
    (less_up _ bound greater up below.0, less_up _ bound greater up below.1)
parts_up nodes bound greater up (forms.Call procedure arguments) below =
    λ (index : ℕ) less. (
      (below index less).0,
      (below index less).1,
      less_up _ bound greater up
          (below index less).2,
    )
parts_up nodes bound greater up (forms.Function function operand) below = less_up _ bound greater up below
parts_up nodes bound greater up (forms.Shift function value count) below =
    (less_up _ bound greater up below.0, less_up _ bound greater up below.1)
parts_up nodes bound greater up (forms.Input port) below = tt

-- a reference, if there is one, has its parts below a bound
abbrev FoundIsBelow : (bound : ℕ) → Option Reference → Type 0
FoundIsBelow bound None = Unit {0}
FoundIsBelow bound (Some reference) = ReferenceIsBelow bound reference

module _ (before after : Nodes) (bound : ℕ)
    (homes : after.homes ≡ before.homes)
    (same : (number : ℕ) → number < bound → slice_get after.expressions number
    ≡ slice_get before.expressions number)
    (given : (index : ℕ) (number : ExpressionNumber) → slice_get before.arguments index ≡ Some number
    → slice_get after.arguments index ≡ Some number)
    (rises : NumbersRise before) where
  -- the form of a part; its parts are below the bound
  form_below : (number : ExpressionNumber) (form : ExpressionForm) → number.index < bound
      → PartsAreBelow before bound form → PartsAreBelow before bound (form_at before number form)
  form_below number form less below = found (slice_get before.expressions number.index) refl
    where
      found : (one : Option Expression) → slice_get before.expressions number.index ≡ one
          → PartsAreBelow before bound (option_map_or (λ (expression : Expression). expression.form) one form)
      found None e = below
      found (Some expression) e =
          parts_up before number.index bound (omega arith) expression.form (rises number.index expression e)

  form_same : (number : ExpressionNumber) (form : ExpressionForm) → number.index < bound
      → form_at after number form ≡ form_at before number form
  form_same number form less =
      ap (λ (found : Option Expression). option_map_or (λ
      (expression : Expression). expression.form) found form)
      (same number.index less)

  low_byte_below : (form : ExpressionForm) → PartsAreBelow before bound form
      → PartsAreBelow before bound (same_low_byte before form)
  low_byte_below (forms.Conversion inner) below = form_below inner (forms.Conversion inner) below below
  low_byte_below (forms.Function function operand) below =
      by_byte (λ form. PartsAreBelow before bound form) (byte_taken function) _ _
      (λ _. form_below operand (forms.Function function operand) below below) (λ _. below)
  low_byte_below form below = below

  low_byte_same : (form : ExpressionForm) → PartsAreBelow before bound form
      → same_low_byte after form ≡ same_low_byte before form
  low_byte_same (forms.Conversion inner) below = form_same inner (forms.Conversion inner) below
  low_byte_same (forms.Function function operand) below =
      ap (λ (found : ExpressionForm). for_byte (byte_taken function) found (forms.Function function operand))
      (form_same operand (forms.Function function operand) below)
  low_byte_same form below = refl

  high_same : (operand : ExpressionNumber) → operand.index < bound
      → high_in_memory after operand ≡ high_in_memory before operand
  high_same operand below =
      ap
      (λ (found : Option Expression).
      option_and_then (λ (expression : Expression). byte_after expression.traits.scalar expression.form)
      found)
      (same operand.index below)

  byte_after_below : (scalar : ScalarType) (form : ExpressionForm) → PartsAreBelow before bound form
      → FoundIsBelow bound (byte_after scalar form)
  byte_after_below scalars.Address (forms.Value reference) below = below
  byte_after_below scalar form below = tt

  high_below : (operand : ExpressionNumber) → operand.index < bound
      → FoundIsBelow bound (high_in_memory before operand)
  high_below operand less = found (slice_get before.expressions operand.index) refl
    where
      found : (one : Option Expression) → slice_get before.expressions operand.index ≡ one
          → FoundIsBelow bound
          (option_and_then (λ (expression : Expression). byte_after expression.traits.scalar expression.form)
          one)
      found None e = tt
      found (Some expression) e =
          byte_after_below expression.traits.scalar expression.form
          (parts_up before operand.index bound (omega arith) expression.form
          (rises operand.index expression e))

  inner_same : (form : ExpressionForm) → PartsAreBelow before bound form
      → memory_of_inner after form ≡ memory_of_inner before form
  inner_same (forms.Function function operand) below =
      ap (λ (found : Option Reference). for_byte (byte_taken function) None found) (high_same operand below)
  inner_same (forms.Value reference) below = refl
  inner_same form below = refl

  inner_below : (form : ExpressionForm) → PartsAreBelow before bound form
      → FoundIsBelow bound (memory_of_inner before form)
  inner_below (forms.Function function operand) below =
      by_byte (λ found. FoundIsBelow bound found) (byte_taken function) _ _ (λ _. tt)
      (λ _. high_below operand below)
  inner_below (forms.Value reference) below = below
  inner_below form below = tt

  memory_same : (form : ExpressionForm) → PartsAreBelow before bound form
      → memory_of_form after form ≡ memory_of_form before form
  memory_same form below =
      ap (λ (one : ExpressionForm). memory_of_inner after (same_low_byte after one))
      (low_byte_same form below)
      ∙ ap (λ (one : ExpressionForm). memory_of_inner after one)
      (low_byte_same (same_low_byte before form) (low_byte_below form below))
      ∙ inner_same (same_low_byte before (same_low_byte before form))
      (low_byte_below (same_low_byte before form) (low_byte_below form below))

  memory_below : (form : ExpressionForm) → PartsAreBelow before bound form
      → FoundIsBelow bound (memory_of_form before form)
  memory_below form below =
      inner_below (same_low_byte before (same_low_byte before form))
      (low_byte_below (same_low_byte before form) (low_byte_below form below))

  direct_same : (form : ExpressionForm) → PartsAreBelow before bound form
      → is_direct after form ≡ is_direct before form
  direct_same form below =
      ap
      (λ (found : Option Reference).
      option_map_or (λ (reference : Reference). is_some (place_of_reference after reference)) found false)
      (memory_same form below)
      ∙ placed (memory_of_form before form) (memory_below form below)
    where
      placed : (found : Option Reference) → FoundIsBelow bound found
          → option_map_or (λ (reference : Reference). is_some
          (place_of_reference after reference)) found false
          ≡ option_map_or (λ (reference : Reference). is_some
          (place_of_reference before reference)) found false
      placed None below = refl
      placed (Some reference) below =
          ap (λ (place : Option Place). is_some place)
          (same_place before after bound homes same given reference below)

  traits_same : (number : ExpressionNumber) → number.index < bound → traits_at after number
      ≡ traits_at before number
  traits_same number below = same_traits before after bound homes same given number below

  free_with_same : (left right : ExpressionNumber) → left.index < bound → right.index < bound
      → is_free_with after left right ≡ is_free_with before left right
  free_with_same left right one two =
      same_of_both (λ (t u : Traits). t.is_free && is_some (known_number u.known)) (traits_same left one)
      (traits_same right two)

  free_form_same : (scalar : ScalarType) (form : ExpressionForm) → PartsAreBelow before bound form
      → is_free_form after scalar form ≡ is_free_form before scalar form
  free_form_same scalar (forms.Number number) below = refl
  free_form_same scalar (forms.Value reference) below = direct_same (forms.Value reference) below
  free_form_same scalar (forms.Location reference) below = refl
  free_form_same scalar (forms.List offset) below = refl
  free_form_same scalar (forms.Conversion inner) below =
      ap (λ (t : Traits). t.is_free) (traits_same inner below)
  free_form_same scalar (forms.Assignment target value) below = refl
  free_form_same scalar (forms.Unary operator operand) below =
      ap (λ (t : Traits). t.is_free) (traits_same operand below)
  free_form_same scalar (forms.Binary operands operator left right) below =
      ap (λ (one : Bool). has_immediate operator && one) (free_with_same left right below.0 below.1)
  free_form_same scalar (forms.Call procedure arguments) below = refl
  free_form_same scalar (forms.Function function operand) below =
      same_of_both (λ (free direct : Bool). for_byte (byte_taken function) free direct)
      (ap (λ (t : Traits). t.is_free) (traits_same operand below))
      (direct_same (forms.Function function operand) below)
  free_form_same scalar (forms.Shift function value count) below =
      ap (λ (one : Bool). is_of_low_byte scalar function && one) (free_with_same value count below.0 below.1)
  free_form_same scalar (forms.Input port) below = refl

  free_same : (scalar : ScalarType) (known : Option Place) (form : ExpressionForm)
      → PartsAreBelow before bound form
      → is_free_of after scalar known form ≡ is_free_of before scalar known form
  free_same scalar (Some place) form below = refl
  free_same scalar None form below = free_form_same scalar form below

  keeps_found_same : (index : ExpressionNumber) (number : Option ℕ) → index.index < bound
      → keeps_of_index after index number ≡ keeps_of_index before index number
  keeps_found_same index None below = ap (λ (t : Traits). Some t.keeps) (traits_same index below)
  keeps_found_same index (Some number) below = refl

  keeps_index_same : (index : Option Subscript) → SubscriptIsBelow bound index
      → keeps_of_subscript after index ≡ keeps_of_subscript before index
  keeps_index_same None below = refl
  keeps_index_same (Some subscript) below =
      ap (λ (t : Traits). keeps_of_index after subscript.index (known_number t.known))
      (traits_same subscript.index below)
      ∙ keeps_found_same subscript.index (number_at before subscript.index) below

  keeps_address_same : (reference : Reference) → ReferenceIsBelow bound reference
      → keeps_of_address after reference ≡ keeps_of_address before reference
  keeps_address_same reference below =
      ap
      (λ (starts : List Home).
      keeps_of_part (home_at starts reference.object) (keeps_of_subscript after reference.subscript)
      (keeps_of_subscript after reference.member_subscript)) homes
      ∙ same_of_both (keeps_of_part (home_at before.homes reference.object))
      (keeps_index_same reference.subscript below.0) (keeps_index_same reference.member_subscript below.1)

  keeps_value_same : (scalar : ScalarType) (reference : Reference) → ReferenceIsBelow bound reference
      → keeps_of_value after scalar reference ≡ keeps_of_value before scalar reference
  keeps_value_same scalars.Byte reference below = keeps_address_same reference below
  keeps_value_same scalars.Address reference below =
      same_of_both (λ (place : Option Place) (keeps : Keeps). record { a = is_some place; de = keeps.de })
      (same_place before after bound homes same given reference below) (keeps_address_same reference below)

  keeps_byte_same : (form : ExpressionForm) → PartsAreBelow before bound form
      → keeps_of_byte after form ≡ keeps_of_byte before form
  keeps_byte_same form below =
      ap (λ (found : Option Reference). option_map_or (keeps_of_address after) found keeps_none)
      (memory_same form below)
      ∙ found (memory_of_form before form) (memory_below form below)
    where
      found : (one : Option Reference) → FoundIsBelow bound one
          → option_map_or (keeps_of_address after) one keeps_none
          ≡ option_map_or (keeps_of_address before) one keeps_none
      found None below = refl
      found (Some reference) below = keeps_address_same reference below

  extended_by_type : (form : ExpressionForm) (traits : Traits) (scalar : ScalarType) → traits.scalar ≡ scalar
      → PartsAreBelow before bound form
      → keeps_of_extended after form traits ≡ keeps_of_extended before form traits
  extended_by_type form traits scalars.Byte is below =
      ap (λ (of : ScalarType). keeps_of_extended after form (record traits { scalar = of })) is
      ∙ keeps_byte_same form below
      ∙ sym (ap (λ (of : ScalarType). keeps_of_extended before form (record traits { scalar = of })) is)
  extended_by_type form traits scalars.Address is below =
      ap (λ (of : ScalarType). keeps_of_extended after form (record traits { scalar = of })) is
      ∙ sym (ap (λ (of : ScalarType). keeps_of_extended before form (record traits { scalar = of })) is)

  keeps_extended_same : (form : ExpressionForm) (operand : ExpressionNumber) → operand.index < bound
      → PartsAreBelow before bound form
      → keeps_of_extended after form (traits_at after operand)
      ≡ keeps_of_extended before form (traits_at before operand)
  keeps_extended_same form operand less below =
      ap (λ (t : Traits). keeps_of_extended after form t) (traits_same operand less)
      ∙ extended_by_type form (traits_at before operand) (traits_at before operand).scalar refl below

  keeps_binary_same : (operator : BinaryOperator) (left right : ExpressionNumber) → left.index < bound
      → right.index < bound
      → keeps_of_binary after operator left right ≡ keeps_of_binary before operator left right
  keeps_binary_same operators.Add left right one two =
      same_of_both
      (λ (t u : Traits).
      cond (is_some u.known) t.keeps (cond (is_some t.known) u.keeps keeps_none)) (traits_same left one)
      (traits_same right two)
  keeps_binary_same operators.Multiply left right one two =
      same_of_both
      (λ (t u : Traits).
      cond (is_some (known_number u.known)) t.keeps
      (cond (is_some (known_number t.known)) u.keeps keeps_none)) (traits_same left one)
      (traits_same right two)
  keeps_binary_same operators.Subtract left right one two =
      same_of_both (λ (t u : Traits). cond (is_some (known_number u.known)) t.keeps keeps_none)
      (traits_same left one)
      (traits_same right two)
  keeps_binary_same operator left right one two = refl

  keeps_shift_same : (function : ShiftFunction) (value : ExpressionNumber) (count : Option ℕ)
      → value.index < bound
      → keeps_of_shift after function value count ≡ keeps_of_shift before function value count
  keeps_shift_same ShiftLeft value (Some count) below =
      ap (λ (t : Traits). cond (nat_lt count 8) t.keeps keeps_none) (traits_same value below)
  keeps_shift_same ShiftLeft value None below = refl
  keeps_shift_same ShiftRight value count below = refl
  keeps_shift_same RotateLeft value count below = refl
  keeps_shift_same RotateRight value count below = refl

  keeps_form_same : (scalar : ScalarType) (form : ExpressionForm) → PartsAreBelow before bound form
      → keeps_of_form after scalar form ≡ keeps_of_form before scalar form
  keeps_form_same scalar (forms.Value reference) below = keeps_value_same scalar reference below
  keeps_form_same scalar (forms.Location reference) below = keeps_address_same reference below
  keeps_form_same scalars.Address (forms.Conversion inner) below =
      keeps_extended_same (forms.Conversion inner) inner below below
  keeps_form_same scalars.Byte (forms.Conversion inner) below = keeps_byte_same (forms.Conversion inner) below
  keeps_form_same scalars.Address (forms.Function function operand) below =
      keeps_extended_same (forms.Function function operand) operand below below
  keeps_form_same scalars.Byte (forms.Function function operand) below =
      keeps_byte_same (forms.Function function operand) below
  keeps_form_same scalars.Address (forms.Binary operands operator left right) below =
      keeps_binary_same operator left right below.0 below.1
  keeps_form_same scalars.Address (forms.Shift function value count) below =
      ap (λ (t : Traits). keeps_of_shift after function value (known_number t.known))
      (traits_same count below.1)
      ∙ keeps_shift_same function value (number_at before count) below.0
  keeps_form_same scalar form below = refl

  keeps_same : (scalar : ScalarType) (known : Option Place) (form : ExpressionForm)
      → PartsAreBelow before bound form
      → keeps_of after scalar known form ≡ keeps_of before scalar known form
  keeps_same scalar (Some place) form below = refl
  keeps_same scalar None form below = keeps_form_same scalar form below

  -- all traits of a form are the same
  pub all_same : (scalar : ScalarType) (form : ExpressionForm) → PartsAreBelow before bound form
      → traits_of after scalar form ≡ traits_of before scalar form
  unfolding traits_of
  all_same scalar form below =
      ap (λ (known : Option Place). record {
        known = known;
        height = height_of_form after form;
        scalar = scalar;
        is_quiet = is_quiet_form after form;
        stores_nothing = stores_nothing_in_form after form;
        is_free = is_free_of after scalar known form;
        keeps = keeps_of after scalar known form;
      }) (same_known before after bound homes same given scalar form below)
      ∙ ap (λ (height : ℕ). record {
        known = known_of before scalar form;
        height = height;
        scalar = scalar;
        is_quiet = is_quiet_form after form;
        stores_nothing = stores_nothing_in_form after form;
        is_free = is_free_of after scalar (known_of before scalar form) form;
        keeps = keeps_of after scalar (known_of before scalar form) form;
      }) (same_height before after bound homes same given form below)
      ∙ same_of_both (λ (quiet storing : Bool). record {
        known = known_of before scalar form;
        height = height_of_form before form;
        scalar = scalar;
        is_quiet = quiet;
        stores_nothing = storing;
        is_free = is_free_of after scalar (known_of before scalar form) form;
        keeps = keeps_of after scalar (known_of before scalar form) form;
      }) (same_quiet before after bound homes same given form below)
      (same_storing before after bound homes same given form below)
      ∙ same_of_both (λ (free : Bool) (keeps : Keeps). record {
        known = known_of before scalar form;
        height = height_of_form before form;
        scalar = scalar;
        is_quiet = is_quiet_form before form;
        stores_nothing = stores_nothing_in_form before form;
        is_free = free;
        keeps = keeps;
      }) (free_same scalar (known_of before scalar form) form below)
      (keeps_same scalar (known_of before scalar form) form below)
