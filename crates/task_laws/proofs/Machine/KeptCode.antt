-- An expression with code that keeps A or DE is quiet, and so is a known one.
use Rattle.task_laws.proofs.Prelude.{◌≡◌, ℕ, zero, suc, ◌%◌, ◌<◌, ◌≤◌, ◌&&◌, ◌⊎◌, inl, inr, Bool, true, false, not, ◌||◌, if◌then◌else◌, Option, Some, None, is_some, option_and_then, option_map, slice_get, refl, sym, ap, subst, ◌∙◌, arith, and_parts, ScalarType, Byte, Address, Xor, Less, Greater, LessOrEqual, GreaterOrEqual, Unequal, Multiply, Divide, Modulo, Subscript, TypedExpression, TypedReference, Storage, Expression, ExpressionForm, Home, Place, Reference, IndexNode, Keeps, Traits, place_of_part, IsExpression, IsNode, IsForm, IsNumber, IsValue, IsLocation, IsConstantList, IsConversion, IsEmbedded, IsUnary, IsBinary, IsCallOf, IsFunction, IsShift, IsInput, IsReference, IsPart, IsSubscript, IsAbsent, IsIndex, Nodes, home_at, option_map_or, ShiftLeft, ShiftRight, RotateLeft, RotateRight, ExpressionNumber, KeepTraits, byte_after, distance_of, form_at, is_quiet_form, is_static_location, keeps_at, keeps_of, keeps_none, keeps_of_byte, keeps_of_extended, keeps_of_form, keeps_of_index, keeps_of_part, keeps_of_shift, keeps_of_subscript, keeps_of_sum, known_at, known_of, memory_of_form, memory_of_inner, number_at, place_of_reference, quiet_at, reference_is_quiet, same_low_byte, subscript_is_quiet, traits_at, traits_of, node_traits, and_from, false≢true, from_number, from_value, none-some, byte_taken}
use Rattle.trees.proofs.TakenBytes.{by_byte, taken}
use Rattle.treecode.proofs.TakenBytes.{low_byte_of_itself, low_byte_of_operand}
use Rattle.trees.specs.declared.expression.BinaryOperator.TheVariants.{Or, And, Equal, Add, Subtract}
use Rattle.treecode.specs.declared.expression.ExpressionForm.TheVariants as forms
use Rattle.treecode.specs.declared.place.Home.TheVariants as homes
use Rattle.treecode.specs.internal.Traits.{high_in_memory, keeps_of_address}

-- both subscripts of a known place are known
pub place_known :
    (home : Home) (offset : ℕ) (first second : Option ℕ)
    → is_some (place_of_part home offset first second) ≡ true
    → (is_some first ≡ true) × (is_some second ≡ true)
place_known (homes.Static place) offset (Some first) second some =
    (refl, from_number (λ two. Rattle.treecode.specs.internal.Homes.place_after (Rattle.treecode.specs.internal.Homes.place_after (Rattle.treecode.specs.internal.Homes.place_after place offset) first) two) second some)
place_known (homes.Static place) offset None second some = absurd (false≢true some)
place_known (homes.Based base) offset first second some = absurd (false≢true some)
place_known (homes.Frame variable) offset first second some = absurd (false≢true some)

module _ (nodes : Nodes) (storage : Storage) (keeps : KeepTraits nodes) where
  -- the known value in the entry of a node
  pub known_of_entry : (number : ℕ) (expression : Expression)
      → slice_get nodes.expressions number ≡ Some expression
      → known_at nodes (record { index = number }) ≡ known_of nodes expression.traits.scalar expression.form
  unfolding traits_of
  known_of_entry number expression at =
      ap (λ (traits : Traits). traits.known) (node_traits nodes number expression keeps at)

  pub quiet_of_entry : (number : ℕ) (expression : Expression)
      → slice_get nodes.expressions number ≡ Some expression
      → quiet_at nodes (record { index = number }) ≡ is_quiet_form nodes expression.form
  unfolding traits_of
  quiet_of_entry number expression at =
      ap (λ (traits : Traits). traits.is_quiet) (node_traits nodes number expression keeps at)

  mutual
    pub known_quiet : {bound number : ℕ} {tree : TypedExpression}
        → IsExpression nodes storage bound number tree
        → is_some (known_at nodes (record { index = number })) ≡ true
        → quiet_at nodes (record { index = number }) ≡ true
    known_quiet (IsNode {number = number} {expression = expression} below at scalar form) some =
        quiet_of_entry number expression at
        ∙ form_known_quiet expression.traits.scalar form
        (ap (λ (found : Option Place). is_some found) (sym (known_of_entry number expression at)) ∙ some)

    form_known_quiet : {bound : ℕ} {form : ExpressionForm} {tree : TypedExpression} (scalar : ScalarType)
        → IsForm nodes storage bound form tree
        → is_some (known_of nodes scalar form) ≡ true
        → is_quiet_form nodes form ≡ true
    form_known_quiet scalar IsNumber some = refl
    form_known_quiet scalar (IsValue part) some = absurd (false≢true some)
    form_known_quiet scalar (IsLocation {reference = reference} part) some = part_known_quiet part some
    form_known_quiet scalar IsConstantList some = refl
    form_known_quiet scalar (IsConversion inner) some = known_quiet inner (from_value _ _ some)
    form_known_quiet scalar (IsEmbedded target inner) some = absurd (false≢true some)
    form_known_quiet scalar (IsUnary operand) some =
        known_quiet operand (from_value _ _ (from_number _ _ some))
    form_known_quiet scalar (IsBinary {left = left} {right = right} first second) some =
        and_from _ _ (known_quiet first (from_value _ _ some))
        (known_quiet second (second_of _ (known_at nodes left) (known_at nodes right) some))
      where
        second_of : (go : Place → Place → Option Place) (one other : Option Place)
            → is_some (option_and_then (λ before. option_and_then (go before) other) one) ≡ true
            → is_some other ≡ true
        second_of go (Some one) other some = from_value _ other some
        second_of go None other some = absurd (false≢true some)
    form_known_quiet scalar (IsCallOf are) some = absurd (false≢true some)
    form_known_quiet scalar (IsFunction operand) some = known_quiet operand (from_value _ _ some)
    form_known_quiet scalar (IsShift {value = value} {count = count} first second) some =
        and_from _ _ (known_quiet first (from_value _ _ (from_value _ _ some)))
        (known_quiet second (from_value _ _
        (second_of _ (number_at nodes value) (number_at nodes count) some)))
      where
        second_of : (go : ℕ → ℕ → Place) (one other : Option ℕ)
            → is_some (option_and_then (λ before. option_map (go before) other) one) ≡ true
            → is_some other ≡ true
        second_of go (Some one) other some = from_number _ other some
        second_of go None other some = absurd (false≢true some)
    form_known_quiet scalar IsInput some = absurd (false≢true some)

    pub part_known_quiet : {bound : ℕ} {reference : Reference} {part : TypedReference}
        → IsReference nodes storage bound reference part
        → is_some (place_of_reference nodes reference) ≡ true
        → reference_is_quiet nodes reference ≡ true
    part_known_quiet (IsPart {object = object} {offset = offset} {first = first} {second = second} one two)
        some =
        let both =
        place_known (home_at nodes.homes object) (offset % 65536) (distance_of nodes first)
        (distance_of nodes second) some in
        and_from _ _ (index_known_quiet one both.0) (index_known_quiet two both.1)

    pub index_known_quiet : {bound : ℕ} {index : Option IndexNode} {subscript : Subscript}
        → IsSubscript nodes storage bound index subscript
        → is_some (distance_of nodes index) ≡ true
        → subscript_is_quiet nodes index ≡ true
    index_known_quiet IsAbsent some = refl
    index_known_quiet (IsIndex index) some = known_quiet index (from_value _ _ (from_number _ _ some))

  -- A or DE is kept
  abbrev pub Kept : Keeps → Type 0
  Kept kept = (kept.a ≡ true) ⊎ (kept.de ≡ true)

  abbrev IfKept : Option Keeps → Type 0
  IfKept None = Unit {0}
  IfKept (Some kept) = Kept kept

  none_is_kept : {A : Type 0} → Kept (record { a = false; de = false }) → A
  none_is_kept (inl kept) = absurd (false≢true kept)
  none_is_kept (inr kept) = absurd (false≢true kept)

  sum_kept : (first second : Option Keeps) → Kept (keeps_of_sum first second) → IfKept first × IfKept second
  sum_kept (Some first) (Some second) (inl kept) =
      let both = and_parts first.a second.a kept in (inl both.0, inl both.1)
  sum_kept (Some first) (Some second) (inr kept) = absurd (false≢true kept)
  sum_kept (Some first) None kept = (kept, tt)
  sum_kept None (Some second) kept = (tt, kept)
  sum_kept None None kept = (tt, tt)

  part_kept :
      (home : Home) (first second : Option Keeps)
      → Kept (keeps_of_part home first second)
      → Kept (keeps_of_sum first second)
  part_kept (homes.Static place) first second kept = kept
  part_kept (homes.Frame variable) first second kept = kept
  part_kept (homes.Based base) first second (inl kept) =
      inl (and_parts (keeps_of_sum first second).a (is_static_location base) kept).0
  part_kept (homes.Based base) first second (inr kept) =
      inr (and_parts (keeps_of_sum first second).de (not (is_some first || is_some second)) kept).0

  -- numbers below one
  abbrev Below : (limit : ℕ) → Type 0
  Below limit =
      (bound number : ℕ) (tree : TypedExpression)
      → number < limit
      → IsExpression nodes storage bound number tree
      → Kept (keeps_at nodes (record { index = number }))
      → quiet_at nodes (record { index = number }) ≡ true

  some_of : {A : Type 0} (found : Option A) (one : A) → found ≡ Some one → is_some found ≡ true
  some_of {A = A} found one is = ap (λ (other : Option A). is_some other) is

  index_kept :
      {bound limit : ℕ} {index : Option IndexNode} {subscript : Subscript}
      → Below limit
      → bound ≤ limit
      → IsSubscript nodes storage bound index subscript
      → IfKept (keeps_of_subscript nodes index)
      → subscript_is_quiet nodes index ≡ true
  index_kept below less IsAbsent kept = refl
  index_kept {limit = limit} below less
      (IsIndex {number = number} {index = tree} (IsNode less_than at scalar form)) kept =
      by (number_at nodes number) refl kept
    where
      by : (found : Option ℕ) → number_at nodes number ≡ found → IfKept (keeps_of_index nodes number found)
          → quiet_at nodes number ≡ true
      by (Some value) is kept =
          known_quiet (IsNode less_than at scalar form)
          (from_value _ _ (some_of (number_at nodes number) value is))
      by None is kept =
          below _ number.index tree (omega (arith, less_than, less)) (IsNode less_than at scalar form) kept

  reference_kept :
      {bound limit : ℕ} {reference : Reference} {part : TypedReference}
      → Below limit
      → bound ≤ limit
      → IsReference nodes storage bound reference part
      → Kept (keeps_of_address nodes reference)
      → reference_is_quiet nodes reference ≡ true
  reference_kept below less (IsPart {object = object} {first = first} {second = second} one two) kept =
      let both = sum_kept (keeps_of_subscript nodes first) (keeps_of_subscript nodes second)
      (part_kept (home_at nodes.homes object) (keeps_of_subscript nodes first)
      (keeps_of_subscript nodes second) kept) in
      and_from _ _ (index_kept below less one both.0) (index_kept below less two both.1)

  -- a form, and one inside conversions that has the same low byte
  record LowStep (limit : ℕ) (form : ExpressionForm) : Type 0 where
    inner : ExpressionForm
    bound : ℕ
    tree : TypedExpression
    is : same_low_byte nodes form ≡ inner
    less : bound ≤ limit
    shape : IsForm nodes storage bound inner tree
    quiet : is_quiet_form nodes inner ≡ true → is_quiet_form nodes form ≡ true

  same_step : {bound limit : ℕ} {form : ExpressionForm} {tree : TypedExpression}
      → bound ≤ limit
      → same_low_byte nodes form ≡ form
      → IsForm nodes storage bound form tree
      → LowStep limit form
  same_step {bound = bound} {form = form} {tree = tree} less is shape =
      record { inner = form; bound = bound; tree = tree; is = is; less = less; shape = shape; quiet = λ quiet. quiet }

  inner_step : {bound limit : ℕ} {number : ExpressionNumber} {tree : TypedExpression} (form : ExpressionForm)
      → bound ≤ limit
      → same_low_byte nodes form ≡ form_at nodes number form
      → is_quiet_form nodes form ≡ quiet_at nodes number
      → IsExpression nodes storage bound number.index tree
      → LowStep limit form
  inner_step {limit = limit} {number = number} {tree = tree} form less is same
      (IsNode {expression = expression} below at scalar shape) = record {
        inner = expression.form;
        bound = number.index;
        tree = tree;
        is = is ∙ ap (λ (found : Option Expression). option_map_or (λ (one : Expression). one.form) found form)
            at;
        less = omega (arith, below, less);
        shape = shape;
        quiet = λ quiet. same ∙ quiet_of_entry number.index expression at ∙ quiet;
      }

  low_step : {bound limit : ℕ} {form : ExpressionForm} {tree : TypedExpression}
      → bound ≤ limit
      → IsForm nodes storage bound form tree
      → IsForm nodes storage bound form tree
      → LowStep limit form
  low_step less whole IsNumber = same_step less refl whole
  low_step less whole (IsValue part) = same_step less refl whole
  low_step less whole (IsLocation part) = same_step less refl whole
  low_step less whole IsConstantList = same_step less refl whole
  low_step less whole (IsConversion {inner = inner} node) =
      inner_step (forms.Conversion inner) less refl refl node
  low_step less whole (IsEmbedded target value) = same_step less refl whole
  low_step less whole (IsUnary operand) = same_step less refl whole
  low_step less whole (IsBinary left right) = same_step less refl whole
  low_step less whole (IsCallOf are) = same_step less refl whole
  low_step less whole (IsFunction {function = function} {operand = operand} node) =
      elim (taken function) [
        | inl low ↦
            inner_step (forms.Function function operand) less (low_byte_of_operand nodes function operand low)
            refl node
        | inr high ↦ same_step less (low_byte_of_itself nodes function operand high) whole
      ]
  low_step less whole (IsShift value count) = same_step less refl whole
  low_step less whole IsInput = same_step less refl whole

  -- the high byte of an ADDRESS in memory
  high_kept :
      {bound limit : ℕ} {tree : TypedExpression} (scalar : ScalarType) (form : ExpressionForm)
      (reference : Reference)
      → Below limit
      → bound ≤ limit
      → IsForm nodes storage bound form tree
      → byte_after scalar form ≡ Some reference
      → Kept (keeps_of_address nodes reference)
      → is_quiet_form nodes form ≡ true
  high_kept Address (forms.Value whole) reference below less (IsValue part) is kept =
      reference_kept below less part
      (subst (λ (one : Reference). Kept (keeps_of_part (home_at nodes.homes one.object)
      (keeps_of_subscript nodes one.subscript) (keeps_of_subscript nodes one.member_subscript)))
      (sym (ap (λ (found : Option Reference). option_map_or (λ (one : Reference). one) found reference) is))
      kept)
  high_kept Byte form reference below less shape is kept = absurd (none-some _ is)
  high_kept Address (forms.Number number) reference below less shape is kept = absurd (none-some _ is)
  high_kept Address (forms.Location part) reference below less shape is kept = absurd (none-some _ is)
  high_kept Address (forms.List offset) reference below less shape is kept = absurd (none-some _ is)
  high_kept Address (forms.Conversion inner) reference below less shape is kept = absurd (none-some _ is)
  high_kept Address (forms.Unary operator operand) reference below less shape is kept =
      absurd (none-some _ is)
  high_kept Address (forms.Binary operands operator left right) reference below less shape is kept =
      absurd (none-some _ is)
  high_kept Address (forms.Function function operand) reference below less shape is kept =
      absurd (none-some _ is)
  high_kept Address (forms.Shift function value count) reference below less shape is kept =
      absurd (none-some _ is)
  high_kept Address (forms.Assignment target value) reference below less shape is kept =
      absurd (none-some _ is)
  high_kept Address (forms.Call procedure range) reference below less shape is kept = absurd (none-some _ is)
  high_kept Address (forms.Input port) reference below less shape is kept = absurd (none-some _ is)

  -- the part of memory that holds the low byte of a form
  inner_kept :
      {bound limit : ℕ} {form : ExpressionForm} {tree : TypedExpression} (reference : Reference)
      → Below limit
      → bound ≤ limit
      → IsForm nodes storage bound form tree
      → memory_of_inner nodes form ≡ Some reference
      → Kept (keeps_of_address nodes reference)
      → is_quiet_form nodes form ≡ true
  inner_kept reference below less IsNumber is kept = absurd (none-some _ is)
  inner_kept reference below less (IsValue {reference = whole} part) is kept =
      reference_kept below less part
      (subst (λ (one : Reference). Kept (keeps_of_address nodes one))
      (sym (ap (λ (found : Option Reference). option_map_or (λ (one : Reference). one) found reference) is))
      kept)
  inner_kept reference below less (IsLocation part) is kept = absurd (none-some _ is)
  inner_kept reference below less IsConstantList is kept = absurd (none-some _ is)
  inner_kept reference below less (IsConversion node) is kept = absurd (none-some _ is)
  inner_kept reference below less (IsEmbedded target value) is kept = absurd (none-some _ is)
  inner_kept reference below less (IsUnary operand) is kept = absurd (none-some _ is)
  inner_kept reference below less (IsBinary left right) is kept = absurd (none-some _ is)
  inner_kept reference below less (IsCallOf are) is kept = absurd (none-some _ is)
  inner_kept reference below less
      (IsFunction {function = function} {operand = operand}
      (IsNode {expression = expression} less_than at scalar shape)) is kept =
      by_byte
      (λ (found : Option Reference). found ≡ Some reference
      → is_quiet_form nodes (forms.Function function operand) ≡ true)
      (byte_taken function) None (high_in_memory nodes operand) (λ _ its. absurd (none-some _ its))
      (λ _ its. quiet_of_entry operand.index expression at
      ∙ high_kept expression.traits.scalar expression.form reference below
      (omega (arith, less_than, less)) shape
      (sym (ap (λ (found : Option Expression). option_and_then
      (λ (one : Expression). byte_after one.traits.scalar one.form) found) at) ∙ its) kept)
      is
  inner_kept reference below less (IsShift value count) is kept = absurd (none-some _ is)
  inner_kept reference below less IsInput is kept = absurd (none-some _ is)

  -- a byte with zeros added
  byte_kept :
      {bound limit : ℕ} {form : ExpressionForm} {tree : TypedExpression}
      → Below limit
      → bound ≤ limit
      → IsForm nodes storage bound form tree
      → Kept (keeps_of_byte nodes form)
      → is_quiet_form nodes form ≡ true
  byte_kept {limit = limit} {form = form} below less shape kept = by (memory_of_form nodes form) refl kept
    where
      one : LowStep limit form
      one = low_step less shape shape

      two : LowStep limit one.inner
      two = low_step one.less one.shape one.shape

      is_inner : memory_of_form nodes form ≡ memory_of_inner nodes two.inner
      is_inner =
          ap (λ (inside : ExpressionForm). memory_of_inner nodes (same_low_byte nodes inside)) one.is
          ∙ ap (memory_of_inner nodes) two.is

      by : (found : Option Reference) → memory_of_form nodes form ≡ found
          → Kept (option_map_or (keeps_of_address nodes) found keeps_none)
          → is_quiet_form nodes form ≡ true
      by (Some reference) is kept =
          one.quiet (two.quiet (inner_kept reference below two.less two.shape (sym is_inner ∙ is) kept))
      by None is kept = none_is_kept kept

  -- an operand as an ADDRESS
  extended_kept : (form : ExpressionForm) (traits : Traits)
      → Kept (keeps_of_extended nodes form traits)
      → Kept (keeps_of_byte nodes form) ⊎ Kept traits.keeps
  extended_kept form traits kept =
      by traits.scalar
      (subst (λ (kind : ScalarType). Kept
      (keeps_of_extended nodes form (record traits { scalar = kind }))) refl kept)
    where
      by : (kind : ScalarType) → Kept (keeps_of_extended nodes form (record traits { scalar = kind }))
          → Kept (keeps_of_byte nodes form) ⊎ Kept traits.keeps
      by Byte kept = inl kept
      by Address kept = inr kept

  at_node : {bound limit number : ℕ} {tree : TypedExpression}
      → Below limit
      → bound ≤ limit
      → IsExpression nodes storage bound number tree
      → Kept (keeps_at nodes (record { index = number }))
      → quiet_at nodes (record { index = number }) ≡ true
  at_node {number = number} {tree = tree} below less (IsNode less_than at scalar shape) kept =
      below _ number tree (omega (arith, less_than, less)) (IsNode less_than at scalar shape) kept

  wrapped_kept : {bound limit : ℕ} {form : ExpressionForm} {tree inside : TypedExpression}
      {number : ExpressionNumber}
      → Below limit
      → bound ≤ limit
      → IsForm nodes storage bound form tree
      → IsExpression nodes storage bound number.index inside
      → is_quiet_form nodes form ≡ quiet_at nodes number
      → Kept (keeps_of_extended nodes form (traits_at nodes number))
      → is_quiet_form nodes form ≡ true
  wrapped_kept {form = form} {number = number} below less shape node same kept =
      by (extended_kept form (traits_at nodes number) kept)
    where
      by : Kept (keeps_of_byte nodes form) ⊎ Kept (keeps_at nodes number) → is_quiet_form nodes form ≡ true
      by (inl byte) = byte_kept below less shape byte
      by (inr whole) = same ∙ at_node below less node whole

  -- the code of one operand, where the other is known
  chosen_kept : {one other : Bool} {first second : Keeps} (quiet : Bool)
      → (one ≡ true → Kept first → quiet ≡ true)
      → (other ≡ true → Kept second → quiet ≡ true)
      → Kept (if one then first else if other then second else keeps_none)
      → quiet ≡ true
  chosen_kept {one = true} quiet left right kept = left refl kept
  chosen_kept {one = false} {other = true} quiet left right kept = right refl kept
  chosen_kept {one = false} {other = false} quiet left right kept = none_is_kept kept

  either_kept : {one : Bool} {first : Keeps} (quiet : Bool)
      → (one ≡ true → Kept first → quiet ≡ true)
      → Kept (if one then first else keeps_none)
      → quiet ≡ true
  either_kept {one = true} quiet left kept = left refl kept
  either_kept {one = false} quiet left kept = none_is_kept kept

  form_kept :
      {bound limit : ℕ} {form : ExpressionForm} {tree : TypedExpression} (scalar : ScalarType)
      → Below limit
      → bound ≤ limit
      → IsForm nodes storage bound form tree
      → IsForm nodes storage bound form tree
      → Kept (keeps_of_form nodes scalar form)
      → is_quiet_form nodes form ≡ true
  form_kept scalar below less whole IsNumber kept = refl
  form_kept Byte below less whole (IsValue part) kept = reference_kept below less part kept
  form_kept Address below less whole (IsValue part) (inl kept) = part_known_quiet part kept
  form_kept Address below less whole (IsValue part) (inr kept) = reference_kept below less part (inr kept)
  form_kept Byte below less whole (IsLocation part) kept = reference_kept below less part kept
  form_kept Address below less whole (IsLocation part) kept = reference_kept below less part kept
  form_kept scalar below less whole IsConstantList kept = refl
  form_kept Byte below less whole (IsConversion node) kept = byte_kept below less whole kept
  form_kept Address below less whole (IsConversion node) kept = wrapped_kept below less whole node refl kept
  form_kept Byte below less whole (IsEmbedded target value) kept = none_is_kept kept
  form_kept Address below less whole (IsEmbedded target value) kept = none_is_kept kept
  form_kept Byte below less whole (IsUnary operand) kept = none_is_kept kept
  form_kept Address below less whole (IsUnary operand) kept = none_is_kept kept
  form_kept Byte below less whole (IsCallOf are) kept = none_is_kept kept
  form_kept Address below less whole (IsCallOf are) kept = none_is_kept kept
  form_kept Byte below less whole IsInput kept = none_is_kept kept
  form_kept Address below less whole IsInput kept = none_is_kept kept
  form_kept Byte below less whole (IsFunction node) kept = byte_kept below less whole kept
  form_kept Address below less whole (IsFunction node) kept = wrapped_kept below less whole node refl kept
  form_kept Byte below less whole (IsBinary first second) kept = none_is_kept kept
  form_kept Address below less whole (IsBinary {operator = Add} first second) kept =
      chosen_kept _
      (λ known left. and_from _ _ (at_node below less first left) (known_quiet second known))
      (λ known right. and_from _ _ (known_quiet first known) (at_node below less second right)) kept
  form_kept Address below less whole (IsBinary {operator = Multiply} first second) kept =
      chosen_kept _
      (λ known left. and_from _ _ (at_node below less first left) (known_quiet second (from_value _ _ known)))
      (λ known right. and_from _ _ (known_quiet first (from_value _ _ known))
      (at_node below less second right)) kept
  form_kept Address below less whole (IsBinary {operator = Subtract} first second) kept =
      either_kept _
      (λ known left. and_from _ _ (at_node below less first left) (known_quiet second (from_value _ _ known)))
      kept
  form_kept Address below less whole (IsBinary {operator = Or} first second) kept = none_is_kept kept
  form_kept Address below less whole (IsBinary {operator = Xor} first second) kept = none_is_kept kept
  form_kept Address below less whole (IsBinary {operator = And} first second) kept = none_is_kept kept
  form_kept Address below less whole (IsBinary {operator = Equal} first second) kept = none_is_kept kept
  form_kept Address below less whole (IsBinary {operator = Less} first second) kept = none_is_kept kept
  form_kept Address below less whole (IsBinary {operator = Greater} first second) kept = none_is_kept kept
  form_kept Address below less whole (IsBinary {operator = LessOrEqual} first second) kept = none_is_kept kept
  form_kept Address below less whole (IsBinary {operator = GreaterOrEqual} first second) kept =
      none_is_kept kept
  form_kept Address below less whole (IsBinary {operator = Unequal} first second) kept = none_is_kept kept
  form_kept Address below less whole (IsBinary {operator = Divide} first second) kept = none_is_kept kept
  form_kept Address below less whole (IsBinary {operator = Modulo} first second) kept = none_is_kept kept
  form_kept Byte below less whole (IsShift value count) kept = none_is_kept kept
  form_kept Address below less whole (IsShift {function = ShiftLeft} {value = value} {count = count} moved by)
      kept =
      shifted_by (number_at nodes count) refl kept
    where
      shifted_by : (found : Option ℕ) → number_at nodes count ≡ found
          → Kept (keeps_of_shift nodes ShiftLeft value found)
          → (quiet_at nodes value && quiet_at nodes count) ≡ true
      shifted_by (Some number) is kept =
          either_kept _
          (λ small left. and_from _ _ (at_node below less moved left)
          (known_quiet by (from_value _ _ (some_of (number_at nodes count) number is)))) kept
      shifted_by None is kept = none_is_kept kept
  form_kept Address below less whole (IsShift {function = ShiftRight} moved by) kept = none_is_kept kept
  form_kept Address below less whole (IsShift {function = RotateLeft} moved by) kept = none_is_kept kept
  form_kept Address below less whole (IsShift {function = RotateRight} moved by) kept = none_is_kept kept

  -- the registers that the code of a node keeps
  keeps_of_entry : (number : ℕ) (expression : Expression)
      → slice_get nodes.expressions number ≡ Some expression
      → keeps_at nodes (record { index = number })
      ≡ keeps_of nodes expression.traits.scalar
      (known_of nodes expression.traits.scalar expression.form) expression.form
  unfolding traits_of
  keeps_of_entry number expression at =
      ap (λ (traits : Traits). traits.keeps) (node_traits nodes number expression keeps at)

  shape_kept :
      {bound limit : ℕ} {form : ExpressionForm} {tree : TypedExpression} (scalar : ScalarType)
      → Below limit
      → bound ≤ limit
      → IsForm nodes storage bound form tree
      → Kept (keeps_of nodes scalar (known_of nodes scalar form) form)
      → is_quiet_form nodes form ≡ true
  shape_kept {form = form} scalar below less shape kept = by (known_of nodes scalar form) refl kept
    where
      by : (found : Option Place) → known_of nodes scalar form ≡ found
          → Kept (keeps_of nodes scalar found form)
          → is_quiet_form nodes form ≡ true
      by (Some place) is kept = form_known_quiet scalar shape (some_of (known_of nodes scalar form) place is)
      by None is kept = form_kept scalar below less shape shape kept

  kept_below : (limit : ℕ) → Below limit
  kept_below zero bound number tree less node kept = absurd (omega (arith, less))
  kept_below (suc limit) bound number tree less
      (IsNode {expression = expression} less_than at scalar shape) kept =
      quiet_of_entry number expression at
      ∙ shape_kept expression.traits.scalar (kept_below limit) (omega (arith, less)) shape
      (subst (λ (one : Keeps). Kept one) (keeps_of_entry number expression at) kept)

  -- an expression with code that keeps A or DE is quiet
  pub kept_quiet :
      (bound number : ℕ) (tree : TypedExpression)
      → IsExpression nodes storage bound number tree
      → Kept (keeps_at nodes (record { index = number }))
      → quiet_at nodes (record { index = number }) ≡ true
  kept_quiet bound number tree node kept = kept_below (suc number) bound number tree (omega arith) node kept
