-- Relations of ADDRESSes.
use Rattle.measure_laws.proofs.Prelude.{Bool, IfSome, None, Option, Some, [], arith, false, if◌then◌else◌, nat_lt, refl, true, ℕ, ◌%◌, ◌&&◌, ◌*◌, ◌++◌, ◌+◌, ◌/◌, ◌==◌, ◌||◌, ◌∷◌, ◌≡◌, ◌≤◌, ltb-true, Inx, Hl, A, Expression, ExpressionForm, ExpressionNumber, Place, Reference, load, Comparison, NumberQuestion, Below, Is, Never, Question, Equal, LeftBelow, RightBelow, direct, may_exchange, expression, fits_byte, high_byte_in_memory, is_word_in_hl, negated, number_in_a_steps, pair_order, apart_of, high_steps, in_hl, left_apart, load_a_steps, low_steps, masked_form, masked_steps, other_word, place_apart, right_apart, taken_steps, with_place_steps, word_below_steps, word_is_steps, word_number_steps, word_question_steps, word_relation_steps, word_taken_from, words_steps, Setting, Apart, WordRegisters, masked, operand_apart, word_is_zero_steps, beside}
use Rattle.trees.specs.declared.declaration.ScalarType.TheVariants as scalars
use Rattle.trees.specs.declared.expression.BinaryOperator.TheVariants as operators
use Rattle.treecode.specs.declared.expression.ExpressionForm.TheVariants as forms
use Rattle.steps8080.specs.internal.Queries as queries
use Rattle.steps8080.specs.declared.step.Step.TheVariants as steps
use Rattle.steps8080.specs.declared.step.Task.TheVariants as tasks
use Rattle.steps8080.specs.internal.Step.{part}
use Rattle.operands8080.specs.internal.WordRelations.{difference_steps, high_byte_steps, with_pair_steps}
use Rattle.measure_laws.specs.internal.Footprints.{Footprint, Ground, HasParts, IsBelow}
use Rattle.measure_laws.proofs.{Footprints.ByteRelations.{byte_number_footprint, byte_relation_footprint, number_in_a_footprint}, Footprints.Found.{IsInMemory, high_is_in_memory, of_found}, Footprints.Joining.{after_part, after_plain, by_asking, by_finding, by_test, counted, joined, repeated, operand_from_below, within}, Footprints.Pairs.{pair_footprint}, Footprints.Trees.{has_parts}}

-- the high byte of an ADDRESS
high_byte_footprint :
    {at : Ground} {free : ℕ} (operand : ExpressionNumber) (pushed : ℕ)
    → IsBelow at free operand
    → Footprint at free (high_byte_steps at.site operand pushed) free (77 + 128 * beside at.site operand)
unfolding high_byte_steps
high_byte_footprint {at = at} {free = free} operand pushed is =
    by_finding (high_byte_in_memory at.site operand)
    (λ reference there. by_test (is_word_in_hl at.site operand)
    (counted (operand_from_below is, refl) (omega arith))
    (in_memory reference
    (of_found (IsInMemory at free operand)
    (high_is_in_memory at free operand (operand_from_below is)) there)))
    (λ none. counted (operand_from_below is, refl) (omega arith))
  where
    in_memory : (reference : Reference) → IsInMemory at free operand reference
        → Footprint at free (elim (direct at.site reference) [
          | Some place ↦ load_a_steps place
          | None ↦ part (tasks.Address reference) pushed ∷ steps.Plain (load A) ∷ []
        ]) free (77 + 128 * beside at.site operand)
    in_memory reference has =
        by_finding (direct at.site reference) (λ place is_there. counted refl (omega arith))
        (λ none. counted (has.place, refl) (omega (arith, has.small)))

difference_footprint :
    {at : Ground} {free : ℕ} (number : ℕ)
    → Footprint at free (difference_steps number) free 4
difference_footprint number =
    by_asking (nat_lt (negated number) 4)
    (λ is. within (negated number) (repeated (Inx Hl) (negated number) refl refl)
    (omega (arith, ltb-true (negated number) 4 is))) (λ not_less. counted refl (omega arith))

word_is_footprint : {at : Ground} {free : ℕ} (number : ℕ) → Footprint at free (word_is_steps number) free 6
word_is_footprint number =
    by_test (number == 0) (counted refl (omega arith))
    (by_test (nat_lt number 256) (counted refl (omega arith))
    (joined 4 2 (difference_footprint number) (counted refl (omega arith)) (omega arith)))

masked_footprint :
    {at : Ground} {free : ℕ} (operand : ExpressionNumber) (mask pushed : ℕ)
    → IsBelow at free operand
    → Footprint at free (masked_steps at.site operand mask pushed) free (79 + 128 * beside at.site operand)
masked_footprint {at = at} operand mask pushed is =
    by_test (nat_lt mask 256) (counted (operand_from_below is, refl) (omega arith))
    (joined (77 + 128 * beside at.site operand) 2 (high_byte_footprint operand pushed is)
    (counted refl (omega arith)) (omega arith))

-- the operand of AND with a number
record IsMasked (at : Ground) (free : ℕ) (operand : ExpressionNumber) (found : ExpressionNumber × ℕ) :
    Type 0 where
  pub one : IsBelow at free found.0
  pub small : beside at.site found.0 ≤ beside at.site operand

masked_form_is :
    (at : Ground) (free : ℕ) (operand : ExpressionNumber) (form : ExpressionForm)
    → HasParts at free operand form
    → IfSome (masked_form at.site form) (IsMasked at free operand)
masked_form_is at free operand (forms.Binary scalars.Address operators.And left right) has =
    by (queries.number at.site right) (queries.number at.site left)
  where
    by : (first second : Option ℕ)
        → IfSome (elim first [
          | Some mask ↦ Some (left, mask)
          | None ↦ elim second [
            | Some mask ↦ Some (right, mask)
            | None ↦ None
          ]
        ]) (IsMasked at free operand)
    by (Some mask) second = record { one = has.one; small = omega (arith, has.same) }
    by None (Some mask) = record { one = has.two; small = omega (arith, has.same) }
    by None None = tt
masked_form_is at free operand form has = tt

masked_is :
    (at : Ground) (free : ℕ) (operand : ExpressionNumber)
    → IsBelow at free operand
    → IfSome (masked at.site operand) (IsMasked at free operand)
unfolding masked
masked_is at free operand is = by (expression at.site operand) refl
  where
    by : (found : Option Expression) → expression at.site operand ≡ found
        → IfSome (elim found [ Some one ↦ masked_form at.site one.form | None ↦ None ])
        (IsMasked at free operand)
    by (Some one) there = masked_form_is at free operand one.form (has_parts at (operand_from_below is) there)
    by None there = tt

word_is_zero_footprint :
    {at : Ground} {free : ℕ} (operand : ExpressionNumber) (setting : Setting)
    → IsBelow at free operand
    → Footprint at free (word_is_zero_steps at.site operand setting) free (82 + 128 * beside at.site operand)
unfolding word_is_zero_steps
word_is_zero_footprint {at = at} {free = free} operand setting is =
    by_finding (masked at.site operand)
    (λ found there. by_test (nat_lt found.1 256 || found.1 % 256 == 0)
    (inner found (of_found (IsMasked at free operand) (masked_is at free operand is) there))
    (after_part 6 (operand_from_below is) (word_is_footprint 0) (omega arith)))
    (λ none. after_part 2 (operand_from_below is)
    (within 2 (counted refl (omega arith)) (omega arith)) (omega arith))
  where
    inner :
        (found : ExpressionNumber × ℕ)
        → IsMasked at free operand found
        → Footprint at free
        (masked_steps at.site found.0 found.1 setting.pushed ++ number_in_a_steps (Is 0) setting) free
        (82 + 128 * beside at.site operand)
    inner found has =
        joined (79 + 128 * beside at.site found.0) 2 (masked_footprint found.0 found.1 setting.pushed has.one)
        (number_in_a_footprint (Is 0) setting) (omega (arith, has.small))

word_below_footprint :
    {at : Ground} {free : ℕ} (operand : ExpressionNumber) (number : ℕ) (setting : Setting)
    → IsBelow at free operand
    → Footprint at free (word_below_steps at.site operand number setting) free
    (82 + 128 * beside at.site operand)
word_below_footprint {at = at} operand number setting is =
    by_test (number % 256 == 0)
    (joined (77 + 128 * beside at.site operand) 2 (high_byte_footprint operand setting.pushed is)
    (number_in_a_footprint (Below (number / 256)) setting) (omega arith))
    (counted (operand_from_below is, refl) (omega arith))

word_question_footprint :
    {at : Ground} {free : ℕ} (operand : ExpressionNumber) (question : NumberQuestion) (setting : Setting)
    → IsBelow at free operand
    → Footprint at free (word_question_steps at.site operand question setting) free
    (82 + 128 * beside at.site operand)
word_question_footprint operand Never setting is = counted (operand_from_below is, refl) (omega arith)
word_question_footprint operand (Below number) setting is =
    by_test (number == 1) (word_is_zero_footprint operand setting is)
    (word_below_footprint operand number setting is)
word_question_footprint operand (Is number) setting is =
    by_test (number == 0) (word_is_zero_footprint operand setting is)
    (after_part 6 (operand_from_below is) (word_is_footprint number) (omega arith))

pub word_number_footprint :
    {at : Ground} {free : ℕ} (operand : ExpressionNumber) (question : NumberQuestion) (setting : Setting)
    → IsBelow at free operand
    → Footprint at free (word_number_steps at.site operand question setting) free
    (82 + 128 * beside at.site operand)
word_number_footprint {at = at} operand question setting is =
    by_test (fits_byte at.site operand)
    (within (78 + 128 * beside at.site operand) (byte_number_footprint operand question setting is)
    (omega arith)) (word_question_footprint operand question setting is)

-- the operand that does not stay in memory
pub record IsOther (at : Ground) (free limit : ℕ) (apart : Apart) : Type 0 where
  pub one : IsBelow at free apart.other
  pub small : beside at.site apart.other ≤ limit

apart_is :
    (at : Ground) (free : ℕ) (limit : ℕ) (found : Option Place) (other : ExpressionNumber)
    → IsBelow at free other → beside at.site other ≤ limit
    → IfSome (apart_of found other) (IsOther at free limit)
apart_is at free limit (Some place) other is small = record { one = is; small = small }
apart_is at free limit None other is small = tt

operand_apart_is :
    (at : Ground) (free : ℕ) (comparison : Comparison)
    → IsBelow at free comparison.left → IsBelow at free comparison.right
    → IfSome (operand_apart at.site comparison)
    (IsOther at free (beside at.site comparison.left + beside at.site comparison.right))
unfolding operand_apart
operand_apart_is at free comparison one two = by comparison.question
  where
    on_right :
        IfSome (right_apart at.site comparison)
        (IsOther at free (beside at.site comparison.left + beside at.site comparison.right))
    on_right =
        apart_is at free (beside at.site comparison.left + beside at.site comparison.right)
        (place_apart at.site comparison.right) comparison.left one (omega arith)

    allowed :
        (b : Bool)
        → IfSome (if b then apart_of (place_apart at.site comparison.left) comparison.right else None)
        (IsOther at free (beside at.site comparison.left + beside at.site comparison.right))
    allowed true =
        apart_is at free (beside at.site comparison.left + beside at.site comparison.right)
        (place_apart at.site comparison.left) comparison.right two (omega arith)
    allowed false = tt

    either : (found : Option Apart)
        → IfSome found (IsOther at free (beside at.site comparison.left + beside at.site comparison.right))
        → IfSome (elim found [ Some one ↦ Some one | None ↦ left_apart at.site comparison ])
        (IsOther at free (beside at.site comparison.left + beside at.site comparison.right))
    either (Some one) has = has
    either None has = allowed (may_exchange at.site comparison.left comparison.right)

    by : (question : Question)
        → IfSome (elim question [
          | LeftBelow ↦ left_apart at.site comparison
          | RightBelow ↦ right_apart at.site comparison
          | Equal ↦ elim (right_apart at.site comparison) [
            | Some found ↦ Some found
            | None ↦ left_apart at.site comparison
          ]
        ]) (IsOther at free (beside at.site comparison.left + beside at.site comparison.right))
    by LeftBelow = allowed (may_exchange at.site comparison.left comparison.right)
    by RightBelow = on_right
    by Equal = either (right_apart at.site comparison) on_right

low_footprint :
    {at : Ground} {free : ℕ} (word : WordRegisters) (question : Question)
    → Footprint at free (low_steps word question) free 2
low_footprint word LeftBelow = counted refl (omega arith)
low_footprint word RightBelow = counted refl (omega arith)
low_footprint word Equal = counted refl (omega arith)

high_footprint :
    {at : Ground} {free : ℕ} (word : WordRegisters) (question : Question)
    → Footprint at free (high_steps word question) free 2
high_footprint word LeftBelow = counted refl (omega arith)
high_footprint word RightBelow = counted refl (omega arith)
high_footprint word Equal = counted refl (omega arith)

with_place_footprint :
    {at : Ground} {free : ℕ} (apart : Apart) (question : Question) (pushed : ℕ)
    → IsBelow at free apart.other
    → Footprint at free (with_place_steps apart question pushed) free (86 + 128 * beside at.site apart.other)
with_place_footprint {at = at} {free = free} apart question pushed is =
    let begun : Footprint at free (part (tasks.Word apart.other) pushed ∷ load_a_steps apart.place) free
    (79 + 128 * beside at.site apart.other) = counted (operand_from_below is, refl) (omega arith) in
    joined (84 + 128 * beside at.site apart.other) 2
    (joined (81 + 128 * beside at.site apart.other) 3
    (joined (79 + 128 * beside at.site apart.other) 2 begun (low_footprint in_hl question) (omega arith))
    (counted refl (omega arith)) (omega arith))
    (high_footprint in_hl question) (omega arith)

taken_footprint :
    {at : Ground} {free : ℕ} (from taken : WordRegisters) (question : Question)
    → Footprint at free (taken_steps from taken question) free 6
taken_footprint from taken question =
    after_plain 5 refl
    (joined 2 3 (low_footprint taken question)
    (after_plain 2 refl (high_footprint taken question) (omega arith)) (omega arith)) (omega arith)

with_pair_footprint :
    {at : Ground} {free : ℕ} (comparison : Comparison) (pushed : ℕ)
    → IsBelow at free comparison.left → IsBelow at free comparison.right
    → Footprint at free (with_pair_steps at.site comparison pushed) free
    (162 + 128 * (beside at.site comparison.left + beside at.site comparison.right))
with_pair_footprint {at = at} comparison pushed one two =
    joined (156 + 128 * beside at.site comparison.left + 128 * beside at.site comparison.right) 6
    (pair_footprint comparison.left comparison.right false pushed one two)
    (taken_footprint
    (word_taken_from comparison.question (pair_order at.site comparison.left comparison.right false))
    (other_word
    (word_taken_from comparison.question (pair_order at.site comparison.left comparison.right false)))
    comparison.question) (omega arith)

-- two ADDRESSes that are compared
pub word_relation_footprint :
    {at : Ground} {free : ℕ} (comparison : Comparison) (setting : Setting)
    → IsBelow at free comparison.left → IsBelow at free comparison.right
    → Footprint at free (word_relation_steps at.site comparison setting) free
    (162 + 128 * (beside at.site comparison.left + beside at.site comparison.right))
word_relation_footprint {at = at} {free = free} comparison setting one two =
    by_test (fits_byte at.site comparison.left && fits_byte at.site comparison.right)
    (within (156 + 128 * (beside at.site comparison.left + beside at.site comparison.right))
    (byte_relation_footprint comparison setting one two) (omega arith))
    (by_finding (operand_apart at.site comparison)
    (λ apart there. beside_place apart
    (of_found (IsOther at free (beside at.site comparison.left + beside at.site comparison.right))
    (operand_apart_is at free comparison one two) there))
    (λ none. with_pair_footprint comparison setting.pushed one two))
  where
    beside_place :
        (apart : Apart)
        → IsOther at free (beside at.site comparison.left + beside at.site comparison.right) apart
        → Footprint at free (with_place_steps apart comparison.question setting.pushed) free
        (162 + 128 * (beside at.site comparison.left + beside at.site comparison.right))
    beside_place apart is =
        within (86 + 128 * beside at.site apart.other)
        (with_place_footprint apart comparison.question setting.pushed is.one) (omega (arith, is.small))

-- two ADDRESSes that are put into places where they can be compared
pub words_footprint :
    {at : Ground} {free : ℕ} (comparison : Comparison) (pushed : ℕ)
    → IsBelow at free comparison.left → IsBelow at free comparison.right
    → Footprint at free (words_steps at.site comparison pushed) free
    (156 + 128 * (beside at.site comparison.left + beside at.site comparison.right))
words_footprint {at = at} {free = free} comparison pushed one two =
    by_finding (operand_apart at.site comparison)
    (λ apart there. other apart
    (of_found (IsOther at free (beside at.site comparison.left + beside at.site comparison.right))
    (operand_apart_is at free comparison one two) there))
    (λ none. within (156 + 128 * beside at.site comparison.left + 128 * beside at.site comparison.right)
    (pair_footprint comparison.left comparison.right false pushed one two) (omega arith))
  where
    other :
        (apart : Apart)
        → IsOther at free (beside at.site comparison.left + beside at.site comparison.right) apart
        → Footprint at free (part (tasks.Word apart.other) pushed ∷ []) free
        (156 + 128 * (beside at.site comparison.left + beside at.site comparison.right))
    other apart is = counted (operand_from_below is.one, refl) (omega (arith, is.small, is.one.word_small))
