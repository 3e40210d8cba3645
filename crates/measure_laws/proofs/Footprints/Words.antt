-- Shifts of words, and operators with the result in HL.
use Rattle.measure_laws.proofs.Prelude.{Bool, IfSome, None, Option, Some, [], arith, false, if◌then◌else◌, nat_le, nat_lt, refl, true, ℕ, ◌%◌, ◌&&◌, ◌*◌, ◌+◌, ◌-◌, ◌==◌, ◌∷◌, ◌≤◌, leb-false, BinaryOperator, UnaryOperator, Negate, Not, ShiftFunction, RotateLeft, RotateRight, ShiftLeft, ShiftRight, Dad, Operation, And, ExclusiveOr, Or, Subtract, SubtractWithBorrow, Hl, Register, A, H, L, ExpressionNumber, Place, Number, clear_a, copy, high, low, set, with_register, is_free, known, may_exchange, number_of, direct_word, fits_byte, is_word_in_hl, power, pair_order, PairOrder, LeftInHl, RightInHl, Operands, Shifted, Simple, number_of_two, and_with_number_steps, both_halves_steps, computed_logic_steps, difference_steps, exchanged_operand, first_and_simple, half_steps, half_through_a_steps, high_half_steps, is_of_bytes, left_word, logic_steps, logic_with_byte_steps, logic_with_number_steps, logic_with_simple_steps, paired_steps, product_word_steps, quotient_steps, remainder_steps, simple_operand, sum_steps, taken_from_number_steps, with_pair_steps, with_simple, with_word_steps, word_binary_steps, computed_count_steps, count_beside_word_steps, shifted_half_steps, quarter_steps, shifted_right_little_steps, word_by_number_steps, word_shift_steps, word_shifted_right_steps, word_unary_steps, beside}
use Rattle.trees.specs.declared.expression.BinaryOperator.TheVariants as operators
use Rattle.exprgen8080.specs.declared.word_operators.Simple.TheVariants as simple
use Rattle.exprgen8080.specs.internal.WordShifts.{shifted_left_steps, zero_steps}
use Rattle.steps8080.specs.declared.step.Step.TheVariants as steps
use Rattle.steps8080.specs.internal.Step.{plain}
use Rattle.measure_laws.specs.internal.Footprints.{Footprint, Ground, IsBelow}
use Rattle.measure_laws.proofs.{Footprints.Addresses.{addition_footprint}, Footprints.Bytes.{byte_operation_footprint, byte_shifted_right_footprint, computed_product_footprint, division_footprint, high_byte_footprint, right_shift_footprint, with_number_footprint}, Footprints.Chains.{product_footprint}, Footprints.Found.{of_found}, Footprints.Joining.{after_part, after_plain, by_asking, by_finding, by_test, counted, joined, lowered, repeated, restored, two_free, operand_from_below, within}, Footprints.Pairs.{pair_footprint}}

zero_footprint :
    {at : Ground} {free : ℕ} (value : ExpressionNumber) (pushed : ℕ)
    → IsBelow at free value
    → Footprint at free (zero_steps value pushed) free (75 + 128 * beside at.site value)
unfolding zero_steps
zero_footprint value pushed is = counted (operand_from_below is, refl) (omega arith)

shifted_left_footprint :
    {at : Ground} {free : ℕ} (value : ExpressionNumber) (count pushed : ℕ)
    → IsBelow at free value
    → Footprint at free (shifted_left_steps value count pushed) free (90 + 128 * beside at.site value)
unfolding shifted_left_steps
shifted_left_footprint {at = at} value count pushed is =
    by_asking (nat_le 16 count)
    (λ most. within (75 + 128 * beside at.site value) (zero_footprint value pushed is) (omega arith))
    (λ few. by_asking (nat_le 8 count)
    (λ many. after_part 10 (operand_from_below is)
    (after_plain 9 refl
    (after_plain 7 refl
    (within (count - 8) (repeated (Dad Hl) (count - 8) refl refl) (omega (arith, leb-false 16 count few)))
    (omega arith)) (omega arith)) (omega arith))
    (λ fewer. after_part 7 (operand_from_below is)
    (within count (repeated (Dad Hl) count refl refl) (omega (arith, leb-false 8 count fewer)))
    (omega arith)))

half_footprint : {at : Ground} {free : ℕ} → Footprint at free shifted_half_steps free 7
unfolding shifted_half_steps
half_footprint = counted refl (omega arith)

quarter_footprint : {at : Ground} {free : ℕ} → Footprint at free quarter_steps free 14
unfolding quarter_steps
quarter_footprint = counted refl (omega arith)

little_footprint :
    {at : Ground} {free : ℕ} (value : ExpressionNumber) (count pushed : ℕ)
    → IsBelow at free value
    → Footprint at free (shifted_right_little_steps value count pushed) free (90 + 128 * beside at.site value)
unfolding shifted_right_little_steps
little_footprint value count pushed is =
    after_part 14 (operand_from_below is)
    (by_test (count == 0) (counted refl (omega arith))
    (by_test (count == 1) (within 7 half_footprint (omega arith))
    (by_test (count == 2) quarter_footprint (counted (two_free is, refl) (omega arith))))) (omega arith)

word_shifted_right_footprint :
    {at : Ground} {free : ℕ} (value : ExpressionNumber) (count pushed : ℕ)
    → IsBelow at free value
    → Footprint at free (word_shifted_right_steps at.site value count pushed) free
    (90 + 128 * beside at.site value)
unfolding word_shifted_right_steps
word_shifted_right_footprint {at = at} value count pushed is =
    by_test (count == 0) (counted (operand_from_below is, refl) (omega arith))
    (by_test (nat_le 16 count)
    (within (75 + 128 * beside at.site value) (zero_footprint value pushed is) (omega arith))
    (by_test (fits_byte at.site value)
    (joined (82 + 128 * beside at.site value) 3 (byte_shifted_right_footprint value count pushed is)
    (counted refl (omega arith)) (omega arith))
    (by_test (nat_le 8 count)
    (joined (83 + 128 * beside at.site value) 3
    (joined (77 + 128 * beside at.site value) 6 (high_byte_footprint value pushed is)
    (right_shift_footprint (count - 8)) (omega arith)) (counted refl (omega arith)) (omega arith))
    (little_footprint value count pushed is))))

count_footprint :
    {at : Ground} {free : ℕ} (count : ExpressionNumber) (pushed : ℕ)
    → IsBelow at free count
    → Footprint at free (count_beside_word_steps at.site count pushed) free (78 + 128 * beside at.site count)
unfolding count_beside_word_steps
count_footprint {at = at} count pushed is =
    by_test (is_free at.site count) (counted (operand_from_below is, refl) (omega arith))
    (counted (two_free is, (lowered is, restored is)) (omega arith))

computed_count_footprint :
    {at : Ground} {free : ℕ} (shifted : Shifted) (pushed : ℕ)
    → IsBelow at free shifted.value → IsBelow at free shifted.count
    → Footprint at free (computed_count_steps at.site shifted pushed) free
    (157 + 128 * beside at.site shifted.value + 128 * beside at.site shifted.count)
unfolding computed_count_steps
computed_count_footprint {at = at} shifted pushed one two =
    joined (154 + 128 * beside at.site shifted.value + 128 * beside at.site shifted.count) 3
    (after_part (78 + 128 * beside at.site shifted.count) (operand_from_below one)
    (count_footprint shifted.count pushed two) (omega arith)) (counted (two_free one, refl) (omega arith))
    (omega arith)

word_by_number_footprint :
    {at : Ground} {free : ℕ} (function : ShiftFunction) (value : ExpressionNumber) (count pushed : ℕ)
    → IsBelow at free value
    → Footprint at free (word_by_number_steps at.site function value count pushed) free
    (90 + 128 * beside at.site value)
unfolding word_by_number_steps
word_by_number_footprint ShiftRight value count pushed is = word_shifted_right_footprint value count pushed is
word_by_number_footprint RotateRight value count pushed is =
    word_shifted_right_footprint value count pushed is
word_by_number_footprint ShiftLeft value count pushed is = shifted_left_footprint value count pushed is
word_by_number_footprint RotateLeft value count pushed is = shifted_left_footprint value count pushed is

-- a shift of an ADDRESS
pub word_shift_footprint :
    {at : Ground} {free : ℕ} (shifted : Shifted) (pushed : ℕ)
    → IsBelow at free shifted.value → IsBelow at free shifted.count
    → Footprint at free (word_shift_steps at.site shifted pushed) free
    (157 + 128 * beside at.site shifted.value + 128 * beside at.site shifted.count)
unfolding word_shift_steps
word_shift_footprint {at = at} shifted pushed one two =
    by_finding (number_of at.site shifted.count)
    (λ count there. within (90 + 128 * beside at.site shifted.value)
    (word_by_number_footprint shifted.function shifted.value count pushed one) (omega arith))
    (λ none. computed_count_footprint shifted pushed one two)

sum_footprint :
    {at : Ground} {free : ℕ} (operands : Operands) (pushed : ℕ)
    → IsBelow at free operands.left → IsBelow at free operands.right
    → Footprint at free (sum_steps at.site operands pushed) free
    (162 + 128 * beside at.site operands.left + 128 * beside at.site operands.right)
unfolding sum_steps
sum_footprint {at = at} operands pushed one two =
    by_finding (known at.site operands.right)
    (λ place there. after_part 4 (operand_from_below one) (addition_footprint place) (omega arith))
    (λ none. by_finding (known at.site operands.left)
    (λ place there. after_part 4 (operand_from_below two) (addition_footprint place) (omega arith))
    (λ neither. joined (156 + 128 * beside at.site operands.left + 128 * beside at.site operands.right) 1
    (pair_footprint operands.left operands.right false pushed one two) (counted refl (omega arith))
    (omega arith)))

taken_from_footprint :
    {at : Ground} {free : ℕ} (number : ℕ)
    → Footprint at free (taken_from_number_steps number) free 8
unfolding taken_from_number_steps
taken_from_footprint {at = at} {free = free} number = by (low number == 0)
  where
    by :
        {at : Ground} {free : ℕ} (b : Bool)
        → Footprint at free
        ((if b then steps.Plain clear_a else steps.Plain (set A (low number))) ∷ plain
        (with_register Subtract L ∷ copy L A ∷ set A (high number) ∷ with_register SubtractWithBorrow H ∷ copy
        H A ∷ [])) free 8
    by true = counted refl (omega arith)
    by false = counted refl (omega arith)

with_word_footprint :
    {at : Ground} {free : ℕ} (place : Place) (on_low on_high : Operation)
    → Footprint at free (with_word_steps place on_low on_high) free 10
unfolding with_word_steps
with_word_footprint place on_low on_high = counted refl (omega arith)

with_pair_footprint :
    {at : Ground} {free : ℕ} (order : PairOrder) (on_low on_high : Operation)
    → Footprint at free (with_pair_steps order on_low on_high) free 6
unfolding with_pair_steps
with_pair_footprint LeftInHl on_low on_high = counted refl (omega arith)
with_pair_footprint RightInHl on_low on_high = counted refl (omega arith)

paired_footprint :
    {at : Ground} {free : ℕ} (operands : Operands) (on_low on_high : Operation) (pushed : ℕ)
    → IsBelow at free operands.left → IsBelow at free operands.right
    → Footprint at free (paired_steps at.site operands on_low on_high pushed) free
    (162 + 128 * beside at.site operands.left + 128 * beside at.site operands.right)
unfolding paired_steps
paired_footprint {at = at} operands on_low on_high pushed one two =
    joined (156 + 128 * beside at.site operands.left + 128 * beside at.site operands.right) 6
    (pair_footprint operands.left operands.right false pushed one two)
    (with_pair_footprint (pair_order at.site operands.left operands.right false) on_low on_high) (omega arith)

difference_footprint :
    {at : Ground} {free : ℕ} (operands : Operands) (pushed : ℕ)
    → IsBelow at free operands.left → IsBelow at free operands.right
    → Footprint at free (difference_steps at.site operands pushed) free
    (162 + 128 * beside at.site operands.left + 128 * beside at.site operands.right)
unfolding difference_steps
difference_footprint {at = at} operands pushed one two =
    by_finding (number_of at.site operands.right)
    (λ number there. after_part 4 (operand_from_below one)
    (addition_footprint (Number ((65536 - number) % 65536)))
    (omega arith))
    (λ none. by_finding (number_of at.site operands.left)
    (λ number there. after_part 8 (operand_from_below two) (taken_from_footprint number) (omega arith))
    (λ neither. by_finding (left_word at.site operands)
    (λ place there. after_part 10 (operand_from_below two)
    (with_word_footprint place Subtract SubtractWithBorrow)
    (omega arith)) (λ no_place. paired_footprint operands Subtract SubtractWithBorrow pushed one two)))

through_a_footprint :
    {at : Ground} {free : ℕ} (operation : Operation) (register : Register) (number : ℕ)
    → Footprint at free (half_through_a_steps operation register number) free 4
unfolding half_through_a_steps
through_a_footprint operation register number = counted refl (omega arith)

half_of_word_footprint :
    {at : Ground} {free : ℕ} (operation : Operation) (register : Register) (number : ℕ)
    → Footprint at free (half_steps operation register number) free 4
unfolding half_steps
half_of_word_footprint And register number =
    by_test (number == 255) (counted refl (omega arith))
    (by_test (number == 0) (counted refl (omega arith)) (through_a_footprint And register number))
half_of_word_footprint Or register number =
    by_test (number == 0) (counted refl (omega arith))
    (by_test (number == 255) (counted refl (omega arith)) (through_a_footprint Or register number))
half_of_word_footprint ExclusiveOr register number =
    by_test (number == 0) (counted refl (omega arith))
    (by_test (number == 255) (counted refl (omega arith)) (through_a_footprint ExclusiveOr register number))
half_of_word_footprint operation register number = through_a_footprint operation register number

high_half_footprint :
    {at : Ground} {free : ℕ} (value : ExpressionNumber) (number pushed : ℕ)
    → IsBelow at free value
    → Footprint at free (high_half_steps at.site value number pushed) free (82 + 128 * beside at.site value)
unfolding high_half_steps
high_half_footprint {at = at} value number pushed is =
    joined (79 + 128 * beside at.site value) 3
    (joined (77 + 128 * beside at.site value) 2 (high_byte_footprint value pushed is)
    (by_test (number == 255) (counted refl (omega arith)) (counted refl (omega arith))) (omega arith))
    (counted refl (omega arith)) (omega arith)

both_halves_footprint :
    {at : Ground} {free : ℕ} (operation : Operation) (value : ExpressionNumber) (number pushed : ℕ)
    → IsBelow at free value
    → Footprint at free (both_halves_steps operation value number pushed) free
    (84 + 128 * beside at.site value)
unfolding both_halves_steps
both_halves_footprint {at = at} operation value number pushed is =
    joined (80 + 128 * beside at.site value) 4
    (after_part 4 (operand_from_below is) (half_of_word_footprint operation L (low number)) (omega arith))
    (half_of_word_footprint operation H (high number)) (omega arith)

and_with_number_footprint :
    {at : Ground} {free : ℕ} (value : ExpressionNumber) (number pushed : ℕ)
    → IsBelow at free value
    → Footprint at free (and_with_number_steps at.site value number pushed) free
    (84 + 128 * beside at.site value)
unfolding and_with_number_steps
and_with_number_footprint {at = at} value number pushed is =
    by_test (nat_lt number 256)
    (joined (78 + 128 * beside at.site value) 3 (with_number_footprint And value (low number) pushed is)
    (counted refl (omega arith)) (omega arith))
    (by_test (low number == 0)
    (within (82 + 128 * beside at.site value) (high_half_footprint value (high number) pushed is)
    (omega arith)) (both_halves_footprint And value number pushed is))

logic_with_number_footprint :
    {at : Ground} {free : ℕ} (operation : Operation) (value : ExpressionNumber) (number pushed : ℕ)
    → IsBelow at free value
    → Footprint at free (logic_with_number_steps at.site operation value number pushed) free
    (84 + 128 * beside at.site value)
unfolding logic_with_number_steps
logic_with_number_footprint And value number pushed is = and_with_number_footprint value number pushed is
logic_with_number_footprint operation value number pushed is =
    both_halves_footprint operation value number pushed is

-- a byte that is evaluated second
abbrev IsSimple : (at : Ground) (free limit : ℕ) → Simple → Type 0
IsSimple at free limit (simple.Byte byte) = IsBelow at free byte × (beside at.site byte ≤ limit)
IsSimple at free limit (simple.Word place) = Unit {0}

simple_is :
    (at : Ground) (free : ℕ) (number : ExpressionNumber)
    → IsBelow at free number
    → IfSome (simple_operand at.site number) (IsSimple at free (beside at.site number))
unfolding simple_operand
simple_is at free number is =
    by (fits_byte at.site number && is_free at.site number) (direct_word at.site number)
  where
    by : (b : Bool) (found : Option Place)
        → IfSome
        (if b then Some (simple.Byte number)
        else elim found [ Some place ↦ Some (simple.Word place) | None ↦ None ])
        (IsSimple at free (beside at.site number))
    by true found = (is, omega arith)
    by false (Some place) = tt
    by false None = tt

exchanged_is :
    (at : Ground) (free : ℕ) (operands : Operands)
    → IsBelow at free operands.left
    → IfSome (exchanged_operand at.site operands) (IsSimple at free (beside at.site operands.left))
unfolding exchanged_operand
exchanged_is at free operands one = by (may_exchange at.site operands.left operands.right)
  where
    by :
        (b : Bool)
        → IfSome (if b then simple_operand at.site operands.left else None)
        (IsSimple at free (beside at.site operands.left))
    by true = simple_is at free operands.left one
    by false = tt

-- the operand that is evaluated first, and the simple one
record IsChosen (at : Ground) (free limit : ℕ) (chosen : ExpressionNumber × Simple) : Type 0 where
  pub one : IsBelow at free chosen.0
  pub most : ℕ
  pub two : IsSimple at free most chosen.1
  pub small : beside at.site chosen.0 + most ≤ limit

first_is :
    (at : Ground) (free : ℕ) (operands : Operands) (right exchanged : Option Simple)
    → IsBelow at free operands.left → IsBelow at free operands.right
    → IfSome right (IsSimple at free (beside at.site operands.right))
    → IfSome exchanged (IsSimple at free (beside at.site operands.left))
    → IfSome (first_and_simple at.site operands right exchanged)
    (IsChosen at free (beside at.site operands.left + beside at.site operands.right))
unfolding first_and_simple
first_is at free operands (Some operand) (Some exchanged) one two first second =
    by (is_word_in_hl at.site operands.right)
  where
    by :
        (b : Bool)
        → IfSome (if b then Some (operands.right, exchanged) else Some (operands.left, operand))
        (IsChosen at free (beside at.site operands.left + beside at.site operands.right))
    by true = record { one = two; most = beside at.site operands.left; two = second; small = omega arith }
    by false = record { one = one; most = beside at.site operands.right; two = first; small = omega arith }
first_is at free operands (Some operand) None one two first second =
    record { one = one; most = beside at.site operands.right; two = first; small = omega arith }
first_is at free operands None (Some exchanged) one two first second =
    record { one = two; most = beside at.site operands.left; two = second; small = omega arith }
first_is at free operands None None one two first second = tt

with_simple_is :
    (at : Ground) (free : ℕ) (operands : Operands)
    → IsBelow at free operands.left → IsBelow at free operands.right
    → IfSome (with_simple at.site operands)
    (IsChosen at free (beside at.site operands.left + beside at.site operands.right))
unfolding with_simple
with_simple_is at free operands one two =
    first_is at free operands (simple_operand at.site operands.right) (exchanged_operand at.site operands) one
    two (simple_is at free operands.right two) (exchanged_is at free operands one)

logic_with_simple_footprint :
    {at : Ground} {free : ℕ} (operation : Operation) (value : ExpressionNumber) (second : Simple)
    (most pushed : ℕ)
    → IsBelow at free value → IsSimple at free most second
    → Footprint at free (logic_with_simple_steps operation value second pushed) free
    (154 + 128 * beside at.site value + 128 * most)
unfolding logic_with_simple_steps logic_with_byte_steps
logic_with_simple_footprint operation value (simple.Byte byte) most pushed one two =
    counted (operand_from_below one, (operand_from_below two.0, refl))
    (omega (arith, two.1, two.0.byte_small))
logic_with_simple_footprint operation value (simple.Word place) most pushed one two =
    after_part 10 (operand_from_below one) (with_word_footprint place operation operation) (omega arith)

computed_logic_footprint :
    {at : Ground} {free : ℕ} (operation : Operation) (operands : Operands) (pushed : ℕ)
    → IsBelow at free operands.left → IsBelow at free operands.right
    → Footprint at free (computed_logic_steps at.site operation operands pushed) free
    (162 + 128 * beside at.site operands.left + 128 * beside at.site operands.right)
unfolding computed_logic_steps
computed_logic_footprint {at = at} {free = free} operation operands pushed one two =
    by_test (is_of_bytes at.site operation operands)
    (joined (156 + 128 * beside at.site operands.left + 128 * beside at.site operands.right) 3
    (byte_operation_footprint operation operands pushed one two) (counted refl (omega arith)) (omega arith))
    (by_finding (with_simple at.site operands)
    (λ chosen there. by chosen
    (of_found (IsChosen at free (beside at.site operands.left + beside at.site operands.right))
    (with_simple_is at free operands one two) there))
    (λ none. paired_footprint operands operation operation pushed one two))
  where
    by :
        (chosen : ExpressionNumber × Simple)
        → IsChosen at free (beside at.site operands.left + beside at.site operands.right) chosen
        → Footprint at free (logic_with_simple_steps operation chosen.0 chosen.1 pushed) free
        (162 + 128 * beside at.site operands.left + 128 * beside at.site operands.right)
    by chosen is =
        within (154 + 128 * beside at.site chosen.0 + 128 * is.most)
        (logic_with_simple_footprint operation chosen.0 chosen.1 is.most pushed is.one is.two)
        (omega (arith, is.small))

logic_footprint :
    {at : Ground} {free : ℕ} (operation : Operation) (operands : Operands) (pushed : ℕ)
    → IsBelow at free operands.left → IsBelow at free operands.right
    → Footprint at free (logic_steps at.site operation operands pushed) free
    (162 + 128 * beside at.site operands.left + 128 * beside at.site operands.right)
unfolding logic_steps
logic_footprint {at = at} operation operands pushed one two =
    by_finding (number_of at.site operands.right)
    (λ number there. within (84 + 128 * beside at.site operands.left)
    (logic_with_number_footprint operation operands.left number pushed one) (omega arith))
    (λ none. by_finding (number_of at.site operands.left)
    (λ number there. within (84 + 128 * beside at.site operands.right)
    (logic_with_number_footprint operation operands.right number pushed two) (omega arith))
    (λ neither. computed_logic_footprint operation operands pushed one two))

product_word_footprint :
    {at : Ground} {free : ℕ} (operands : Operands) (pushed : ℕ)
    → IsBelow at free operands.left → IsBelow at free operands.right
    → Footprint at free (product_word_steps at.site operands pushed) free
    (162 + 128 * beside at.site operands.left + 128 * beside at.site operands.right)
unfolding product_word_steps
product_word_footprint {at = at} operands pushed one two =
    by_finding (number_of at.site operands.right)
    (λ number there. within (113 + 128 * beside at.site operands.left)
    (product_footprint operands.left number pushed (operand_from_below one)) (omega arith))
    (λ none. by_finding (number_of at.site operands.left)
    (λ number there. within (113 + 128 * beside at.site operands.right)
    (product_footprint operands.right number pushed (operand_from_below two)) (omega arith))
    (λ neither. within (159 + 128 * beside at.site operands.left + 128 * beside at.site operands.right)
    (computed_product_footprint operands pushed one two) (omega arith)))

quotient_footprint :
    {at : Ground} {free : ℕ} (operands : Operands) (pushed : ℕ)
    → IsBelow at free operands.left → IsBelow at free operands.right
    → Footprint at free (quotient_steps at.site operands pushed) free
    (162 + 128 * beside at.site operands.left + 128 * beside at.site operands.right)
unfolding quotient_steps
quotient_footprint {at = at} operands pushed one two =
    by_finding (power at.site operands.right)
    (λ count there. within (90 + 128 * beside at.site operands.left)
    (word_shifted_right_footprint operands.left count pushed one) (omega arith))
    (λ none. within (159 + 128 * beside at.site operands.left + 128 * beside at.site operands.right)
    (division_footprint operands pushed one two) (omega arith))

remainder_footprint :
    {at : Ground} {free : ℕ} (operands : Operands) (pushed : ℕ)
    → IsBelow at free operands.left → IsBelow at free operands.right
    → Footprint at free (remainder_steps at.site operands pushed) free
    (162 + 128 * beside at.site operands.left + 128 * beside at.site operands.right)
unfolding remainder_steps
remainder_footprint {at = at} operands pushed one two =
    by_finding (number_of_two at.site operands.right)
    (λ number there. within (84 + 128 * beside at.site operands.left)
    (logic_with_number_footprint And operands.left ((number + 65535) % 65536) pushed one) (omega arith))
    (λ none. joined (159 + 128 * beside at.site operands.left + 128 * beside at.site operands.right) 1
    (division_footprint operands pushed one two) (counted refl (omega arith)) (omega arith))

-- an operator with two ADDRESS operands
pub word_binary_footprint :
    {at : Ground} {free : ℕ} (operator : BinaryOperator) (operands : Operands) (pushed : ℕ)
    → IsBelow at free operands.left → IsBelow at free operands.right
    → Footprint at free (word_binary_steps at.site operator operands pushed) free
    (162 + 128 * beside at.site operands.left + 128 * beside at.site operands.right)
unfolding word_binary_steps
word_binary_footprint operators.Add operands pushed one two = sum_footprint operands pushed one two
word_binary_footprint operators.Subtract operands pushed one two =
    difference_footprint operands pushed one two
word_binary_footprint operators.And operands pushed one two = logic_footprint And operands pushed one two
word_binary_footprint operators.Or operands pushed one two = logic_footprint Or operands pushed one two
word_binary_footprint operators.Xor operands pushed one two =
    logic_footprint ExclusiveOr operands pushed one two
word_binary_footprint operators.Multiply operands pushed one two =
    product_word_footprint operands pushed one two
word_binary_footprint operators.Divide operands pushed one two = quotient_footprint operands pushed one two
word_binary_footprint operators.Modulo operands pushed one two = remainder_footprint operands pushed one two
word_binary_footprint operator operands pushed one two = counted refl (omega arith)

-- an operator with one operand
pub word_unary_footprint :
    {at : Ground} {free : ℕ} (operator : UnaryOperator)
    → Footprint at free (word_unary_steps operator) free 7
unfolding word_unary_steps
word_unary_footprint Not = counted refl (omega arith)
word_unary_footprint Negate = counted refl (omega arith)
