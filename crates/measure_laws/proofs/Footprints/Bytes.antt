-- Values in A, except for calls and assignments.
use Rattle.measure_laws.proofs.Prelude.{Push, Bool, IfSome, None, Option, Some, [], ap, arith, false, if◌then◌else◌, is_some, nat_le, option_map, refl, true, ℕ, ◌%◌, ◌&&◌, ◌*◌, ◌++◌, ◌+◌, ◌-◌, ◌==◌, ◌||◌, ◌∙◌, ◌∷◌, ◌≡◌, false≢true, leb-false, leb-true, ScalarType, BinaryOperator, ShiftFunction, RotateLeft, RotateRight, ShiftLeft, ShiftRight, Dad, Pop, Rlc, Rrc, Operation, Add, And, ExclusiveOr, Or, Subtract, Hl, A, B, L, Psw, StackBc, ExpressionNumber, Reference, copy, high, low, with_register, is_free, known, may_exchange, number_of, scalar, fits_byte, high_byte_in_memory, is_byte_in_register, low_number, operand_in_memory, power, byte_in_memory_steps, ByteForm, LeftFree, LeftInMemory, Pushed, RightFree, RightInMemory, Operands, Shifted, added_steps, byte_binary_steps, byte_operation_steps, commutes, form_after_right, form_from_register, form_of, form_with_left, form_without_memory, from_number_steps, immediate_steps, in_form_steps, number_of_two, product_order, computed_product_steps, division_steps, product_byte_steps, quotient_byte_steps, remainder_byte_steps, with_e_steps, with_memory_steps, with_number_steps, with_stack_steps, by_number_steps, byte_routine, byte_shift_steps, byte_shifted_right_steps, count_in_memory_steps, low_byte_shifted_right_steps, middle_byte_steps, operands_steps, right_shift_steps, rotation_steps, shifted_left_steps, turned_right_steps, zero_steps, byte_number_steps, high_byte_steps, low_of_word_steps, beside, indices, more_for_byte, more_for_word, type_at}
use Rattle.trees.specs.declared.declaration.ScalarType.TheVariants as scalars
use Rattle.trees.specs.declared.expression.BinaryOperator.TheVariants as operators
use Rattle.steps8080.specs.declared.step.Step.TheVariants as steps
use Rattle.steps8080.specs.declared.step.Task.TheVariants as tasks
use Rattle.steps8080.specs.internal.Step.{part}
use Rattle.steps8080.specs.internal.Widths.{is_byte}
use Rattle.measure_laws.specs.internal.Footprints.{Footprint, Ground, HasTwo, IsBelow, IsOperand}
use Rattle.measure_laws.proofs.{Footprints.Addresses.{byte_in_memory_footprint}, Footprints.Chains.{byte_product_footprint}, Footprints.Found.{IsInMemory, high_is_in_memory, of_found, operand_is_in_memory}, Footprints.Joining.{after_part, after_plain, by_asking, by_finding, by_test, counted, joined, lowered, repeated, restored, two_free, operand_from_below, within}, Footprints.Pairs.{pair_footprint, pair_in_order_footprint}, Footprints.Relations.{relation_value_footprint}, Footprints.Weights.{type_is}}

pub byte_number_footprint :
    {at : Ground} {free : ℕ} (number : ℕ)
    → Footprint at free (byte_number_steps number) free 2
unfolding byte_number_steps
byte_number_footprint number = by_test (number == 0) (counted refl (omega arith)) (counted refl (omega arith))

-- the low byte of an ADDRESS, through HL, which is never done for a BYTE
pub low_of_word_footprint :
    {at : Ground} {free : ℕ} (number : ExpressionNumber) (pushed : ℕ)
    → IsOperand at free number → (type_at at.site number ≡ scalars.Byte → ⊥)
    → Footprint at free (low_of_word_steps number pushed) free
    (72 + more_for_byte (type_at at.site number) + 128 * beside at.site number)
unfolding low_of_word_steps
low_of_word_footprint {at = at} {free = free} number pushed is never =
    by (type_at at.site number) refl
  where
    by : (scalar : ScalarType) → type_at at.site number ≡ scalar
        → Footprint at free (part (tasks.Word number) pushed ∷ steps.Plain (copy A L) ∷ []) free
        (72 + more_for_byte (type_at at.site number) + 128 * beside at.site number)
    by scalars.Byte same = absurd (never same)
    by scalars.Address same = counted (is, refl) (omega (arith, ap more_for_byte same, ap more_for_word same))

-- the high byte of a value
pub high_byte_footprint :
    {at : Ground} {free : ℕ} (expression : ExpressionNumber) (pushed : ℕ)
    → IsBelow at free expression
    → Footprint at free (high_byte_steps at.site expression pushed) free
    (77 + 128 * beside at.site expression)
unfolding high_byte_steps
high_byte_footprint {at = at} {free = free} expression pushed is =
    by_finding (number_of at.site expression)
    (λ number there. within 2 (byte_number_footprint (high number)) (omega arith))
    (λ unknown. by_test (fits_byte at.site expression) (counted (operand_from_below is, refl) (omega arith))
    (by_finding (high_byte_in_memory at.site expression)
    (λ reference there. in_memory reference
    (of_found (IsInMemory at free expression)
    (high_is_in_memory at free expression (operand_from_below is)) there))
    (λ none. counted (operand_from_below is, refl) (omega arith))))
  where
    in_memory :
        (reference : Reference)
        → IsInMemory at free expression reference
        → Footprint at free (byte_in_memory_steps at.site reference pushed) free
        (77 + 128 * beside at.site expression)
    in_memory reference has =
        within (33 + 128 * indices at.site reference) (byte_in_memory_footprint reference pushed has.place)
        (omega (arith, has.small))

turned_right_footprint :
    {at : Ground} {free : ℕ} (count : ℕ)
    → Footprint at free (turned_right_steps count) free 4
unfolding turned_right_steps
turned_right_footprint count =
    by_asking (nat_le count 4) (λ is. within count (repeated Rrc count refl refl) (leb-true count 4 is))
    (λ is_not. within (8 - count) (repeated Rlc (8 - count) refl refl)
    (omega (arith, leb-false count 4 is_not)))

pub right_shift_footprint :
    {at : Ground} {free : ℕ} (count : ℕ)
    → Footprint at free (right_shift_steps count) free 6
unfolding right_shift_steps
right_shift_footprint count =
    by_test (count == 0) (counted refl (omega arith))
    (by_test (count == 1) (counted refl (omega arith))
    (joined 4 2 (turned_right_footprint count) (counted refl (omega arith)) (omega arith)))

rotation_footprint : {at : Ground} {free : ℕ} (count : ℕ) → Footprint at free (rotation_steps count) free 4
unfolding rotation_steps
rotation_footprint count =
    by_asking (nat_le count 4) (λ is. within count (repeated Rlc count refl refl) (leb-true count 4 is))
    (λ is_not. within (8 - count) (repeated Rrc (8 - count) refl refl)
    (omega (arith, leb-false count 4 is_not)))

zero_footprint :
    {at : Ground} {free : ℕ} (value : ExpressionNumber) (pushed : ℕ)
    → IsBelow at free value
    → Footprint at free (zero_steps value pushed) free (73 + 128 * beside at.site value)
unfolding zero_steps
zero_footprint value pushed is = counted (operand_from_below is, refl) (omega arith)

shifted_left_footprint :
    {at : Ground} {free : ℕ} (value : ExpressionNumber) (count pushed : ℕ)
    → IsBelow at free value
    → Footprint at free (shifted_left_steps value count pushed) free (85 + 128 * beside at.site value)
unfolding shifted_left_steps
shifted_left_footprint {at = at} value count pushed is =
    by_asking (nat_le 8 count)
    (λ many. within (73 + 128 * beside at.site value) (zero_footprint value pushed is) (omega arith))
    (λ few. after_part 7 (operand_from_below is)
    (within count (repeated (with_register Add A) count refl refl) (omega (arith, leb-false 8 count few)))
    (omega arith))

pub byte_shifted_right_footprint :
    {at : Ground} {free : ℕ} (value : ExpressionNumber) (count pushed : ℕ)
    → IsBelow at free value
    → Footprint at free (byte_shifted_right_steps value count pushed) free (82 + 128 * beside at.site value)
unfolding byte_shifted_right_steps
byte_shifted_right_footprint {at = at} value count pushed is =
    by_test (nat_le 8 count)
    (within (73 + 128 * beside at.site value) (zero_footprint value pushed is) (omega arith))
    (after_part 6 (operand_from_below is) (right_shift_footprint count) (omega arith))

middle_byte_footprint :
    {at : Ground} {free : ℕ} (value : ExpressionNumber) (count pushed : ℕ)
    → IsBelow at free value
    → Footprint at free (middle_byte_steps value count pushed) free (85 + 128 * beside at.site value)
unfolding middle_byte_steps
middle_byte_footprint value count pushed is =
    by_test (count == 1) (counted (operand_from_below is, refl) (omega arith))
    (after_part 9 (operand_from_below is)
    (joined 8 1 (within (8 - count) (repeated (Dad Hl) (8 - count) refl refl) (omega arith))
    (counted refl (omega arith)) (omega arith)) (omega arith))

pub low_byte_shifted_right_footprint :
    {at : Ground} {free : ℕ} (value : ExpressionNumber) (count pushed : ℕ)
    → IsBelow at free value
    → Footprint at free (low_byte_shifted_right_steps at.site value count pushed) free
    (85 + 128 * beside at.site value)
unfolding low_byte_shifted_right_steps
low_byte_shifted_right_footprint {at = at} value count pushed is =
    by_test (fits_byte at.site value)
    (within (82 + 128 * beside at.site value) (byte_shifted_right_footprint value count pushed is)
    (omega arith))
    (by_test (nat_le 16 count)
    (within (73 + 128 * beside at.site value) (zero_footprint value pushed is) (omega arith))
    (by_test (nat_le 8 count)
    (joined (77 + 128 * beside at.site value) 6 (high_byte_footprint value pushed is)
    (right_shift_footprint (count - 8)) (omega arith))
    (by_test (count == 0) (counted (operand_from_below is, refl) (omega arith))
    (middle_byte_footprint value count pushed is))))

by_number_footprint :
    {at : Ground} {free : ℕ} (function : ShiftFunction) (value : ExpressionNumber) (count pushed : ℕ)
    → IsBelow at free value
    → Footprint at free (by_number_steps at.site function value count pushed) free
    (85 + 128 * beside at.site value)
unfolding by_number_steps
by_number_footprint ShiftLeft value count pushed is = shifted_left_footprint value count pushed is
by_number_footprint ShiftRight value count pushed is = low_byte_shifted_right_footprint value count pushed is
by_number_footprint RotateLeft value count pushed is =
    after_part 4 (operand_from_below is) (rotation_footprint (count % 8)) (omega arith)
by_number_footprint RotateRight value count pushed is =
    after_part 4 (operand_from_below is) (rotation_footprint ((8 - count % 8) % 8)) (omega arith)

count_in_memory_footprint :
    {at : Ground} {free : ℕ} (value count : ExpressionNumber) (reference : Reference) (pushed : ℕ)
    → IsBelow at free value → IsInMemory at free count reference
    → Footprint at free (count_in_memory_steps value reference pushed) free
    (155 + 128 * beside at.site value + 128 * beside at.site count)
unfolding count_in_memory_steps
count_in_memory_footprint value count reference pushed one has =
    counted (operand_from_below one, (has.place, refl)) (omega (arith, has.small))

operands_footprint :
    {at : Ground} {free : ℕ} (value count : ExpressionNumber) (pushed : ℕ)
    → IsBelow at free value → IsBelow at free count
    → Footprint at free (operands_steps at.site value count pushed) free
    (155 + 128 * beside at.site value + 128 * beside at.site count)
unfolding operands_steps
operands_footprint {at = at} {free = free} value count pushed one two =
    by_finding (operand_in_memory at.site count)
    (λ reference there. count_in_memory_footprint value count reference pushed one
    (of_found (IsInMemory at free count) (operand_is_in_memory at free count (operand_from_below two)) there))
    (λ none. by_test
    ((is_some (known at.site value) || is_free at.site value) && may_exchange at.site value count)
    (counted (operand_from_below two, (operand_from_below one, refl)) (omega arith))
    (counted (operand_from_below one, (two_free two, (lowered two, restored two))) (omega arith)))

address_is_no_byte : scalars.Address ≡ scalars.Byte → ⊥
address_is_no_byte same = false≢true (ap is_byte same)

-- the low byte of a shift or a rotation
pub byte_shift_footprint :
    {at : Ground} {free : ℕ} (number : ExpressionNumber) (shifted : Shifted) (pushed : ℕ)
    → IsOperand at free number → HasTwo at free number shifted.value shifted.count
    → Footprint at free (byte_shift_steps at.site number shifted pushed) free
    (72 + more_for_byte (type_at at.site number) + 128 * beside at.site number)
unfolding byte_shift_steps
byte_shift_footprint {at = at} {free = free} number shifted pushed is has =
    by_finding (number_of at.site shifted.count)
    (λ count there. within (85 + 128 * beside at.site shifted.value)
    (by_number_footprint shifted.function shifted.value count pushed has.one) (omega (arith, has.same)))
    (λ none. by (scalar at.site number) (type_is at.site number))
  where
    by : (found : ScalarType) → found ≡ type_at at.site number
        → Footprint at free (elim found [
          | scalars.Byte ↦
              operands_steps at.site shifted.value shifted.count pushed
              ++ (steps.CallRoutine (byte_routine shifted.function) ∷ [])
          | scalars.Address ↦ low_of_word_steps number pushed
        ]) free (72 + more_for_byte (type_at at.site number) + 128 * beside at.site number)
    by scalars.Byte same =
        joined (155 + 128 * beside at.site shifted.value + 128 * beside at.site shifted.count) 3
        (operands_footprint shifted.value shifted.count pushed has.one has.two)
        (counted (two_free has.one, refl) (omega arith)) (omega (arith, has.same))
    by scalars.Address same =
        low_of_word_footprint number pushed is (λ byte. address_is_no_byte (same ∙ byte))

added_footprint : {at : Ground} {free : ℕ} (number : ℕ) → Footprint at free (added_steps number) free 2
unfolding added_steps
added_footprint number =
    by_test (number == 0) (counted refl (omega arith))
    (by_test (number == 1) (counted refl (omega arith))
    (by_test (number == 255) (counted refl (omega arith)) (counted refl (omega arith))))

immediate_footprint :
    {at : Ground} {free : ℕ} (operation : Operation) (number : ℕ)
    → Footprint at free (immediate_steps operation number) free 2
unfolding immediate_steps
immediate_footprint Add number = added_footprint number
immediate_footprint Subtract number = added_footprint ((256 - number) % 256)
immediate_footprint Or number =
    by_test (number == 0) (counted refl (omega arith)) (counted refl (omega arith))
immediate_footprint ExclusiveOr number =
    by_test (number == 0) (counted refl (omega arith))
    (by_test (number == 255) (counted refl (omega arith)) (counted refl (omega arith)))
immediate_footprint And number =
    by_test (number == 255) (counted refl (omega arith)) (counted refl (omega arith))
immediate_footprint operation number = counted refl (omega arith)

pub with_number_footprint :
    {at : Ground} {free : ℕ} (operation : Operation) (value : ExpressionNumber) (number pushed : ℕ)
    → IsBelow at free value
    → Footprint at free (with_number_steps operation value number pushed) free
    (78 + 128 * beside at.site value)
unfolding with_number_steps
with_number_footprint And value number pushed is =
    by_test (number == 0) (counted (operand_from_below is, refl) (omega arith))
    (after_part 2 (operand_from_below is) (immediate_footprint And number) (omega arith))
with_number_footprint Or value number pushed is =
    by_test (number == 255) (after_part 2 (operand_from_below is) (byte_number_footprint 255) (omega arith))
    (after_part 2 (operand_from_below is) (immediate_footprint Or number) (omega arith))
with_number_footprint operation value number pushed is =
    after_part 2 (operand_from_below is) (immediate_footprint operation number) (omega arith)

from_number_footprint :
    {at : Ground} {free : ℕ} (operation : Operation) (number : ℕ) (value : ExpressionNumber) (pushed : ℕ)
    → IsBelow at free value
    → Footprint at free (from_number_steps operation number value pushed) free
    (79 + 128 * beside at.site value)
unfolding from_number_steps
from_number_footprint {at = at} operation number value pushed is =
    by_test (commutes operation)
    (within (78 + 128 * beside at.site value) (with_number_footprint operation value number pushed is)
    (omega arith))
    (after_part 3 (operand_from_below is)
    (after_plain 2 refl (added_footprint ((number + 1) % 256)) (omega arith))
    (omega arith))

-- an operand that stays in memory is one of the two
abbrev IsByteForm : (at : Ground) (free : ℕ) → Operands → ByteForm → Type 0
IsByteForm at free operands (RightInMemory reference) = IsInMemory at free operands.right reference
IsByteForm at free operands (LeftInMemory reference) = IsInMemory at free operands.left reference
IsByteForm at free operands other = Unit {0}

after_right_is :
    (at : Ground) (free : ℕ) (operation : Operation) (operands : Operands)
    → IsBelow at free operands.left
    → IfSome (form_after_right at.site operation operands) (IsByteForm at free operands)
unfolding form_after_right
after_right_is at free operation operands one = by (commutes operation) (is_free at.site operands.left)
  where
    placed :
        (found : Option Reference)
        → IfSome found (IsInMemory at free operands.left)
        → IfSome (option_map LeftInMemory found) (IsByteForm at free operands)
    placed (Some reference) has = has
    placed None has = tt

    by :
        (b alone : Bool)
        → IfSome
        (if b then option_map LeftInMemory (operand_in_memory at.site operands.left) else if alone then Some
        LeftFree else None) (IsByteForm at free operands)
    by true alone =
        placed (operand_in_memory at.site operands.left)
        (operand_is_in_memory at free operands.left (operand_from_below one))
    by false true = tt
    by false false = tt

from_register_is :
    (at : Ground) (free : ℕ) (operation : Operation) (operands : Operands)
    → IsBelow at free operands.left
    → IfSome (form_from_register at.site operation operands) (IsByteForm at free operands)
unfolding form_from_register
from_register_is at free operation operands one =
    by (is_byte_in_register at.site operands.right && may_exchange at.site operands.left operands.right)
  where
    by :
        (b : Bool)
        → IfSome (if b then form_after_right at.site operation operands else None)
        (IsByteForm at free operands)
    by true = after_right_is at free operation operands one
    by false = tt

without_memory_is :
    (at : Ground) (free : ℕ) (operation : Operation) (operands : Operands)
    → IsByteForm at free operands (form_without_memory at.site operation operands)
unfolding form_without_memory
without_memory_is at free operation operands =
    by (may_exchange at.site operands.left operands.right && is_free at.site operands.left)
    (commutes operation && is_free at.site operands.right)
  where
    by :
        (one two : Bool)
        → IsByteForm at free operands (if one then LeftFree else if two then RightFree else Pushed)
    by true two = tt
    by false true = tt
    by false false = tt

with_left_is :
    (at : Ground) (free : ℕ) (operation : Operation) (operands : Operands)
    → IsBelow at free operands.left
    → IsByteForm at free operands (form_with_left at.site operation operands)
unfolding form_with_left
with_left_is at free operation operands one =
    by (may_exchange at.site operands.left operands.right && commutes operation)
  where
    placed : (found : Option Reference) → IfSome found (IsInMemory at free operands.left)
        → IsByteForm at free operands (elim found [
          | Some reference ↦ LeftInMemory reference
          | None ↦ form_without_memory at.site operation operands
        ])
    placed (Some reference) has = has
    placed None has = without_memory_is at free operation operands

    by : (b : Bool)
        → IsByteForm at free operands (if b
        then elim (operand_in_memory at.site operands.left) [
          | Some reference ↦ LeftInMemory reference
          | None ↦ form_without_memory at.site operation operands
        ]
        else form_without_memory at.site operation operands)
    by true =
        placed (operand_in_memory at.site operands.left)
        (operand_is_in_memory at free operands.left (operand_from_below one))
    by false = without_memory_is at free operation operands

byte_form_is :
    (at : Ground) (free : ℕ) (operation : Operation) (operands : Operands)
    → IsBelow at free operands.left → IsBelow at free operands.right
    → IsByteForm at free operands (form_of at.site operation operands)
unfolding form_of
byte_form_is at free operation operands one two =
    by (form_from_register at.site operation operands) (from_register_is at free operation operands one)
  where
    placed : (found : Option Reference) → IfSome found (IsInMemory at free operands.right)
        → IsByteForm at free operands (elim found [
          | Some reference ↦ RightInMemory reference
          | None ↦ form_with_left at.site operation operands
        ])
    placed (Some reference) has = has
    placed None has = with_left_is at free operation operands one

    by : (found : Option ByteForm) → IfSome found (IsByteForm at free operands)
        → IsByteForm at free operands (elim found [
          | Some form ↦ form
          | None ↦ elim (operand_in_memory at.site operands.right) [
            | Some reference ↦ RightInMemory reference
            | None ↦ form_with_left at.site operation operands
          ]
        ])
    by (Some form) has = has
    by None has =
        placed (operand_in_memory at.site operands.right)
        (operand_is_in_memory at free operands.right (operand_from_below two))

with_stack_footprint :
    {at : Ground} {free : ℕ} (operation : Operation) (operands : Operands) (pushed : ℕ)
    → IsBelow at free operands.left → IsBelow at free operands.right
    → Footprint at free (with_stack_steps operation operands pushed) free
    (156 + 128 * beside at.site operands.left + 128 * beside at.site operands.right)
unfolding with_stack_steps
with_stack_footprint {at = at} {free = free} operation operands pushed one two =
    joined (155 + 128 * beside at.site operands.left + 128 * beside at.site operands.right) 1 begun
    (counted (restored two) (omega arith)) (omega arith)
  where
    popped : Footprint at (free - 2)
        (if commutes operation then steps.Plain (Pop StackBc) ∷ []
        else steps.Plain (copy B A) ∷ steps.Plain (Pop Psw) ∷ [])
        (free - 2 + 2) 2
    popped = by_test (commutes operation) (counted refl (omega arith)) (counted refl (omega arith))

    begun : Footprint at free
        (part (tasks.Byte operands.left) pushed
        ∷ steps.Plain (Push Psw)
        ∷ part (tasks.Byte operands.right) ((pushed + 2) % 65536)
        ∷ (if commutes operation then steps.Plain (Pop StackBc) ∷ []
        else steps.Plain (copy B A) ∷ steps.Plain (Pop Psw) ∷ []))
        (free - 2 + 2) (155 + 128 * beside at.site operands.left + 128 * beside at.site operands.right)
    begun =
        counted (operand_from_below one, (two_free two, (lowered two, popped.go)))
        (omega (arith, popped.small, one.byte_small, two.byte_small))

in_form_footprint :
    {at : Ground} {free : ℕ} (form : ByteForm) (operation : Operation) (operands : Operands) (pushed : ℕ)
    → IsBelow at free operands.left → IsBelow at free operands.right → IsByteForm at free operands form
    → Footprint at free (in_form_steps form operation operands pushed) free
    (156 + 128 * beside at.site operands.left + 128 * beside at.site operands.right)
unfolding in_form_steps with_memory_steps with_e_steps
in_form_footprint (RightInMemory reference) operation operands pushed one two has =
    counted (operand_from_below one, (has.place, refl)) (omega (arith, has.small))
in_form_footprint (LeftInMemory reference) operation operands pushed one two has =
    counted (operand_from_below two, (has.place, refl)) (omega (arith, has.small))
in_form_footprint LeftFree operation operands pushed one two has =
    counted (operand_from_below two, (operand_from_below one, refl)) (omega arith)
in_form_footprint RightFree operation operands pushed one two has =
    counted (operand_from_below one, (operand_from_below two, refl)) (omega arith)
in_form_footprint Pushed operation operands pushed one two has =
    with_stack_footprint operation operands pushed one two

-- an operation with the low bytes of two operands
pub byte_operation_footprint :
    {at : Ground} {free : ℕ} (operation : Operation) (operands : Operands) (pushed : ℕ)
    → IsBelow at free operands.left → IsBelow at free operands.right
    → Footprint at free (byte_operation_steps at.site operation operands pushed) free
    (156 + 128 * beside at.site operands.left + 128 * beside at.site operands.right)
unfolding byte_operation_steps
byte_operation_footprint {at = at} {free = free} operation operands pushed one two =
    by_finding (low_number at.site operands.right)
    (λ number there. within (78 + 128 * beside at.site operands.left)
    (with_number_footprint operation operands.left number pushed one) (omega arith))
    (λ none. by_finding (low_number at.site operands.left)
    (λ number there. within (79 + 128 * beside at.site operands.right)
    (from_number_footprint operation number operands.right pushed two) (omega arith))
    (λ neither. in_form_footprint (form_of at.site operation operands) operation operands pushed one two
    (byte_form_is at free operation operands one two)))

-- products and quotients by the routines
pub computed_product_footprint :
    {at : Ground} {free : ℕ} (operands : Operands) (pushed : ℕ)
    → IsBelow at free operands.left → IsBelow at free operands.right
    → Footprint at free (computed_product_steps at.site operands pushed) free
    (159 + 128 * beside at.site operands.left + 128 * beside at.site operands.right)
unfolding computed_product_steps
computed_product_footprint {at = at} operands pushed one two =
    joined (156 + 128 * beside at.site operands.left + 128 * beside at.site operands.right) 3
    (pair_in_order_footprint operands.left operands.right
    (product_order (fits_byte at.site operands.left) (fits_byte at.site operands.right)) pushed one two)
    (counted (two_free one, refl) (omega arith)) (omega arith)

pub division_footprint :
    {at : Ground} {free : ℕ} (operands : Operands) (pushed : ℕ)
    → IsBelow at free operands.left → IsBelow at free operands.right
    → Footprint at free (division_steps at.site operands pushed) free
    (159 + 128 * beside at.site operands.left + 128 * beside at.site operands.right)
unfolding division_steps
division_footprint {at = at} operands pushed one two =
    joined (156 + 128 * beside at.site operands.left + 128 * beside at.site operands.right) 3
    (pair_footprint operands.left operands.right true pushed one two)
    (counted (two_free one, refl) (omega arith)) (omega arith)

product_byte_footprint :
    {at : Ground} {free : ℕ} (operands : Operands) (pushed : ℕ)
    → IsBelow at free operands.left → IsBelow at free operands.right
    → Footprint at free (product_byte_steps at.site operands pushed) free
    (160 + 128 * beside at.site operands.left + 128 * beside at.site operands.right)
unfolding product_byte_steps
product_byte_footprint {at = at} operands pushed one two =
    by_finding (low_number at.site operands.right)
    (λ factor there. within (113 + 128 * beside at.site operands.left)
    (byte_product_footprint operands.left factor pushed (operand_from_below one)) (omega arith))
    (λ none. by_finding (low_number at.site operands.left)
    (λ factor there. within (113 + 128 * beside at.site operands.right)
    (byte_product_footprint operands.right factor pushed (operand_from_below two)) (omega arith))
    (λ neither. joined (159 + 128 * beside at.site operands.left + 128 * beside at.site operands.right) 1
    (computed_product_footprint operands pushed one two) (counted refl (omega arith)) (omega arith)))

quotient_byte_footprint :
    {at : Ground} {free : ℕ} (operands : Operands) (pushed : ℕ)
    → IsBelow at free operands.left → IsBelow at free operands.right
    → Footprint at free (quotient_byte_steps at.site operands pushed) free
    (160 + 128 * beside at.site operands.left + 128 * beside at.site operands.right)
unfolding quotient_byte_steps
quotient_byte_footprint {at = at} operands pushed one two =
    by_finding (power at.site operands.right)
    (λ count there. within (85 + 128 * beside at.site operands.left)
    (low_byte_shifted_right_footprint operands.left count pushed one) (omega arith))
    (λ none. joined (159 + 128 * beside at.site operands.left + 128 * beside at.site operands.right) 1
    (division_footprint operands pushed one two) (counted refl (omega arith)) (omega arith))

remainder_byte_footprint :
    {at : Ground} {free : ℕ} (operands : Operands) (pushed : ℕ)
    → IsBelow at free operands.left → IsBelow at free operands.right
    → Footprint at free (remainder_byte_steps at.site operands pushed) free
    (160 + 128 * beside at.site operands.left + 128 * beside at.site operands.right)
unfolding remainder_byte_steps
remainder_byte_footprint {at = at} operands pushed one two =
    by_finding (number_of_two at.site operands.right)
    (λ number there. within (78 + 128 * beside at.site operands.left)
    (with_number_footprint And operands.left (low ((number + 65535) % 65536)) pushed one) (omega arith))
    (λ none. joined (156 + 128 * beside at.site operands.left + 128 * beside at.site operands.right) 4
    (pair_footprint operands.left operands.right true pushed one two)
    (counted (two_free one, refl) (omega arith)) (omega arith))

-- the low byte of an operator with two operands
pub byte_binary_footprint :
    {at : Ground} {free : ℕ} (number : ExpressionNumber) (operator : BinaryOperator) (operands : Operands)
    (pushed : ℕ)
    → IsOperand at free number → HasTwo at free number operands.left operands.right
    → Footprint at free (byte_binary_steps at.site number operator operands pushed) free
    (72 + more_for_byte (type_at at.site number) + 128 * beside at.site number)
unfolding byte_binary_steps
byte_binary_footprint {at = at} number operators.Add operands pushed is has =
    within (156 + 128 * beside at.site operands.left + 128 * beside at.site operands.right)
    (byte_operation_footprint Add operands pushed has.one has.two) (omega (arith, has.same))
byte_binary_footprint {at = at} number operators.Subtract operands pushed is has =
    within (156 + 128 * beside at.site operands.left + 128 * beside at.site operands.right)
    (byte_operation_footprint Subtract operands pushed has.one has.two) (omega (arith, has.same))
byte_binary_footprint {at = at} number operators.And operands pushed is has =
    within (156 + 128 * beside at.site operands.left + 128 * beside at.site operands.right)
    (byte_operation_footprint And operands pushed has.one has.two) (omega (arith, has.same))
byte_binary_footprint {at = at} number operators.Or operands pushed is has =
    within (156 + 128 * beside at.site operands.left + 128 * beside at.site operands.right)
    (byte_operation_footprint Or operands pushed has.one has.two) (omega (arith, has.same))
byte_binary_footprint {at = at} number operators.Xor operands pushed is has =
    within (156 + 128 * beside at.site operands.left + 128 * beside at.site operands.right)
    (byte_operation_footprint ExclusiveOr operands pushed has.one has.two) (omega (arith, has.same))
byte_binary_footprint {at = at} number operators.Multiply operands pushed is has =
    within (160 + 128 * beside at.site operands.left + 128 * beside at.site operands.right)
    (product_byte_footprint operands pushed has.one has.two) (omega (arith, has.same))
byte_binary_footprint {at = at} number operators.Divide operands pushed is has =
    within (160 + 128 * beside at.site operands.left + 128 * beside at.site operands.right)
    (quotient_byte_footprint operands pushed has.one has.two) (omega (arith, has.same))
byte_binary_footprint {at = at} number operators.Modulo operands pushed is has =
    within (160 + 128 * beside at.site operands.left + 128 * beside at.site operands.right)
    (remainder_byte_footprint operands pushed has.one has.two) (omega (arith, has.same))
byte_binary_footprint {at = at} number operator operands pushed is has =
    within (72 + 128 * beside at.site number) (relation_value_footprint number pushed is) (omega arith)
