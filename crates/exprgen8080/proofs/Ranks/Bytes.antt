-- Values in A, except for calls and assignments.
use Rattle.exprgen8080.proofs.Prelude.{◌≡◌, ◌+◌, ◌-◌, ◌%◌, ◌<◌, ◌==◌, ◌&&◌, ◌||◌, ◌∷◌, ◌++◌, [], if◌then◌else◌, A, Add, And, BinaryOperator, Bool, ByteForm, Dad, ExclusiveOr, ExpressionNumber, Hl, IfSome, LeftFree, LeftInMemory, None, Operands, Operation, Option, Or, Pushed, Reference, RightFree, RightInMemory, Rlc, RotateLeft, RotateRight, Rrc, ScalarType, ShiftFunction, ShiftLeft, ShiftRight, Shifted, Site, Some, Subtract, added_steps, by_number_steps, byte_binary_steps, byte_in_memory_steps, byte_number_steps, byte_operation_steps, byte_routine, byte_shift_steps, byte_shifted_right_steps, commutes, computed_product_steps, count_in_memory_steps, division_steps, false, fits_byte, form_after_right, form_from_register, form_of, form_with_left, form_without_memory, from_number_steps, high, high_byte_in_memory, high_byte_steps, immediate_steps, in_form_steps, is_byte_in_register, is_free, is_some, known, low, low_byte_shifted_right_steps, low_number, low_of_word_steps, may_exchange, middle_byte_steps, nat_le, number_of, number_of_two, operand_in_memory, operands_steps, option_map, power, product_byte_steps, product_order, quotient_byte_steps, rank, refl, remainder_byte_steps, right_shift_steps, rotation_steps, scalar, shifted_left_steps, true, turned_right_steps, with_e_steps, with_memory_steps, with_number_steps, with_register, with_stack_steps, zero_steps, ℕ}
use Rattle.trees.specs.declared.declaration.ScalarType.TheVariants as scalars
use Rattle.trees.specs.declared.expression.BinaryOperator.TheVariants as operators
use Rattle.steps8080.specs.declared.step.Step.TheVariants as steps
use Rattle.steps8080.specs.declared.step.Task.TheVariants as tasks
use Rattle.exprgen8080.proofs.Ranks.{Joining.{Falls, HasLowParts, IsPlaced, IsUnder, after_part, after_plain, by_finding, by_test, falls, joined, of_found, repeated}, Found.{high_is_in_memory, operand_is_in_memory}, Chains.{byte_product_fall}, Addresses.{byte_in_memory_fall}, Pairs.{pair_fall, pair_in_order_fall}, Relations.{relation_value_fall}}

pub byte_number_fall :
    {site : Site} {limit : ℕ} (number : ℕ)
    → Falls site limit (byte_number_steps number)
unfolding byte_number_steps
byte_number_fall number = by_test (number == 0) (falls tt) (falls tt)

-- the high byte of a value
pub high_byte_fall :
    {site : Site} {limit : ℕ} (expression : ExpressionNumber) (pushed : ℕ)
    → IsUnder site.tree.now limit expression
    → Falls site limit (high_byte_steps site expression pushed)
unfolding high_byte_steps
high_byte_fall {site = site} {limit = limit} expression pushed is =
    by_finding (number_of site expression)
    (λ number there. (byte_number_fall (high number)))
    (λ unknown. by_test (fits_byte site expression) (falls (is, tt))
    (by_finding (high_byte_in_memory site expression)
    (λ reference there. in_memory reference
    (of_found (IsPlaced site.tree.now limit) (high_is_in_memory site limit expression is) there))
    (λ none. falls (is, tt))))
  where
    in_memory : (reference : Reference) → IsPlaced site.tree.now limit reference
        → Falls site limit (byte_in_memory_steps site reference pushed)
    in_memory reference has =
        byte_in_memory_fall reference pushed has

turned_right_fall :
    {site : Site} {limit : ℕ} (count : ℕ)
    → Falls site limit (turned_right_steps count)
unfolding turned_right_steps
turned_right_fall count =
    by_test (nat_le count 4) (repeated Rrc count) (repeated Rlc (8 - count))

pub right_shift_fall :
    {site : Site} {limit : ℕ} (count : ℕ)
    → Falls site limit (right_shift_steps count)
unfolding right_shift_steps
right_shift_fall count =
    by_test (count == 0) (falls tt)
    (by_test (count == 1) (falls tt)
    (joined (turned_right_fall count) (falls tt)))

rotation_fall :
    {site : Site} {limit : ℕ} (count : ℕ)
    → Falls site limit (rotation_steps count)
unfolding rotation_steps
rotation_fall count =
    by_test (nat_le count 4) (repeated Rlc count) (repeated Rrc (8 - count))

zero_fall :
    {site : Site} {limit : ℕ} (value : ExpressionNumber) (pushed : ℕ)
    → IsUnder site.tree.now limit value
    → Falls site limit (zero_steps value pushed)
unfolding zero_steps
zero_fall value pushed is = falls (is, tt)

shifted_left_fall :
    {site : Site} {limit : ℕ} (value : ExpressionNumber) (count pushed : ℕ)
    → IsUnder site.tree.now limit value
    → Falls site limit (shifted_left_steps value count pushed)
unfolding shifted_left_steps
shifted_left_fall value count pushed is =
    by_test (nat_le 8 count) (zero_fall value pushed is) (after_part is (repeated (with_register Add A) count))

pub byte_shifted_right_fall :
    {site : Site} {limit : ℕ} (value : ExpressionNumber) (count pushed : ℕ)
    → IsUnder site.tree.now limit value
    → Falls site limit (byte_shifted_right_steps value count pushed)
unfolding byte_shifted_right_steps
byte_shifted_right_fall value count pushed is =
    by_test (nat_le 8 count)
    (zero_fall value pushed is)
    (after_part is (right_shift_fall count))

middle_byte_fall :
    {site : Site} {limit : ℕ} (value : ExpressionNumber) (count pushed : ℕ)
    → IsUnder site.tree.now limit value
    → Falls site limit (middle_byte_steps value count pushed)
unfolding middle_byte_steps
middle_byte_fall value count pushed is =
    by_test (count == 1) (falls (is, tt))
    (after_part is (joined (repeated (Dad Hl) (8 - count)) (falls tt)))

pub low_byte_shifted_right_fall :
    {site : Site} {limit : ℕ} (value : ExpressionNumber) (count pushed : ℕ)
    → IsUnder site.tree.now limit value
    → Falls site limit (low_byte_shifted_right_steps site value count pushed)
unfolding low_byte_shifted_right_steps
low_byte_shifted_right_fall {site = site} value count pushed is =
    by_test (fits_byte site value)
    (byte_shifted_right_fall value count pushed is)
    (by_test (nat_le 16 count)
    (zero_fall value pushed is)
    (by_test (nat_le 8 count)
    (joined (high_byte_fall value pushed is) (right_shift_fall (count - 8)))
    (by_test (count == 0) (falls (is, tt))
    (middle_byte_fall value count pushed is))))

by_number_fall :
    {site : Site} {limit : ℕ} (function : ShiftFunction)
    (value : ExpressionNumber) (count pushed : ℕ)
    → IsUnder site.tree.now limit value
    → Falls site limit (by_number_steps site function value count pushed)
unfolding by_number_steps
by_number_fall ShiftLeft value count pushed is = shifted_left_fall value count pushed is
by_number_fall ShiftRight value count pushed is = low_byte_shifted_right_fall value count pushed is
by_number_fall RotateLeft value count pushed is = after_part is (rotation_fall (count % 8))
by_number_fall RotateRight value count pushed is =
    after_part is (rotation_fall ((8 - count % 8) % 8))

count_in_memory_fall :
    {site : Site} {limit : ℕ} (value count : ExpressionNumber)
    (reference : Reference) (pushed : ℕ)
    → IsUnder site.tree.now limit value → IsPlaced site.tree.now limit reference
    → Falls site limit (count_in_memory_steps value reference pushed)
unfolding count_in_memory_steps
count_in_memory_fall value count reference pushed one has =
    falls (one, (has, tt))

operands_fall :
    {site : Site} {limit : ℕ} (value count : ExpressionNumber) (pushed : ℕ)
    → IsUnder site.tree.now limit value → IsUnder site.tree.now limit count
    → Falls site limit (operands_steps site value count pushed)
unfolding operands_steps
operands_fall {site = site} {limit = limit} value count pushed one two =
    by_finding (operand_in_memory site count)
    (λ reference there. count_in_memory_fall value count reference pushed one
    (of_found (IsPlaced site.tree.now limit) (operand_is_in_memory site limit count two) there))
    (λ none. by_test ((is_some (known site value) || is_free site value) && may_exchange site value count)
    (falls (two, (one, tt)))
    (falls (one, (two, tt))))

-- the low byte of a shift or a rotation
pub byte_shift_fall :
    {site : Site} {limit : ℕ} (number : ExpressionNumber)
    (shifted : Shifted) (pushed : ℕ)
    → (scalar site number ≡ scalars.Address → rank site.tree.now (tasks.Word number) < limit)
    → IsUnder site.tree.now limit shifted.value → IsUnder site.tree.now limit shifted.count
    → Falls site limit (byte_shift_steps site number shifted pushed)
unfolding byte_shift_steps low_of_word_steps
byte_shift_fall {site = site} {limit = limit} number shifted pushed own one two =
    by_finding (number_of site shifted.count)
    (λ count there. by_number_fall shifted.function shifted.value count pushed one)
    (λ none. by (scalar site number) refl)
  where
    by : (found : ScalarType) → scalar site number ≡ found
        → Falls site limit (elim found [
          | scalars.Byte ↦
              operands_steps site shifted.value shifted.count pushed
              ++ (steps.CallRoutine (byte_routine shifted.function) ∷ [])
          | scalars.Address ↦ low_of_word_steps number pushed
        ])
    by scalars.Byte same = joined (operands_fall shifted.value shifted.count pushed one two) (falls tt)
    by scalars.Address same = record { below = (own same, tt); unmarked = refl; named = λ names. tt }

added_fall :
    {site : Site} {limit : ℕ} (number : ℕ)
    → Falls site limit (added_steps number)
unfolding added_steps
added_fall number =
    by_test (number == 0) (falls tt)
    (by_test (number == 1) (falls tt)
    (by_test (number == 255) (falls tt) (falls tt)))

immediate_fall :
    {site : Site} {limit : ℕ} (operation : Operation) (number : ℕ)
    → Falls site limit (immediate_steps operation number)
unfolding immediate_steps
immediate_fall Add number = added_fall number
immediate_fall Subtract number = added_fall ((256 - number) % 256)
immediate_fall Or number = by_test (number == 0) (falls tt) (falls tt)
immediate_fall ExclusiveOr number =
    by_test (number == 0) (falls tt)
    (by_test (number == 255) (falls tt) (falls tt))
immediate_fall And number = by_test (number == 255) (falls tt) (falls tt)
immediate_fall operation number = falls tt

pub with_number_fall :
    {site : Site} {limit : ℕ} (operation : Operation)
    (value : ExpressionNumber) (number pushed : ℕ)
    → IsUnder site.tree.now limit value
    → Falls site limit (with_number_steps operation value number pushed)
unfolding with_number_steps
with_number_fall And value number pushed is =
    by_test (number == 0) (falls (is, tt)) (after_part is (immediate_fall And number))
with_number_fall Or value number pushed is =
    by_test (number == 255) (after_part is (byte_number_fall 255))
    (after_part is (immediate_fall Or number))
with_number_fall operation value number pushed is = after_part is (immediate_fall operation number)

from_number_fall :
    {site : Site} {limit : ℕ} (operation : Operation) (number : ℕ)
    (value : ExpressionNumber) (pushed : ℕ)
    → IsUnder site.tree.now limit value
    → Falls site limit (from_number_steps operation number value pushed)
unfolding from_number_steps
from_number_fall operation number value pushed is =
    by_test (commutes operation)
    (with_number_fall operation value number pushed is)
    (after_part is (after_plain (added_fall ((number + 1) % 256))))

-- an operand that stays in memory is one of the two
abbrev IsByteForm : (site : Site) → (limit : ℕ) → ByteForm → Type 0
IsByteForm site limit (RightInMemory reference) = IsPlaced site.tree.now limit reference
IsByteForm site limit (LeftInMemory reference) = IsPlaced site.tree.now limit reference
IsByteForm site limit LeftFree = Unit {0}
IsByteForm site limit RightFree = Unit {0}
IsByteForm site limit Pushed = Unit {0}

after_right_is :
    (site : Site) (limit : ℕ) (operation : Operation) (operands : Operands)
    → IsUnder site.tree.now limit operands.left
    → IfSome (form_after_right site operation operands) (IsByteForm site limit)
unfolding form_after_right
after_right_is site limit operation operands one = by (commutes operation) (is_free site operands.left)
  where
    placed : (found : Option Reference) → IfSome found (IsPlaced site.tree.now limit)
        → IfSome (option_map LeftInMemory found) (IsByteForm site limit)
    placed (Some reference) has = has
    placed None has = tt

    by : (b alone : Bool)
        → IfSome
        (if b then option_map LeftInMemory (operand_in_memory site operands.left)
        else if alone then Some LeftFree else None)
        (IsByteForm site limit)
    by true alone =
        placed (operand_in_memory site operands.left) (operand_is_in_memory site limit operands.left one)
    by false true = tt
    by false false = tt

from_register_is :
    (site : Site) (limit : ℕ) (operation : Operation) (operands : Operands)
    → IsUnder site.tree.now limit operands.left
    → IfSome (form_from_register site operation operands) (IsByteForm site limit)
unfolding form_from_register
from_register_is site limit operation operands one =
    by (is_byte_in_register site operands.right && may_exchange site operands.left operands.right)
  where
    by : (b : Bool)
        → IfSome (if b then form_after_right site operation operands else None) (IsByteForm site limit)
    by true = after_right_is site limit operation operands one
    by false = tt

without_memory_is :
    (site : Site) (limit : ℕ) (operation : Operation) (operands : Operands)
    → IsByteForm site limit (form_without_memory site operation operands)
unfolding form_without_memory
without_memory_is site limit operation operands =
    by (may_exchange site operands.left operands.right && is_free site operands.left)
    (commutes operation && is_free site operands.right)
  where
    by : (one two : Bool) → IsByteForm site limit
        (if one then LeftFree else if two then RightFree else Pushed)
    by true two = tt
    by false true = tt
    by false false = tt

with_left_is :
    (site : Site) (limit : ℕ) (operation : Operation) (operands : Operands)
    → IsUnder site.tree.now limit operands.left
    → IsByteForm site limit (form_with_left site operation operands)
unfolding form_with_left
with_left_is site limit operation operands one =
    by (may_exchange site operands.left operands.right && commutes operation)
  where
    placed : (found : Option Reference) → IfSome found (IsPlaced site.tree.now limit)
        → IsByteForm site limit (elim found [
          | Some reference ↦ LeftInMemory reference
          | None ↦ form_without_memory site operation operands
        ])
    placed (Some reference) has = has
    placed None has = without_memory_is site limit operation operands

    by : (b : Bool)
        → IsByteForm site limit (if b
        then elim (operand_in_memory site operands.left) [
          | Some reference ↦ LeftInMemory reference
          | None ↦ form_without_memory site operation operands
        ]
        else form_without_memory site operation operands)
    by true =
        placed (operand_in_memory site operands.left) (operand_is_in_memory site limit operands.left one)
    by false = without_memory_is site limit operation operands

byte_form_is :
    (site : Site) (limit : ℕ) (operation : Operation) (operands : Operands)
    → IsUnder site.tree.now limit operands.left → IsUnder site.tree.now limit operands.right
    → IsByteForm site limit (form_of site operation operands)
unfolding form_of
byte_form_is site limit operation operands one two =
    by (form_from_register site operation operands) (from_register_is site limit operation operands one)
  where
    placed : (found : Option Reference) → IfSome found (IsPlaced site.tree.now limit)
        → IsByteForm site limit (elim found [
          | Some reference ↦ RightInMemory reference
          | None ↦ form_with_left site operation operands
        ])
    placed (Some reference) has = has
    placed None has = with_left_is site limit operation operands one

    by : (found : Option ByteForm) → IfSome found (IsByteForm site limit)
        → IsByteForm site limit (elim found [
          | Some form ↦ form
          | None ↦ elim (operand_in_memory site operands.right) [
            | Some reference ↦ RightInMemory reference
            | None ↦ form_with_left site operation operands
          ]
        ])
    by (Some form) has = has
    by None has =
        placed (operand_in_memory site operands.right) (operand_is_in_memory site limit operands.right two)

with_stack_fall :
    {site : Site} {limit : ℕ} (operation : Operation)
    (operands : Operands) (pushed : ℕ)
    → IsUnder site.tree.now limit operands.left → IsUnder site.tree.now limit operands.right
    → Falls site limit (with_stack_steps operation operands pushed)
unfolding with_stack_steps
with_stack_fall operation operands pushed one two =
    joined
    (after_part one (after_plain (after_part two (by_test (commutes operation) (falls tt) (falls tt)))))
    (falls tt)

in_form_fall :
    {site : Site} {limit : ℕ} (form : ByteForm) (operation : Operation)
    (operands : Operands) (pushed : ℕ)
    → IsUnder site.tree.now limit operands.left → IsUnder site.tree.now limit operands.right
    → IsByteForm site limit form
    → Falls site limit (in_form_steps form operation operands pushed)
unfolding in_form_steps with_memory_steps with_e_steps
in_form_fall (RightInMemory reference) operation operands pushed one two has =
    falls (one, (has, tt))
in_form_fall (LeftInMemory reference) operation operands pushed one two has =
    falls (two, (has, tt))
in_form_fall LeftFree operation operands pushed one two has = falls (two, (one, tt))
in_form_fall RightFree operation operands pushed one two has = falls (one, (two, tt))
in_form_fall Pushed operation operands pushed one two has = with_stack_fall operation operands pushed one two

-- an operation with the low bytes of two operands
pub byte_operation_fall :
    {site : Site} {limit : ℕ} (operation : Operation)
    (operands : Operands) (pushed : ℕ)
    → IsUnder site.tree.now limit operands.left → IsUnder site.tree.now limit operands.right
    → Falls site limit (byte_operation_steps site operation operands pushed)
unfolding byte_operation_steps
byte_operation_fall {site = site} {limit = limit} operation operands pushed one two =
    by_finding (low_number site operands.right)
    (λ number there. (with_number_fall operation operands.left number pushed one))
    (λ none. by_finding (low_number site operands.left)
    (λ number there. (from_number_fall operation number operands.right pushed two))
    (λ neither. in_form_fall (form_of site operation operands) operation operands pushed one two
    (byte_form_is site limit operation operands one two)))

-- products and quotients by the routines
pub computed_product_fall :
    {site : Site} {limit : ℕ} (operands : Operands) (pushed : ℕ)
    → IsUnder site.tree.now limit operands.left → IsUnder site.tree.now limit operands.right
    → Falls site limit (computed_product_steps site operands pushed)
unfolding computed_product_steps
computed_product_fall {site = site} operands pushed one two =
    joined (pair_in_order_fall operands.left operands.right
    (product_order (fits_byte site operands.left) (fits_byte site operands.right)) pushed one two) (falls tt)

pub division_fall :
    {site : Site} {limit : ℕ} (operands : Operands) (pushed : ℕ)
    → IsUnder site.tree.now limit operands.left → IsUnder site.tree.now limit operands.right
    → Falls site limit (division_steps site operands pushed)
unfolding division_steps
division_fall {site = site} operands pushed one two =
    joined (pair_fall operands.left operands.right true pushed one two) (falls tt)

product_byte_fall :
    {site : Site} {limit : ℕ} (operands : Operands) (pushed : ℕ)
    → IsUnder site.tree.now limit operands.left → IsUnder site.tree.now limit operands.right
    → Falls site limit (product_byte_steps site operands pushed)
unfolding product_byte_steps
product_byte_fall {site = site} operands pushed one two =
    by_finding (low_number site operands.right)
    (λ factor there. (byte_product_fall operands.left factor pushed one))
    (λ none. by_finding (low_number site operands.left)
    (λ factor there. (byte_product_fall operands.right factor pushed two))
    (λ neither. joined (computed_product_fall operands pushed one two) (falls tt)))

quotient_byte_fall :
    {site : Site} {limit : ℕ} (operands : Operands) (pushed : ℕ)
    → IsUnder site.tree.now limit operands.left → IsUnder site.tree.now limit operands.right
    → Falls site limit (quotient_byte_steps site operands pushed)
unfolding quotient_byte_steps
quotient_byte_fall {site = site} operands pushed one two =
    by_finding (power site operands.right)
    (λ count there. (low_byte_shifted_right_fall operands.left count pushed one))
    (λ none. joined (division_fall operands pushed one two) (falls tt))

remainder_byte_fall :
    {site : Site} {limit : ℕ} (operands : Operands) (pushed : ℕ)
    → IsUnder site.tree.now limit operands.left → IsUnder site.tree.now limit operands.right
    → Falls site limit (remainder_byte_steps site operands pushed)
unfolding remainder_byte_steps
remainder_byte_fall {site = site} operands pushed one two =
    by_finding (number_of_two site operands.right)
    (λ number there. (with_number_fall And operands.left (low ((number + 65535) % 65536)) pushed one))
    (λ none. joined (pair_fall operands.left operands.right true pushed one two) (falls tt))

-- the low byte of an operator with two operands
pub byte_binary_fall :
    {site : Site} {limit : ℕ} (number : ExpressionNumber)
    (operator : BinaryOperator) (operands : Operands)
    (pushed : ℕ)
    → HasLowParts site.tree.now limit number
    → IsUnder site.tree.now limit operands.left × IsUnder site.tree.now limit operands.right
    → Falls site limit (byte_binary_steps site number operator operands pushed)
unfolding byte_binary_steps
byte_binary_fall {site = site} number operators.Add operands pushed is has =
    byte_operation_fall Add operands pushed has.0 has.1
byte_binary_fall {site = site} number operators.Subtract operands pushed is has =
    byte_operation_fall Subtract operands pushed has.0 has.1
byte_binary_fall {site = site} number operators.And operands pushed is has =
    byte_operation_fall And operands pushed has.0 has.1
byte_binary_fall {site = site} number operators.Or operands pushed is has =
    byte_operation_fall Or operands pushed has.0 has.1
byte_binary_fall {site = site} number operators.Xor operands pushed is has =
    byte_operation_fall ExclusiveOr operands pushed has.0 has.1
byte_binary_fall number operators.Multiply operands pushed is has =
    product_byte_fall operands pushed has.0 has.1
byte_binary_fall number operators.Divide operands pushed is has =
    quotient_byte_fall operands pushed has.0 has.1
byte_binary_fall {site = site} number operators.Modulo operands pushed is has =
    remainder_byte_fall operands pushed has.0 has.1
byte_binary_fall {site = site} number operator operands pushed is has =
    relation_value_fall number pushed is
