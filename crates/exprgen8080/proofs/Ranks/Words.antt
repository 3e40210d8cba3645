-- Shifts of words, and operators with the result in HL.
use Rattle.exprgen8080.proofs.Prelude.{◌+◌, ◌-◌, ◌%◌, ◌==◌, ◌&&◌, ◌∷◌, [], if◌then◌else◌, A, And, BinaryOperator, Bool, Dad, ExclusiveOr, ExpressionNumber, H, Hl, IfSome, L, LeftInHl, Negate, None, Not, Number, Operands, Operation, Option, Or, PairOrder, Place, Register, RightInHl, RotateLeft, RotateRight, ShiftFunction, ShiftLeft, ShiftRight, Shifted, Simple, Site, Some, Subtract, SubtractWithBorrow, TreeModule, UnaryOperator, and_with_number_steps, both_halves_steps, clear_a, computed_count_steps, computed_logic_steps, copy, count_beside_word_steps, difference_steps, direct_word, exchanged_operand, false, first_and_simple, fits_byte, half_steps, half_through_a_steps, high, high_half_steps, is_free, is_of_bytes, is_word_in_hl, known, left_word, logic_steps, logic_with_byte_steps, logic_with_number_steps, logic_with_simple_steps, low, may_exchange, nat_le, nat_lt, number_of, number_of_two, pair_order, paired_steps, power, product_word_steps, quarter_steps, quotient_steps, remainder_steps, shifted_half_steps, shifted_right_little_steps, simple_operand, sum_steps, taken_from_number_steps, true, with_pair_steps, with_register, with_simple, with_word_steps, word_binary_steps, word_by_number_steps, word_shift_steps, word_shifted_right_steps, word_unary_steps, ℕ}
use Rattle.trees.specs.declared.expression.BinaryOperator.TheVariants as operators
use Rattle.exprgen8080.specs.declared.word_operators.Simple.TheVariants as simple
use Rattle.exprgen8080.specs.internal.WordShifts.{shifted_left_steps, zero_steps}
use Rattle.steps8080.specs.declared.step.Step.TheVariants as steps
use Rattle.steps8080.specs.internal.Step.{plain}
use Rattle.steps8080.specs.internal.Instructions.{set}
use Rattle.steps8080.proofs.SiteNames.{IsOwn, after_is_own, direct_word_is_own, known_is_own, number_is_own}
use Rattle.exprgen8080.proofs.Ranks.{Joining.{Falls, IsUnder, after_part, after_plain, by_finding, by_test, falls, joined, of_found, repeated}, Chains.{product_fall}, Addresses.{addition_fall}, Pairs.{pair_fall}, Bytes.{byte_operation_fall, byte_shifted_right_fall, computed_product_fall, division_fall, high_byte_fall, right_shift_fall, with_number_fall}}

zero_fall :
    {site : Site} {limit : ℕ} (value : ExpressionNumber) (pushed : ℕ)
    → IsUnder site.tree.now limit value
    → Falls site limit (zero_steps value pushed)
unfolding zero_steps
zero_fall value pushed is = falls (is, (number_is_own, tt))

shifted_left_fall :
    {site : Site} {limit : ℕ} (value : ExpressionNumber) (count pushed : ℕ)
    → IsUnder site.tree.now limit value
    → Falls site limit (shifted_left_steps value count pushed)
unfolding shifted_left_steps
shifted_left_fall value count pushed is =
    by_test (nat_le 16 count) (zero_fall value pushed is)
    (by_test (nat_le 8 count) (after_part is (after_plain (after_plain (repeated (Dad Hl) (count - 8)))))
    (after_part is (repeated (Dad Hl) count)))

half_fall :
    {site : Site} {limit : ℕ}
    → Falls site limit shifted_half_steps
unfolding shifted_half_steps
half_fall = falls tt

quarter_fall :
    {site : Site} {limit : ℕ}
    → Falls site limit quarter_steps
unfolding quarter_steps
quarter_fall = falls tt

little_fall :
    {site : Site} {limit : ℕ} (value : ExpressionNumber) (count pushed : ℕ)
    → IsUnder site.tree.now limit value
    → Falls site limit (shifted_right_little_steps value count pushed)
unfolding shifted_right_little_steps
little_fall value count pushed is =
    after_part is (by_test (count == 0) (falls tt)
    (by_test (count == 1) (half_fall)
    (by_test (count == 2) quarter_fall (falls tt))))

word_shifted_right_fall :
    {site : Site} {limit : ℕ} (value : ExpressionNumber) (count pushed : ℕ)
    → IsUnder site.tree.now limit value
    → Falls site limit (word_shifted_right_steps site value count pushed)
unfolding word_shifted_right_steps
word_shifted_right_fall {site = site} value count pushed is =
    by_test (count == 0) (falls (is, tt))
    (by_test (nat_le 16 count) (zero_fall value pushed is)
    (by_test (fits_byte site value)
    (joined (byte_shifted_right_fall value count pushed is) (falls tt))
    (by_test (nat_le 8 count)
    (joined (joined (high_byte_fall value pushed is) (right_shift_fall (count - 8))) (falls tt))
    (little_fall value count pushed is))))

count_fall :
    {site : Site} {limit : ℕ} (count : ExpressionNumber) (pushed : ℕ)
    → IsUnder site.tree.now limit count
    → Falls site limit (count_beside_word_steps site count pushed)
unfolding count_beside_word_steps
count_fall {site = site} count pushed is =
    by_test (is_free site count) (falls (is, tt)) (falls (is, tt))

computed_count_fall :
    {site : Site} {limit : ℕ} (shifted : Shifted) (pushed : ℕ)
    → IsUnder site.tree.now limit shifted.value → IsUnder site.tree.now limit shifted.count
    → Falls site limit (computed_count_steps site shifted pushed)
unfolding computed_count_steps
computed_count_fall {site = site} shifted pushed one two =
    joined (after_part one (count_fall shifted.count pushed two)) (falls tt)

word_by_number_fall :
    {site : Site} {limit : ℕ} (function : ShiftFunction)
    (value : ExpressionNumber) (count pushed : ℕ)
    → IsUnder site.tree.now limit value
    → Falls site limit (word_by_number_steps site function value count pushed)
unfolding word_by_number_steps
word_by_number_fall ShiftRight value count pushed is = word_shifted_right_fall value count pushed is
word_by_number_fall RotateRight value count pushed is = word_shifted_right_fall value count pushed is
word_by_number_fall ShiftLeft value count pushed is = shifted_left_fall value count pushed is
word_by_number_fall RotateLeft value count pushed is = shifted_left_fall value count pushed is

-- a shift of an ADDRESS
pub word_shift_fall :
    {site : Site} {limit : ℕ} (shifted : Shifted) (pushed : ℕ)
    → IsUnder site.tree.now limit shifted.value → IsUnder site.tree.now limit shifted.count
    → Falls site limit (word_shift_steps site shifted pushed)
unfolding word_shift_steps
word_shift_fall {site = site} shifted pushed one two =
    by_finding (number_of site shifted.count)
    (λ count there. (word_by_number_fall shifted.function shifted.value count pushed one))
    (λ none. computed_count_fall shifted pushed one two)

sum_fall :
    {site : Site} {limit : ℕ} (operands : Operands) (pushed : ℕ)
    → IsUnder site.tree.now limit operands.left → IsUnder site.tree.now limit operands.right
    → Falls site limit (sum_steps site operands pushed)
unfolding sum_steps
sum_fall {site = site} operands pushed one two =
    by_finding (known site operands.right)
    (λ place there. after_part one
    (addition_fall place (of_found (IsOwn site.tree.now) (known_is_own site operands.right) there)))
    (λ none. by_finding (known site operands.left)
    (λ place there. after_part two
    (addition_fall place (of_found (IsOwn site.tree.now) (known_is_own site operands.left) there)))
    (λ neither. joined (pair_fall operands.left operands.right false pushed one two) (falls tt)))

taken_from_fall :
    {site : Site} {limit : ℕ} (number : ℕ)
    → Falls site limit (taken_from_number_steps number)
unfolding taken_from_number_steps
taken_from_fall number = by (low number == 0)
  where
    by : {site : Site} {limit : ℕ} (b : Bool)
        → Falls site limit ((if b then steps.Plain clear_a else steps.Plain (set A (low number)))
        ∷ plain (
        with_register Subtract L ∷ copy L A
        ∷ set A (high number) ∷ with_register SubtractWithBorrow H ∷ copy H A ∷ []))
    by true = falls tt
    by false = falls tt

with_word_fall :
    {site : Site} {limit : ℕ} (place : Place) (on_low on_high : Operation)
    → IsOwn site.tree.now place
    → Falls site limit (with_word_steps place on_low on_high)
unfolding with_word_steps
with_word_fall place on_low on_high own = falls (own, (after_is_own 1 own, tt))

with_pair_fall :
    {site : Site} {limit : ℕ} (order : PairOrder)
    (on_low on_high : Operation)
    → Falls site limit (with_pair_steps order on_low on_high)
unfolding with_pair_steps
with_pair_fall LeftInHl on_low on_high = falls tt
with_pair_fall RightInHl on_low on_high = falls tt

paired_fall :
    {site : Site} {limit : ℕ} (operands : Operands)
    (on_low on_high : Operation) (pushed : ℕ)
    → IsUnder site.tree.now limit operands.left → IsUnder site.tree.now limit operands.right
    → Falls site limit (paired_steps site operands on_low on_high pushed)
unfolding paired_steps
paired_fall {site = site} operands on_low on_high pushed one two =
    joined (pair_fall operands.left operands.right false pushed one two)
    (with_pair_fall (pair_order site operands.left operands.right false) on_low on_high)

left_word_is_own : (site : Site) (operands : Operands) → IfSome (left_word site operands) (IsOwn site.tree.now)
unfolding left_word
left_word_is_own site operands = by (direct_word site operands.left) (direct_word_is_own site operands.left)
  where
    if_exchanged : (place : Place) (b : Bool) → IsOwn site.tree.now place
        → IfSome (if b then Some place else None) (IsOwn site.tree.now)
    if_exchanged place true is = is
    if_exchanged place false is = tt

    by : (found : Option Place) → IfSome found (IsOwn site.tree.now)
        → IfSome (elim found [
          | Some place ↦ if may_exchange site operands.left operands.right then Some place else None
          | None ↦ None
        ]) (IsOwn site.tree.now)
    by (Some place) is = if_exchanged place (may_exchange site operands.left operands.right) is
    by None is = tt

difference_fall :
    {site : Site} {limit : ℕ} (operands : Operands) (pushed : ℕ)
    → IsUnder site.tree.now limit operands.left → IsUnder site.tree.now limit operands.right
    → Falls site limit (difference_steps site operands pushed)
unfolding difference_steps
difference_fall {site = site} operands pushed one two =
    by_finding (number_of site operands.right)
    (λ number there. after_part one (addition_fall (Number ((65536 - number) % 65536)) number_is_own))
    (λ none. by_finding (number_of site operands.left)
    (λ number there. after_part two (taken_from_fall number))
    (λ neither. by_finding (left_word site operands)
    (λ place there. after_part two (with_word_fall place Subtract SubtractWithBorrow
    (of_found (IsOwn site.tree.now) (left_word_is_own site operands) there)))
    (λ no_place. paired_fall operands Subtract SubtractWithBorrow pushed one two)))

through_a_fall :
    {site : Site} {limit : ℕ} (operation : Operation)
    (register : Register) (number : ℕ)
    → Falls site limit (half_through_a_steps operation register number)
unfolding half_through_a_steps
through_a_fall operation register number = falls tt

half_of_word_fall :
    {site : Site} {limit : ℕ} (operation : Operation)
    (register : Register) (number : ℕ)
    → Falls site limit (half_steps operation register number)
unfolding half_steps
half_of_word_fall And register number =
    by_test (number == 255) (falls tt)
    (by_test (number == 0) (falls tt) (through_a_fall And register number))
half_of_word_fall Or register number =
    by_test (number == 0) (falls tt)
    (by_test (number == 255) (falls tt) (through_a_fall Or register number))
half_of_word_fall ExclusiveOr register number =
    by_test (number == 0) (falls tt)
    (by_test (number == 255) (falls tt) (through_a_fall ExclusiveOr register number))
half_of_word_fall operation register number = through_a_fall operation register number

high_half_fall :
    {site : Site} {limit : ℕ} (value : ExpressionNumber)
    (number pushed : ℕ)
    → IsUnder site.tree.now limit value
    → Falls site limit (high_half_steps site value number pushed)
unfolding high_half_steps
high_half_fall {site = site} value number pushed is =
    joined (joined (high_byte_fall value pushed is) (by_test (number == 255) (falls tt) (falls tt)))
    (falls tt)

both_halves_fall :
    {site : Site} {limit : ℕ} (operation : Operation)
    (value : ExpressionNumber) (number pushed : ℕ)
    → IsUnder site.tree.now limit value
    → Falls site limit (both_halves_steps operation value number pushed)
unfolding both_halves_steps
both_halves_fall operation value number pushed is =
    joined (after_part is (half_of_word_fall operation L (low number)))
    (half_of_word_fall operation H (high number))

and_with_number_fall :
    {site : Site} {limit : ℕ} (value : ExpressionNumber)
    (number pushed : ℕ)
    → IsUnder site.tree.now limit value
    → Falls site limit (and_with_number_steps site value number pushed)
unfolding and_with_number_steps
and_with_number_fall {site = site} value number pushed is =
    by_test (nat_lt number 256)
    (joined (with_number_fall And value (low number) pushed is) (falls tt))
    (by_test (low number == 0)
    (high_half_fall value (high number) pushed is)
    (both_halves_fall And value number pushed is))

logic_with_number_fall :
    {site : Site} {limit : ℕ} (operation : Operation)
    (value : ExpressionNumber) (number pushed : ℕ)
    → IsUnder site.tree.now limit value
    → Falls site limit (logic_with_number_steps site operation value number pushed)
unfolding logic_with_number_steps
logic_with_number_fall And value number pushed is = and_with_number_fall value number pushed is
logic_with_number_fall operation value number pushed is = both_halves_fall operation value number pushed is

-- a byte that is evaluated second
abbrev IsSimple : (tree : TreeModule) → (limit : ℕ) → Simple → Type 0
IsSimple tree limit (simple.Byte byte) = IsUnder tree limit byte
IsSimple tree limit (simple.Word place) = IsOwn tree place

simple_is :
    (site : Site) (limit : ℕ) (number : ExpressionNumber)
    → IsUnder site.tree.now limit number
    → IfSome (simple_operand site number) (IsSimple site.tree.now limit)
unfolding simple_operand
simple_is site limit number is =
    by (fits_byte site number && is_free site number) (direct_word site number) (direct_word_is_own site number)
  where
    by : (b : Bool) (found : Option Place) → IfSome found (IsOwn site.tree.now)
        → IfSome
        (if b then Some (simple.Byte number)
        else elim found [ Some place ↦ Some (simple.Word place) | None ↦ None ])
        (IsSimple site.tree.now limit)
    by true found own = is
    by false (Some place) own = own
    by false None own = tt

exchanged_is :
    (site : Site) (limit : ℕ) (operands : Operands)
    → IsUnder site.tree.now limit operands.left
    → IfSome (exchanged_operand site operands) (IsSimple site.tree.now limit)
unfolding exchanged_operand
exchanged_is site limit operands one = by (may_exchange site operands.left operands.right)
  where
    by : (b : Bool)
        → IfSome (if b then simple_operand site operands.left else None) (IsSimple site.tree.now limit)
    by true = simple_is site limit operands.left one
    by false = tt

-- the operand that is evaluated first, and the simple one
abbrev IsChosen : (tree : TreeModule) → (limit : ℕ) → ExpressionNumber × Simple → Type 0
IsChosen tree limit chosen = IsUnder tree limit chosen.0 × IsSimple tree limit chosen.1

first_is :
    (site : Site) (limit : ℕ) (operands : Operands)
    (right exchanged : Option Simple)
    → IsUnder site.tree.now limit operands.left → IsUnder site.tree.now limit operands.right
    → IfSome right (IsSimple site.tree.now limit)
    → IfSome exchanged (IsSimple site.tree.now limit)
    → IfSome (first_and_simple site operands right exchanged) (IsChosen site.tree.now limit)
unfolding first_and_simple
first_is site limit operands (Some operand) (Some exchanged) one two first second =
    by (is_word_in_hl site operands.right)
  where
    by : (b : Bool)
        → IfSome (if b then Some (operands.right, exchanged) else Some (operands.left, operand))
        (IsChosen site.tree.now limit)
    by true = (two, second)
    by false = (one, first)
first_is site limit operands (Some operand) None one two first second = (one, first)
first_is site limit operands None (Some exchanged) one two first second = (two, second)
first_is site limit operands None None one two first second = tt

with_simple_is :
    (site : Site) (limit : ℕ) (operands : Operands)
    → IsUnder site.tree.now limit operands.left → IsUnder site.tree.now limit operands.right
    → IfSome (with_simple site operands) (IsChosen site.tree.now limit)
unfolding with_simple
with_simple_is site limit operands one two =
    first_is site limit operands (simple_operand site operands.right)
    (exchanged_operand site operands) one two
    (simple_is site limit operands.right two) (exchanged_is site limit operands one)

logic_with_simple_fall :
    {site : Site} {limit : ℕ} (operation : Operation)
    (value : ExpressionNumber)
    (second : Simple) (pushed : ℕ)
    → IsUnder site.tree.now limit value → IsSimple site.tree.now limit second
    → Falls site limit (logic_with_simple_steps operation value second pushed)
unfolding logic_with_simple_steps logic_with_byte_steps
logic_with_simple_fall operation value (simple.Byte byte) pushed one two = falls (one, (two, tt))
logic_with_simple_fall operation value (simple.Word place) pushed one two =
    after_part one (with_word_fall place operation operation two)

computed_logic_fall :
    {site : Site} {limit : ℕ} (operation : Operation)
    (operands : Operands) (pushed : ℕ)
    → IsUnder site.tree.now limit operands.left → IsUnder site.tree.now limit operands.right
    → Falls site limit (computed_logic_steps site operation operands pushed)
unfolding computed_logic_steps
computed_logic_fall {site = site} {limit = limit} operation operands pushed one two =
    by_test (is_of_bytes site operation operands)
    (joined (byte_operation_fall operation operands pushed one two) (falls tt))
    (by_finding (with_simple site operands)
    (λ chosen there. by chosen
    (of_found (IsChosen site.tree.now limit)
    (with_simple_is site limit operands one two) there))
    (λ none. paired_fall operands operation operation pushed one two))
  where
    by : (chosen : ExpressionNumber × Simple)
        → IsChosen site.tree.now limit chosen
        → Falls site limit (logic_with_simple_steps operation chosen.0 chosen.1 pushed)
    by chosen is =
        logic_with_simple_fall operation chosen.0 chosen.1 pushed is.0 is.1

logic_fall :
    {site : Site} {limit : ℕ} (operation : Operation)
    (operands : Operands) (pushed : ℕ)
    → IsUnder site.tree.now limit operands.left → IsUnder site.tree.now limit operands.right
    → Falls site limit (logic_steps site operation operands pushed)
unfolding logic_steps
logic_fall {site = site} operation operands pushed one two =
    by_finding (number_of site operands.right)
    (λ number there. (logic_with_number_fall operation operands.left number pushed one))
    (λ none. by_finding (number_of site operands.left)
    (λ number there. (logic_with_number_fall operation operands.right number pushed two))
    (λ neither. computed_logic_fall operation operands pushed one two))

product_word_fall :
    {site : Site} {limit : ℕ} (operands : Operands) (pushed : ℕ)
    → IsUnder site.tree.now limit operands.left → IsUnder site.tree.now limit operands.right
    → Falls site limit (product_word_steps site operands pushed)
unfolding product_word_steps
product_word_fall {site = site} operands pushed one two =
    by_finding (number_of site operands.right)
    (λ number there. (product_fall operands.left number pushed one))
    (λ none. by_finding (number_of site operands.left)
    (λ number there. (product_fall operands.right number pushed two))
    (λ neither. computed_product_fall operands pushed one two))

quotient_fall :
    {site : Site} {limit : ℕ} (operands : Operands) (pushed : ℕ)
    → IsUnder site.tree.now limit operands.left → IsUnder site.tree.now limit operands.right
    → Falls site limit (quotient_steps site operands pushed)
unfolding quotient_steps
quotient_fall {site = site} operands pushed one two =
    by_finding (power site operands.right)
    (λ count there. (word_shifted_right_fall operands.left count pushed one))
    (λ none. (division_fall operands pushed one two))

remainder_fall :
    {site : Site} {limit : ℕ} (operands : Operands) (pushed : ℕ)
    → IsUnder site.tree.now limit operands.left → IsUnder site.tree.now limit operands.right
    → Falls site limit (remainder_steps site operands pushed)
unfolding remainder_steps
remainder_fall {site = site} operands pushed one two =
    by_finding (number_of_two site operands.right)
    (λ number there. (logic_with_number_fall And operands.left ((number + 65535) % 65536) pushed one))
    (λ none. joined (division_fall operands pushed one two) (falls tt))

-- an operator with two ADDRESS operands
pub word_binary_fall :
    {site : Site} {limit : ℕ} (operator : BinaryOperator)
    (operands : Operands) (pushed : ℕ)
    → IsUnder site.tree.now limit operands.left → IsUnder site.tree.now limit operands.right
    → Falls site limit (word_binary_steps site operator operands pushed)
unfolding word_binary_steps
word_binary_fall operators.Add operands pushed one two = sum_fall operands pushed one two
word_binary_fall operators.Subtract operands pushed one two = difference_fall operands pushed one two
word_binary_fall operators.And operands pushed one two = logic_fall And operands pushed one two
word_binary_fall operators.Or operands pushed one two = logic_fall Or operands pushed one two
word_binary_fall operators.Xor operands pushed one two = logic_fall ExclusiveOr operands pushed one two
word_binary_fall operators.Multiply operands pushed one two = product_word_fall operands pushed one two
word_binary_fall operators.Divide operands pushed one two = quotient_fall operands pushed one two
word_binary_fall operators.Modulo operands pushed one two = remainder_fall operands pushed one two
word_binary_fall operator operands pushed one two = falls tt

-- an operator with one operand
pub word_unary_fall :
    {site : Site} {limit : ℕ}
    (operator : UnaryOperator) → Falls site limit (word_unary_steps operator)
unfolding word_unary_steps
word_unary_fall Not = falls tt
word_unary_fall Negate = falls tt
