-- Products with numbers.
use Rattle.measure_laws.proofs.Prelude.{Bool, IfSome, None, Option, Some, arith, false, if◌then◌else◌, refl, suc, true, zero, ℕ, ◌%◌, ◌*◌, ◌+◌, ◌/◌, ◌<◌, ◌==◌, ◌^◌, ◌||◌, ◌≡◌, Instr, Dad, Add, Bc, Hl, A, B, size_of_instruction, ExpressionNumber, with_register, power_from, power_of_two, bit_steps, byte_multiple_steps, byte_product_steps, multiple_steps, product_steps, small_multiple_steps, chain_from, has_bit, keeps_stack, beside}
use Rattle.measure_laws.specs.internal.Footprints.{Footprint, Ground, IsOperand}
use Rattle.measure_laws.proofs.{Footprints.Found.{of_found}, Footprints.Joining.{after_part, after_plain, by_finding, by_test, counted, joined, repeated, within}}

power_below : (count power number : ℕ) → IfSome (power_from count power number) (λ p. p < power + count)
power_below zero power number = tt
power_below (suc others) power number = by (number == 2 ^ power) (power_below others (power + 1) number)
  where
    further : (found : Option ℕ) → IfSome found (λ p. p < power + 1 + others)
        → IfSome found (λ p. p < power + suc others)
    further (Some p) small = omega (arith, small)
    further None small = tt

    by : (b : Bool) → IfSome (power_from others (power + 1) number) (λ p. p < power + 1 + others)
        → IfSome (if b then Some power else power_from others (power + 1) number)
        (λ p. p < power + suc others)
    by true small = omega arith
    by false small = further (power_from others (power + 1) number) small

-- a power of two in a word is one below 16
pub power_small : (number : ℕ) → IfSome (power_of_two number) (λ p. p < 16)
unfolding power_of_two
power_small number = power_below 16 0 number

bit_footprint :
    {at : Ground} {free : ℕ} (twice once_more : Instr) (is_below is_set : Bool)
    → keeps_stack twice ≡ true → keeps_stack once_more ≡ true
    → size_of_instruction twice ≡ 1 → size_of_instruction once_more ≡ 1
    → Footprint at free (bit_steps twice once_more is_below is_set) free 2
bit_footprint twice once_more false is_set one two twice_one once_one = counted refl (omega arith)
bit_footprint twice once_more true false one two twice_one once_one =
    after_plain 0 one (counted refl (omega arith)) (omega (arith, twice_one))
bit_footprint twice once_more true true one two twice_one once_one =
    after_plain 1 one (after_plain 0 two (counted refl (omega arith)) (omega (arith, once_one)))
    (omega (arith, twice_one))

-- two instructions for each bit
chain_footprint :
    {at : Ground} {free : ℕ} (bits number : ℕ) (twice once_more : Instr) (is_below : Bool)
    → keeps_stack twice ≡ true → keeps_stack once_more ≡ true
    → size_of_instruction twice ≡ 1 → size_of_instruction once_more ≡ 1
    → Footprint at free (chain_from bits number twice once_more is_below) free (2 * bits)
unfolding chain_from
chain_footprint zero number twice once_more is_below one two twice_one once_one = counted refl (omega arith)
chain_footprint (suc bit) number twice once_more is_below one two twice_one once_one =
    joined 2 (2 * bit)
    (bit_footprint twice once_more is_below (has_bit number bit) one two twice_one once_one)
    (chain_footprint bit number twice once_more (is_below || has_bit number bit) one two twice_one once_one)
    (omega arith)

small_multiple_footprint :
    {at : Ground} {free : ℕ} (number : ℕ)
    → Footprint at free (small_multiple_steps number) free 34
small_multiple_footprint number =
    by_finding (power_of_two number)
    (λ power is. within power (repeated (Dad Hl) power refl refl)
    (omega (arith, of_found (λ p. p < 16) (power_small number) is)))
    (λ none. after_plain 33 refl
    (after_plain 32 refl (chain_footprint 16 number (Dad Hl) (Dad Bc) false refl refl refl refl)
    (omega arith))
    (omega arith))

pub multiple_footprint :
    {at : Ground} {free : ℕ} (number : ℕ)
    → Footprint at free (multiple_steps number) free 37
multiple_footprint number =
    by_test (number % 256 == 0)
    (after_plain 36 refl (after_plain 34 refl (small_multiple_footprint (number / 256)) (omega arith))
    (omega arith)) (within 34 (small_multiple_footprint number) (omega arith))

-- the value of an expression times a number
pub product_footprint :
    {at : Ground} {free : ℕ} (expression : ExpressionNumber) (number pushed : ℕ)
    → IsOperand at free expression
    → Footprint at free (product_steps expression number pushed) free (113 + 128 * beside at.site expression)
product_footprint expression number pushed is =
    by_test (number == 0) (counted (is, refl) (omega arith))
    (after_part 37 is (multiple_footprint number) (omega arith))

byte_multiple_footprint :
    {at : Ground} {free : ℕ} (number : ℕ)
    → Footprint at free (byte_multiple_steps number) free 33
byte_multiple_footprint number =
    by_finding (power_of_two number)
    (λ power is. within power (repeated (with_register Add A) power refl refl)
    (omega (arith, of_found (λ p. p < 16) (power_small number) is)))
    (λ none. after_plain 32 refl
    (chain_footprint 16 number (with_register Add A) (with_register Add B) false refl refl refl refl)
    (omega arith))

-- its low byte
pub byte_product_footprint :
    {at : Ground} {free : ℕ} (expression : ExpressionNumber) (number pushed : ℕ)
    → IsOperand at free expression
    → Footprint at free (byte_product_steps expression number pushed) free
    (113 + 128 * beside at.site expression)
byte_product_footprint expression number pushed is =
    by_test (number == 0) (counted (is, refl) (omega arith))
    (after_part 33 is (byte_multiple_footprint number) (omega arith))
