-- The lowest bits of results.
use Rattle.task_laws.proofs.Prelude.{◌≡◌, ℕ, zero, suc, ◌+◌, ◌-◌, ◌%◌, ◌<◌, ◌==◌, Bool, true, false, not, bit_and, bit_or, refl, sym, ap, ◌∙◌, arith, false≢true, eqb-true, eq-eqb, ne_eqb, and_mod, or_mod, ScalarType, Not, Negate, as_type, is_true, result_of_one, values_of}
use Rattle.trees.specs.declared.declaration.ScalarType.TheVariants as scalars

abbrev bit_of : Bool → ℕ
bit_of true = 1
bit_of false = 0

bit_is : (v : ℕ) (b : Bool) → is_true v ≡ b → v % 2 ≡ bit_of b
bit_is v true is = eqb-true (v % 2) 1 is
bit_is v false is = by (v % 2) (omega arith) is
  where
    by : (n : ℕ) → n < 2 → (n == 1) ≡ false → n ≡ 0
    by zero small none = refl
    by (suc zero) small none = absurd (false≢true (sym none))
    by (suc (suc n)) small none = absurd (omega (arith, small))

same_bit : (a b : ℕ) → a % 2 ≡ b % 2 → is_true a ≡ is_true b
same_bit a b same = ap (λ n. n == 1) same

pub type_keeps_bit : (scalar : ScalarType) (v : ℕ) → is_true (as_type scalar v) ≡ is_true v
type_keeps_bit scalars.Byte v = same_bit (v % 256) v (omega arith)
type_keeps_bit scalars.Address v = same_bit (v % 65536) v (omega arith)

pub low_keeps_bit : (v : ℕ) → is_true (v % 256) ≡ is_true v
low_keeps_bit v = same_bit (v % 256) v (omega arith)

pub negation_keeps_bit : (scalar : ScalarType) (v : ℕ) → v < values_of scalar
    → is_true (result_of_one scalar Negate v) ≡ is_true v
negation_keeps_bit scalars.Byte v small = same_bit ((256 - v) % 256) v (omega (arith, small))
negation_keeps_bit scalars.Address v small = same_bit ((65536 - v) % 65536) v (omega (arith, small))

other_bit : (a b : ℕ) → (a + b) % 2 ≡ 1 → is_true a ≡ not (is_true b)
other_bit a b odd = by (is_true b) refl
  where
    by : (bit : Bool) → is_true b ≡ bit → is_true a ≡ not bit
    by true is = let low = bit_is b true is in ne_eqb (a % 2) 1 (λ same. omega (arith, low, same, odd))
    by false is = let low = bit_is b false is in eq-eqb (a % 2) 1 (omega (arith, low, odd))

pub complement_turns_bit : (scalar : ScalarType) (v : ℕ) → v < values_of scalar
    → is_true (result_of_one scalar Not v) ≡ not (is_true v)
complement_turns_bit scalars.Byte v small = other_bit ((256 - 1) - v) v (omega (arith, small))
complement_turns_bit scalars.Address v small = other_bit ((65536 - 1) - v) v (omega (arith, small))

and_bits : (v w : ℕ) → bit_and v w % 2 ≡ bit_and (v % 2) (w % 2)
and_bits v w = and_mod v w 1

or_bits : (v w : ℕ) → bit_or v w % 2 ≡ bit_or (v % 2) (w % 2)
or_bits v w = or_mod v w 1

and_one : (n : ℕ) → n < 2 → bit_and 1 n ≡ n
and_one zero small = refl
and_one (suc zero) small = refl
and_one (suc (suc n)) small = absurd (omega (arith, small))

or_one : (n : ℕ) → n < 2 → bit_or 1 n ≡ 1
or_one zero small = refl
or_one (suc zero) small = refl
or_one (suc (suc n)) small = absurd (omega (arith, small))

-- AND and OR, by the lowest bit of the left side
pub and_with_zero : (v w : ℕ) → is_true v ≡ false → is_true (bit_and v w) ≡ false
and_with_zero v w is =
    ap (λ n. n == 1) (and_bits v w ∙ ap (λ n. bit_and n (w % 2)) (bit_is v false is))

pub and_with_one : (v w : ℕ) → is_true v ≡ true → is_true (bit_and v w) ≡ is_true w
and_with_one v w is =
    ap (λ n. n == 1)
    (and_bits v w ∙ ap (λ n. bit_and n (w % 2)) (bit_is v true is) ∙ and_one (w % 2) (omega arith))

pub or_with_one : (v w : ℕ) → is_true v ≡ true → is_true (bit_or v w) ≡ true
or_with_one v w is =
    ap (λ n. n == 1)
    (or_bits v w ∙ ap (λ n. bit_or n (w % 2)) (bit_is v true is) ∙ or_one (w % 2) (omega arith))

pub or_with_zero : (v w : ℕ) → is_true v ≡ false → is_true (bit_or v w) ≡ is_true w
or_with_zero v w is =
    ap (λ n. n == 1) (or_bits v w ∙ ap (λ n. bit_or n (w % 2)) (bit_is v false is))
