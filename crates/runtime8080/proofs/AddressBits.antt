-- The arithmetic of the shifts of an ADDRESS: words of two bytes, their halves and quarters, and the 24 bits
-- of A, H and L doubled.
use Rattle.runtime8080.proofs.Prelude.{◌≡◌, ℕ, suc, ◌+◌, ◌*◌, ◌/◌, ◌%◌, ◌^◌, ◌<◌, ◌≤◌, ◌==◌, Bool, true, false, not, nat_le, refl, sym, ap, ◌∙◌, arith, pow-add, bit_and, bit_xor, xor_assoc, xor_self, xor_zero_l, xor_zero_r, ones, div-div-eq-div-mul, div-eq_of_lt, mod-eq_of_lt, mul-div-mul_right, pow-le-pow_right, pow-suc, mul-mod_first, pow_pos, xor_mod, xor_of_8, xor_shr, leb-false, leb-true, bit, has_even_parity, word}
use Rattle.runtime8080.proofs.Bits.{equal_below, turn_right}
use Rattle.runtime8080.proofs.Numbers.{product_at_most}

pub low_small : (n : ℕ) → n % 256 < 256
low_small n = omega arith

pub word_small : (high low : ℕ) → high < 256 → low < 256 → word high low < 65536
word_small high low h l = omega arith

pub doubled_product : (x p : ℕ) → (x + x) * p ≡ x * (p * 2)
doubled_product x p = omega arith

-- the parity of what is left of a count of 0 and of 1
pub odd_of : (byte : ℕ) → byte ≡ 254 → not (has_even_parity byte) ≡ true
unfolding ones
odd_of byte h = ap (λ n. not (has_even_parity n)) h

pub even_of : (byte : ℕ) → byte ≡ 255 → not (has_even_parity byte) ≡ false
unfolding ones
even_of byte h = ap (λ n. not (has_even_parity n)) h

-- the half of a word: the low bit of its high byte goes into the low byte
lowest_bit : (n : ℕ) → bit (n % 2 == 1) ≡ n % 2
lowest_bit n = equal_below (λ k. bit (k == 1)) (λ k. k) 2 (n % 2) refl (omega arith)

half_word : (h l : ℕ) → word (h / 2 + 128 * 0) (l / 2 + 128 * (h % 2)) ≡ word h l / 2
half_word h l = omega arith

pub halves :
    (h l : ℕ) (carry : Bool)
    → carry ≡ false
    → word (h / 2 + 128 * bit carry) (l / 2 + 128 * bit (h % 2 == 1)) ≡ word h l / 2
halves h l carry none =
    ap (λ c. word (h / 2 + 128 * bit c) (l / 2 + 128 * bit (h % 2 == 1))) none
    ∙ (ap (λ n. word (h / 2 + 128 * 0) (l / 2 + 128 * n)) (lowest_bit h) ∙ half_word h l)

pub half_small : (n : ℕ) (carry : Bool) → n < 256 → n / 2 + 128 * bit carry < 256
half_small n true small = omega arith
half_small n false small = omega arith

-- the quarter of a word: A has the upper six bits of the low byte and the lower two of the high one, and is
-- turned twice
abbrev pub joined : (h l : ℕ) → ℕ
joined h l = bit_xor (bit_and (bit_xor l h) 252) h

upper_six : (n : ℕ) → n < 256 → bit_and n 252 ≡ n / 4 * 4
upper_six n small = equal_below (λ k. bit_and k 252) (λ k. k / 4 * 4) 256 n refl small

four_back : (n : ℕ) → n * 4 / 4 ≡ n
four_back n = omega arith

none_of_four : (n : ℕ) → (n * 4) % 4 ≡ 0
none_of_four n = omega arith

joined_high : (h l : ℕ) → h < 256 → l < 256 → joined h l / 4 ≡ l / 4
joined_high h l small_h small_l =
    xor_shr (bit_and (bit_xor l h) 252) h 2
    ∙ (ap (λ n. bit_xor (n / 4) (h / 4)) (upper_six (bit_xor l h) (xor_of_8 l h small_l small_h))
    ∙ (ap (λ n. bit_xor n (h / 4)) (four_back (bit_xor l h / 4) ∙ xor_shr l h 2)
    ∙ (xor_assoc (l / 4) (h / 4) (h / 4)
    ∙ (ap (bit_xor (l / 4)) (xor_self (h / 4)) ∙ xor_zero_r (l / 4)))))

joined_low : (h l : ℕ) → h < 256 → l < 256 → joined h l % 4 ≡ h % 4
joined_low h l small_h small_l =
    xor_mod (bit_and (bit_xor l h) 252) h 2
    ∙ (ap (λ n. bit_xor (n % 4) (h % 4)) (upper_six (bit_xor l h) (xor_of_8 l h small_l small_h))
    ∙ (ap (λ n. bit_xor n (h % 4)) (none_of_four (bit_xor l h / 4)) ∙ xor_zero_l (h % 4)))

joined_small : (h l : ℕ) → h < 256 → l < 256 → joined h l < 256
joined_small h l small_h small_l = let high = joined_high h l small_h small_l in omega arith

turned_twice : (n : ℕ) → n < 256 → turn_right (turn_right n) ≡ n / 4 + 64 * (n % 4)
turned_twice n small =
    equal_below (λ k. turn_right (turn_right k)) (λ k. k / 4 + 64 * (k % 4)) 256 n refl small

quarter_low : (h l : ℕ) → h < 256 → l < 256 → turn_right (turn_right (joined h l)) ≡ l / 4 + 64 * (h % 4)
quarter_low h l small_h small_l =
    turned_twice (joined h l) (joined_small h l small_h small_l)
    ∙ (ap (λ n. n + 64 * (joined h l % 4)) (joined_high h l small_h small_l)
    ∙ ap (λ n. l / 4 + 64 * n) (joined_low h l small_h small_l))

quarter_high : (h : ℕ) → h < 256 → turn_right (turn_right (bit_and h 252)) ≡ h / 4
quarter_high h small =
    equal_below (λ k. turn_right (turn_right (bit_and k 252))) (λ k. k / 4) 256 h refl small

quarter_word : (h l : ℕ) → word (h / 4) (l / 4 + 64 * (h % 4)) ≡ word h l / 4
quarter_word h l = omega arith

pub quarters :
    (h l : ℕ) → h < 256 → l < 256
    → word (turn_right (turn_right (bit_and h 252))) (turn_right (turn_right (joined h l))) ≡ word h l / 4
quarters h l small_h small_l =
    ap (λ n. word n (turn_right (turn_right (joined h l)))) (quarter_high h small_h)
    ∙ (ap (word (h / 4)) (quarter_low h l small_h small_l) ∙ quarter_word h l)

pub quarter_high_small : (h : ℕ) → h < 256 → turn_right (turn_right (bit_and h 252)) < 256
quarter_high_small h small = let is = quarter_high h small in omega arith

pub quarter_low_small : (h l : ℕ) → h < 256 → l < 256 → turn_right (turn_right (joined h l)) < 256
quarter_low_small h l small_h small_l = let is = quarter_low h l small_h small_l in omega arith

-- 24 bits doubled: those of a byte above a word
pub not_doubled : (a h l : ℕ) → a < 256 → h < 256 → l < 256
    → 65536 * a + word h l ≡ ((65536 * a + word h l) * 1) % 16777216
not_doubled a h l small_a small_h small_l = omega arith

pub turned_small : (a : ℕ) (carry : Bool) → a < 256 → a * 2 % 256 + bit carry < 256
turned_small a true h = omega arith
turned_small a false h = omega arith

pub turned : (a x : ℕ) (carry : Bool) → nat_le 65536 (x + x) ≡ carry → a < 256 → x < 65536
    → 65536 * (a * 2 % 256 + bit carry) + (x + x) % 65536 ≡ (65536 * a + x + (65536 * a + x)) % 16777216
turned a x true h small_a small_x = let large : 65536 ≤ x + x = leb-true 65536 (x + x) h in omega arith
turned a x false h small_a small_x = let less : x + x < 65536 = leb-false 65536 (x + x) h in omega arith

pub once_more : (z n : ℕ) → ((z + z) % 16777216 * 2 ^ n) % 16777216 ≡ (z * 2 ^ suc n) % 16777216
once_more z n =
    mul-mod_first (z + z) (2 ^ n) 16777216
    ∙ ap (λ p. p % 16777216) (doubled_product z (2 ^ n) ∙ ap (λ p. z * p) (sym (pow-suc 2 n)))

power_small : (k : ℕ) → k ≤ 8 → 2 ^ k < 257
power_small k h = let more : 2 ^ k ≤ 2 ^ 8 = pow-le-pow_right (omega arith) h in omega arith

below_limit : (x k : ℕ) → x < 65536 → k ≤ 8 → x * 2 ^ k < 16777216
below_limit x k small few =
    let product : x * 2 ^ k ≤ 65535 * 2 ^ k = product_at_most x 65535 (2 ^ k) (omega arith) in
    let power = power_small k few in
    omega arith

not_cut : (x k : ℕ) → x < 65536 → k ≤ 8 → (x * 2 ^ k) % 16777216 ≡ x * 2 ^ k
not_cut x k small few = mod-eq_of_lt (below_limit x k small few)

-- bits doubled so often that 8 are missing by a count, without the lowest byte, are those moved to the right
-- by it
to_the_right : (x n k : ℕ) → n + k ≡ 8 → x * 2 ^ k / 256 ≡ x / 2 ^ n
to_the_right x n k h =
    ap (λ m. x * 2 ^ k / m) (ap (λ m. 2 ^ m) (sym h) ∙ pow-add 2 n k)
    ∙ mul-div-mul_right x (2 ^ n) (pow_pos k)

value_is :
    (a h l z : ℕ) → h < 256 → l < 256 → 65536 * a + word h l ≡ z → word a h ≡ z / 256
value_is a h l z small_h small_l e = omega arith

most_eight : (n k : ℕ) → n + k ≡ 8 → k ≤ 8
most_eight n k h = omega arith

-- so the higher 16 of them are the value, where there was none in A
pub shifted_is :
    (a h l before x n k : ℕ)
    → h < 256
    → l < 256
    → before ≡ x
    → x < 65536
    → 65536 * a + word h l ≡ (before * 2 ^ k) % 16777216
    → n + k ≡ 8
    → word a h ≡ x / 2 ^ n
shifted_is a h l before x n k small_h small_l same small bits sum =
    value_is a h l (x * 2 ^ k) small_h small_l
    (bits ∙ (ap (λ z. (z * 2 ^ k) % 16777216) same ∙ not_cut x k small (most_eight n k sum)))
    ∙ to_the_right x n k sum

-- the high byte alone
pub high_alone : (h l : ℕ) → l < 256 → word 0 h ≡ word h l / 256
high_alone h l small = omega arith

-- by 8 first, and then by what is left
pub by_eight : (x e k : ℕ) → e ≡ 8 + k → x / 256 / 2 ^ k ≡ x / 2 ^ e
by_eight x e k h =
    div-div-eq-div-mul x 256 (2 ^ k)
    ∙ ap (λ m. x / m) (sym (ap (λ m. 2 ^ m) h ∙ pow-add 2 8 k))

below_power : (x e : ℕ) → 16 ≤ e → x < 65536 → x < 2 ^ e
below_power x e h small = let more : 2 ^ 16 ≤ 2 ^ e = pow-le-pow_right (omega arith) h in omega arith

pub none_left : (x e : ℕ) → 16 ≤ e → x < 65536 → x / 2 ^ e ≡ 0
none_left x e h small = div-eq_of_lt (below_power x e h small)
