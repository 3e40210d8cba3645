-- Words by their bytes: sums, differences, bits, halves.
use Rattle.task_laws.proofs.Prelude.{◌≡◌, ℕ, ◌+◌, ◌-◌, ◌/◌, ◌%◌, ◌<◌, Bool, true, false, not, nat_lt, bit_and, bit_or, bit_xor, refl, sym, arith, ltb-true, ltb-false, and_mod, and_shr, or_mod, or_shr, xor_mod, xor_shr, bit, high_byte, low_byte, word, wrap}

-- a word in HL, by its bytes
pub has_word : (n h l : ℕ) → h < 256 → l < 256 → word h l ≡ n → (h ≡ n / 256) × (l ≡ n % 256)
has_word n h l one two same = (omega (arith, one, two, same), omega (arith, one, two, same))

pub word_below : (n h l : ℕ) → h ≡ n / 256 → h < 256 → n < 65536
word_below n h l same small = omega (arith, same, small)

-- the difference of two words by a borrow
pub high_of_difference : (x y : ℕ) (borrow : Bool)
    → nat_lt (x % 256 + (255 - y % 256) + 1) 256 ≡ borrow
    → x < 65536 → y < 65536
    → (x / 256 + (255 - y / 256) + bit (not borrow)) % 256 ≡ ((x + (65536 - y)) % 65536) / 256
high_of_difference x y true is one two =
    let less = ltb-true (x % 256 + (255 - y % 256) + 1) 256 is in omega (arith, less, one, two)
high_of_difference x y false is one two =
    let more = ltb-false (x % 256 + (255 - y % 256) + 1) 256 is in omega (arith, more, one, two)

pub low_difference : (x y : ℕ) → y < 65536
    → (x % 256 + (255 - y % 256) + 1) % 256 ≡ ((x + (65536 - y)) % 65536) % 256
low_difference x y small = omega (arith, small)

pub high_difference : (x y : ℕ) → x < 65536 → y < 65536
    → (x / 256 + (255 - y / 256) + bit (not (nat_lt (x % 256 + (255 - y % 256) + 1) 256))) % 256
    ≡ ((x + (65536 - y)) % 65536) / 256
high_difference x y one two = high_of_difference x y (nat_lt (x % 256 + (255 - y % 256) + 1) 256) refl one two

-- bits of words are those of their bytes
pub and_low : (x y : ℕ) → bit_and (x % 256) (y % 256) ≡ bit_and x y % 256
and_low x y = sym (and_mod x y 8)

pub and_high : (x y : ℕ) → bit_and (x / 256) (y / 256) ≡ bit_and x y / 256
and_high x y = sym (and_shr x y 8)

pub or_low : (x y : ℕ) → bit_or (x % 256) (y % 256) ≡ bit_or x y % 256
or_low x y = sym (or_mod x y 8)

pub or_high : (x y : ℕ) → bit_or (x / 256) (y / 256) ≡ bit_or x y / 256
or_high x y = sym (or_shr x y 8)

pub xor_low : (x y : ℕ) → bit_xor (x % 256) (y % 256) ≡ bit_xor x y % 256
xor_low x y = sym (xor_mod x y 8)

pub xor_high : (x y : ℕ) → bit_xor (x / 256) (y / 256) ≡ bit_xor x y / 256
xor_high x y = sym (xor_shr x y 8)

-- sums
pub sum_high : (h l d e x y : ℕ) → h ≡ x / 256 → l ≡ x % 256 → d ≡ y / 256 → e ≡ y % 256
    → high_byte (wrap (word h l + word d e)) ≡ ((x + y) % 65536) / 256
sum_high h l d e x y one two three four = omega (arith, one, two, three, four)

pub sum_low : (h l d e x y : ℕ) → h ≡ x / 256 → l ≡ x % 256 → d ≡ y / 256 → e ≡ y % 256
    → low_byte (wrap (word h l + word d e)) ≡ ((x + y) % 65536) % 256
sum_low h l d e x y one two three four = omega (arith, one, two, three, four)
