-- Numbers, bytes and pairs of bytes.
use Rattle.runtime8080.proofs.Prelude.{arith, bit_or, eqb-true, or_self, sym, true, ℕ, ◌%◌, ◌*◌, ◌+◌, ◌<◌, ◌==◌, ◌∙◌, ◌≡◌, ◌≤◌}

pub small_by : (n m : ℕ) → n ≡ m → m < 256 → n < 256
small_by n m h small = omega arith

pub one_less_small : (n : ℕ) → (n + 254 + 1) % 256 < 256
one_less_small n = omega arith

pub or_small : (d : ℕ) → d < 256 → bit_or d d < 256
or_small d h = small_by (bit_or d d) d (or_self d) h

pub none_of_or : (d : ℕ) → (bit_or d d == 0) ≡ true → d ≡ 0
none_of_or d h = sym (or_self d) ∙ eqb-true (bit_or d d) 0 h

pub without_carry : (a : ℕ) → (a + a + 0) % 256 ≡ (a + a) % 256
without_carry a = omega arith

pub product_at_most : (a b p : ℕ) → a ≤ b → a * p ≤ b * p
product_at_most a b p h = grind arith
