-- Numbers, bytes and pairs of bytes.
use Rattle.statement_laws.proofs.Prelude.{Byte, ScalarType, arith, subst, values_of, ℕ, ◌%◌, ◌*◌, ◌+◌, ◌/◌, ◌<◌, ◌≡◌}

pub byte_is_small : (scalar : ScalarType) (n : ℕ) → scalar ≡ Byte → n < values_of scalar → n < 256
byte_is_small scalar n same small = subst (λ (s : ScalarType). n < values_of s) same small

pub sums_alike : (m one other : ℕ) → one % 65536 ≡ other % 65536 → (m + one) % 65536 ≡ (m + other) % 65536
sums_alike m one other same = omega (arith, same)

pub low_of_low : (n : ℕ) → n % 256 % 256 ≡ n % 256
low_of_low n = omega arith

pub whole_of_halves : (h l n : ℕ) → h ≡ n / 256 → l ≡ n % 256 → 256 * h + l ≡ n
whole_of_halves h l n one two = omega (arith, one, two)
