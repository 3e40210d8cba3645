-- Numbers, bytes and pairs of bytes.
use Rattle.task_laws.proofs.Prelude.{Address, MEMORY_SIZE, ScalarType, arith, one_less, subst, two_less, values_of, wrap, ℕ, ◌%◌, ◌*◌, ◌+◌, ◌/◌, ◌<◌, ◌≡◌}

pub twice_none : (n : ℕ) → n ≡ 0 → 2 * n ≡ 0
twice_none n e = omega (arith, e)

pub one_alone : (n : ℕ) → n ≡ 0 → 2 * n + 1 ≡ 1
one_alone n e = omega (arith, e)

pub equals_byte : (a v : ℕ) → a ≡ v % 256 → v < 256 → a ≡ v
equals_byte a v same small = omega (arith, same, small)

pub one_between : (one offset two : ℕ) → one + (offset + 1) + two ≡ one + offset + two + 1
one_between one offset two = omega arith

pub wrapped_step : (start offset : ℕ) → wrap (start + (offset + 1)) ≡ wrap (wrap (start + offset) + 1)
wrapped_step start offset = omega arith

pub no_high_byte : (n : ℕ) → n < 256 → 0 ≡ n / 256
no_high_byte n small = omega (arith, small)

pub up_and_down : (p : ℕ) → p < MEMORY_SIZE → two_less (wrap (p + 2)) ≡ p
up_and_down p small = omega (arith, small)

pub up_and_one_down : (p : ℕ) → p < MEMORY_SIZE → one_less (wrap (p + 2)) ≡ wrap (p + 1)
up_and_one_down p small = omega (arith, small)

pub byte_is_word : (n : ℕ) → n < 256 → n < 65536
byte_is_word n small = omega (arith, small)

pub high_of_shifted : (a x : ℕ) → a ≡ x % 256 → a ≡ (256 * (x % 256)) / 256
high_of_shifted a x same = omega (arith, same)

pub low_of_shifted : (x : ℕ) → 0 ≡ (256 * (x % 256)) % 256
low_of_shifted x = omega arith

pub half_is_byte : (h x : ℕ) → h ≡ x / 256 → x < 65536 → h < 256
half_is_byte h x same small = omega (arith, same, small)

pub high_of_joined : (h l n : ℕ) → h ≡ n / 256 → l ≡ n % 256 → (256 * h + l) / 256 ≡ n / 256
high_of_joined h l n one two = omega (arith, one, two)

pub low_of_joined : (h l n : ℕ) → h ≡ n / 256 → l ≡ n % 256 → (256 * h + l) % 256 ≡ n % 256
low_of_joined h l n one two = omega (arith, one, two)

pub address_is_word : (n : ℕ) (scalar : ScalarType) → scalar ≡ Address → n < values_of scalar → n < 65536
address_is_word n scalar same small = subst (λ (of : ScalarType). n < values_of of) same small

pub product_is_word : (x y : ℕ) → (x * y) % 65536 < 65536
product_is_word x y = omega arith
