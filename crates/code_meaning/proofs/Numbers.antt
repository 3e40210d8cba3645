-- Numbers, bytes and pairs of bytes.
use Rattle.code_meaning.proofs.Prelude.{MEMORY_SIZE, ScalarType, ap, arith, as_type, high_byte, low_byte, suc, values_of, word, wrap, ℕ, ◌%◌, ◌*◌, ◌+◌, ◌/◌, ◌<◌, ◌∙◌, ◌≡◌, ◌≢◌}
use Rattle.trees.specs.declared.declaration.ScalarType.TheVariants as scalars

pub low_of_sum : (low high : ℕ) → low < 256 → low_byte (low + 256 * high) ≡ low
low_of_sum low high small = omega (arith, small)

pub high_of_sum : (low high : ℕ) → low < 256 → high_byte (low + 256 * high) ≡ high
high_of_sum low high small = omega (arith, small)

pub word_low_byte : (high low : ℕ) → low < 256 → low_byte (word high low) ≡ low
word_low_byte high low small = omega (arith, small)

pub word_high_byte : (high low : ℕ) → low < 256 → high_byte (word high low) ≡ high
word_high_byte high low small = omega (arith, small)

pub differs_from_next : (address : ℕ) → address < MEMORY_SIZE → address ≢ wrap (address + 1)
differs_from_next address inside = omega (arith, inside)

pub byte_as_low : (a value : ℕ) → a ≡ value → a < 256 → a ≡ value % 256
byte_as_low a value same small = omega (arith, same, small)

pub suc_moved : (first number : ℕ) → suc first + number ≡ first + suc number
suc_moved first number = omega arith

pub two_bytes_fit : (low high : ℕ) → low < 256 → high < 256 → low + 256 * high < 65536
two_bytes_fit low high one two = omega (arith, one, two)

pub value_is_word : (scalar : ScalarType) (n : ℕ) → n < values_of scalar → n < 65536
value_is_word scalars.Byte n small = omega (arith, small)
value_is_word scalars.Address n small = small

-- the address after one
pub next_word : (h l address : ℕ) → word h l ≡ address
    → word (high_byte (wrap (word h l + 1))) (low_byte (wrap (word h l + 1)))
    ≡ wrap (address + 1)
next_word h l address is =
    ap (λ (n : ℕ). word (high_byte (wrap (n + 1))) (low_byte (wrap (n + 1)))) is
    ∙ in_halves (wrap (address + 1)) (omega arith)
  where
    in_halves : (n : ℕ) → n < 65536 → word (n / 256) (n % 256) ≡ n
    in_halves n small = omega (arith, small)

pub next_is_other : (address : ℕ) → address < MEMORY_SIZE → wrap (address + 1) ≢ address
next_is_other address small same = omega (arith, small, same)

pub high_is_byte : (n : ℕ) → n < 65536 → n / 256 < 256
high_is_byte n small = omega (arith, small)

pub low_of_halves : (h l number : ℕ) → h ≡ number / 256 → l ≡ number % 256
    → number % 256 ≡ low_byte (word h l)
low_of_halves h l number one two = omega (arith, one, two)

pub high_of_halves : (h l number : ℕ) → h ≡ number / 256 → l ≡ number % 256
    → number / 256 ≡ high_byte (word h l)
high_of_halves h l number one two = omega (arith, one, two)

pub halves_joined : (n : ℕ) → 256 * (n / 256) + n % 256 ≡ n
halves_joined n = omega arith

pub as_type_fits : (scalar : ScalarType) (v : ℕ) → as_type scalar v < values_of scalar
as_type_fits scalars.Byte v = omega arith
as_type_fits scalars.Address v = omega arith

pub low_of_byte : (v : ℕ) → v < 256 → v % 256 ≡ v
low_of_byte v small = omega (arith, small)

pub high_of_two : (low high : ℕ) → low < 256 → high ≡ (low + 256 * high) / 256
high_of_two low high small = omega (arith, small)

pub low_of_two : (low high : ℕ) → low < 256 → low ≡ (low + 256 * high) % 256
low_of_two low high small = omega (arith, small)

pub word_from_halves : (n h l : ℕ) → h ≡ n / 256 → l ≡ n % 256 → word h l ≡ n
word_from_halves n h l one two = omega (arith, one, two)
