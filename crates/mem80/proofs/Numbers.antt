-- Numbers, bytes and pairs of bytes.
use Rattle.mem80.specs.declared.memory.TheConstants.{MEMORY_SIZE}
use Rattle.std.proofs.Common.{arith, suc, ℕ, ◌%◌, ◌*◌, ◌+◌, ◌/◌, ◌<◌, ◌≡◌, ◌≤◌}

pub first_below : (a b c : ℕ) → a + b ≤ c → a ≤ c
first_below a b c h = omega arith

pub one_moved : (first number : ℕ) → first + 1 + number ≡ first + suc number
one_moved first number = omega arith

pub remainder_in_memory : (address : ℕ) → address % MEMORY_SIZE < MEMORY_SIZE
remainder_in_memory address = omega arith

pub word_of_high : (number : ℕ) → number / 256 < 256 → number < 65536
word_of_high number h = omega arith

pub at_most_more : (low in_data bytes : ℕ) → low ≤ in_data → low ≤ in_data + bytes
at_most_more low in_data bytes above = omega arith

pub high_of_pair : (count byte : ℕ) → byte < 256 → (256 * count + byte) / 256 ≡ count
high_of_pair count byte h = omega arith

pub byte_is_low : (a : ℕ) → a < 256 → a ≡ a % 256
byte_is_low a h = omega arith

pub low_is_byte : (n m : ℕ) → n ≡ m % 256 → n < 256
low_is_byte n m h = omega arith

pub sum_turned : (x y : ℕ) → (y + x) % 65536 ≡ (x + y) % 65536
sum_turned x y = omega arith
