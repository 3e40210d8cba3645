-- Words of two bytes, and addresses that wrap.
use Rattle.isa8080.proofs.Prelude.{MEMORY_SIZE, arith, ℕ, ◌%◌, ◌*◌, ◌+◌, ◌/◌, ◌<◌, ◌≡◌}
use Rattle.isa8080.specs.State.{high_byte, low_byte, word, wrap}

pub low_byte_small : (word : ℕ) → low_byte word < 256
low_byte_small word = omega arith

pub wrap_of_place : (place : ℕ) → place < MEMORY_SIZE → wrap place ≡ place
wrap_of_place place h = omega arith

pub equals_wrapped : (place : ℕ) → place < MEMORY_SIZE → place ≡ wrap place
equals_wrapped place h = omega arith

pub word_of_two : (low high w : ℕ) → low ≡ low_byte w → high ≡ high_byte w → low + 256 * high ≡ w
word_of_two low high w l h = omega arith

-- a word from its halves
pub word_of_halves : (number : ℕ) → word (number / 256) (number % 256) ≡ number
word_of_halves number = omega arith

pub word_in_memory : (high low : ℕ) → high < 256 → low < 256 → word high low < MEMORY_SIZE
word_in_memory high low one two = omega (arith, one, two)

pub wrapped_next : (top : ℕ) → wrap (wrap top + 1) ≡ wrap (top + 1)
wrapped_next top = omega arith

pub high_of_wrapped : (n : ℕ) → wrap n / 256 < 256
high_of_wrapped n = omega arith

pub wrapped_small : (n : ℕ) → wrap n < MEMORY_SIZE
wrapped_small n = omega arith

pub wrapped_once : (place : ℕ) → wrap place ≡ wrap (wrap place)
wrapped_once place = omega arith
