-- The words of parameters on the stack: their places, which do not overlap.
use Rattle.frames.proofs.Prelude.{◌≡◌, ◌⊎◌, inl, inr, ℕ, zero, suc, ◌+◌, ◌*◌, ◌<◌, ◌≤◌, refl, arith, ScalarType, Byte, Address, size_of_scalar, return_distance, word_distance, parameter_distance, capped_parameter}

-- two words that share a byte are the same word
pub words_apart :
    (bytes left right place : ℕ)
    → word_distance bytes left ≤ place
    → place < word_distance bytes left + 2
    → word_distance bytes right ≤ place
    → place < word_distance bytes right + 2
    → left ≡ right
words_apart bytes zero zero place from_left in_left from_right in_right = refl
words_apart bytes zero (suc right) place from_left in_left from_right in_right = omega arith
words_apart bytes (suc left) zero place from_left in_left from_right in_right = omega arith
words_apart bytes (suc left) (suc right) place from_left in_left from_right in_right = omega arith

-- words are after the variables, and end within the bytes of the call
pub word_after : (bytes followers : ℕ) → bytes ≤ word_distance bytes followers
word_after bytes zero = omega arith
word_after bytes (suc others) = omega arith

pub word_within :
    (bytes parameters followers : ℕ)
    → followers < parameters
    → word_distance bytes followers + 2 ≤ 2 + 2 * parameters + bytes
word_within bytes parameters zero below = omega arith
word_within bytes parameters (suc others) below = omega arith

-- no byte of a word is one of the return address
pub word_off_return :
    (bytes parameters followers place : ℕ)
    → followers < parameters
    → word_distance bytes followers ≤ place
    → place < word_distance bytes followers + 2
    → (place < return_distance bytes parameters) ⊎ (return_distance bytes parameters + 2 ≤ place)
word_off_return bytes zero followers place below starts ends = absurd (omega arith)
word_off_return bytes (suc others) zero place below starts ends = inl (omega arith)
word_off_return bytes (suc others) (suc followers) place below starts ends = inr (omega arith)

-- the return address is after the variables, and within the bytes of the call
pub return_after : (bytes parameters : ℕ) → bytes ≤ return_distance bytes parameters
return_after bytes zero = omega arith
return_after bytes (suc others) = omega arith

pub return_within : (bytes parameters : ℕ) → return_distance bytes parameters + 2 ≤ 2 + 2 * parameters + bytes
return_within bytes zero = omega arith
return_within bytes (suc others) = omega arith

-- a parameter is in its word
pub in_word :
    (bytes followers : ℕ) (scalar : ScalarType) (offset : ℕ)
    → offset < size_of_scalar scalar
    → parameter_distance bytes followers (size_of_scalar scalar) + offset < word_distance bytes followers + 2
in_word bytes followers Byte offset within = omega arith
in_word bytes followers Address offset within = omega arith

-- no sum exceeds 16 bits, if the bytes of the call are less than all of memory
pub parameter_is :
    (bytes parameters followers : ℕ) (scalar : ScalarType)
    → followers < parameters
    → 2 + 2 * parameters + bytes < 65536
    → capped_parameter bytes followers (size_of_scalar scalar)
    ≡ parameter_distance bytes followers (size_of_scalar scalar)
parameter_is bytes parameters zero Byte below fits = omega arith
parameter_is bytes parameters zero Address below fits = omega arith
parameter_is bytes parameters (suc others) Byte below fits = omega arith
parameter_is bytes parameters (suc others) Address below fits = omega arith
