-- Sums of bytes, modulo 256.
use Rattle.hex80.proofs.Prelude.{◌≡◌, ℕ, ◌+◌, ◌%◌, ◌<◌, List, length, get_or, take, sum, arith, sum_by_more}

pub sum_more :
    (bytes : List ℕ) (i total : ℕ) → i < length bytes → total ≡ sum (take i bytes) % 256
    → (total + get_or bytes i 0) % 256 ≡ sum (take (i + 1) bytes) % 256
sum_more bytes i total within is =
    let more : sum (take (i + 1) bytes) ≡ sum (take i bytes) + get_or bytes i 0 =
    sum_by_more (λ x. x) bytes i 0 within in
    omega arith
