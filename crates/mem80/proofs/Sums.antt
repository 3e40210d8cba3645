-- Bytes with their checksum.
use Rattle.std.proofs.Common.{◌≡◌, ℕ, ◌+◌, ◌%◌, ◌<◌, List, [], ◌∷◌, ◌++◌, sum, refl, arith}
use Rattle.std.specs.List.{fold}
use Rattle.mem80.specs.Sums.{checksum_of}

pub fold_append :
    (xs ys : List ℕ) (a : ℕ)
    → fold (λ (b x : ℕ). b + x) a (xs ++ ys) ≡ fold (λ (b x : ℕ). b + x) (fold (λ (b x : ℕ). b + x) a xs) ys
fold_append [] ys a = refl
fold_append (x ∷ xs) ys a = fold_append xs ys (a + x)

pub sum_with_last : (front : List ℕ) (last : ℕ) → sum (front ++ last ∷ []) ≡ sum front + last
sum_with_last front last = fold_append front (last ∷ []) 0

-- the last of bytes that add up is their checksum
pub checksum_is : (front : List ℕ) (last : ℕ) → last < 256 → sum (front ++ last ∷ []) % 256 ≡ 0
    → last ≡ checksum_of front
checksum_is front last byte h =
    let whole : sum (front ++ last ∷ []) ≡ sum front + last = sum_with_last front last in
    omega arith

pub adds_up : (front : List ℕ) → sum (front ++ checksum_of front ∷ []) % 256 ≡ 0
adds_up front =
    let last : ℕ = checksum_of front in
    let whole : sum (front ++ last ∷ []) ≡ sum front + last = sum_with_last front last in
    omega arith

pub checksum_below : (front : List ℕ) → checksum_of front < 256
checksum_below front = omega arith
