-- Products with powers of 2, as shifts make them.
use Rattle.meaning.proofs.Prelude.{◌≡◌, ℕ, ◌+◌, ◌-◌, ◌*◌, ◌/◌, ◌%◌, ◌^◌, ◌<◌, ◌≤◌, refl, sym, ap, ◌∙◌, arith, mul_assoc, pow-add, pow_pos, shl_whole, div_below, ScalarType, Byte, Address, values_of}

-- a power of 2 from 65536 on is a multiple of 65536
far_power : (k more : ℕ) → k ≡ more + 16 → 2 ^ k ≡ 2 ^ more * 65536
far_power k more e = ap (λ n. 2 ^ n) e ∙ pow-add 2 more 16

multiple : (product part whole : ℕ) → whole ≡ part * 65536 → (product * whole) % 65536 ≡ 0
multiple product part whole e =
    rw e (of_product (product * part) (product * (part * 65536)) (regrouped product part))
  where
    regrouped : (a b : ℕ) → a * (b * 65536) ≡ (a * b) * 65536
    regrouped a b = sym (mul_assoc a b 65536)

    of_product : (n m : ℕ) → m ≡ n * 65536 → m % 65536 ≡ 0
    of_product n m e = omega arith

pub left_far_number : (a k : ℕ) → 16 ≤ k → (a * 2 ^ k) % 65536 ≡ 0
left_far_number a k far =
    let e : k ≡ (k - 16) + 16 = omega arith in multiple a (2 ^ (k - 16)) (2 ^ k) (far_power k (k - 16) e)

pub left_far : (scalar : ScalarType) (a k : ℕ) → 16 ≤ k → 0 ≡ (a * 2 ^ k) % values_of scalar
left_far Byte a k far = let e = left_far_number a k far in omega arith
left_far Address a k far = sym (left_far_number a k far)

pub left_near : (a k : ℕ) → a < 65536 → k < 16 → (a * 2 ^ k) % 4294967296 ≡ a * 2 ^ k
left_near a k small near = let fits : 16 + k ≤ 32 = omega arith in shl_whole a 16 k 32 small fits

pub turned_near : (a k : ℕ) → a < 256 → k < 8 → (a * 2 ^ k) % 65536 ≡ a * 2 ^ k
turned_near a k small near = let fits : 8 + k ≤ 16 = omega arith in shl_whole a 8 k 16 small fits

pub right_far : (a k : ℕ) → a < 65536 → 16 ≤ k → 0 ≡ a / 2 ^ k
right_far a k small far =
    let parts : k ≡ (k - 16) + 16 = omega arith in
    let e : 2 ^ k ≡ 2 ^ (k - 16) * 65536 = far_power k (k - 16) parts in
    let least : 0 < 2 ^ (k - 16) = pow_pos (k - 16) in
    let least_k : 0 < 2 ^ k = pow_pos k in
    let wide : a < 1 * 2 ^ k = omega arith in
    let less : a / 2 ^ k < 1 = div_below a (2 ^ k) 1 least_k wide in
    omega arith
