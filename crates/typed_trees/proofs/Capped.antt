-- Numbers that stop at the greatest of 32 bits.
use Rattle.typed_trees.proofs.Prelude.{◌≡◌, ℕ, suc, zero, ◌+◌, ◌*◌, ◌≤◌, min, ap, arith, dec_le, mul-le}

pub capped_sum : (all one : ℕ) → min (min all 4294967295 + one) 4294967295 ≡ min (all + one) 4294967295
capped_sum all one = omega arith

pub capped_product : (count size : ℕ)
    → min (count * min size 4294967295) 4294967295 ≡ min (count * size) 4294967295
capped_product zero size = omega arith
capped_product (suc count) size =
    elim (dec_le size 4294967295) [
      | yes small ↦ ap (λ one. min (suc count * one) 4294967295)
          (let e : min size 4294967295 ≡ size = omega (arith, small) in e)
      | no large ↦
          let one : 1 * min size 4294967295 ≤ suc count * min size 4294967295 =
          mul-le 1 (min size 4294967295) (suc count) (min size 4294967295) (omega arith) (omega arith) in
          let other : 1 * size ≤ suc count * size =
          mul-le 1 size (suc count) size (omega arith) (omega arith) in
          omega (arith, large, one, other)
    ]
