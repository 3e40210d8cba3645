-- The labels of a list, one by one.
use Rattle.treecode.proofs.Prelude.{◌≡◌, ℕ, suc, ◌+◌, ◌-◌, ◌<◌, ◌≤◌, ap, ◌∙◌, arith, Walk, numbered, with_label}
use Rattle.treecode.proofs.SameTraits.{same_of_both}

pub labels_begin : (walk : Walk) (first count : ℕ)
    → numbered walk (first + 0) (count - 0) ≡ numbered walk first count
labels_begin walk first count =
    let from : first + 0 ≡ first = omega arith in
    let left : count - 0 ≡ count = omega arith in
    same_of_both (numbered walk) from left

pub label_more : (walk now total : Walk) (first index count label : ℕ) → index < count → label ≡ first + index
    → now ≡ with_label walk label
    → numbered walk (first + index) (count - index) ≡ total
    → numbered now (first + (index + 1)) (count - (index + 1)) ≡ total
label_more walk now total first index count label within is made rest =
    let from : first + (index + 1) ≡ suc (first + index) = omega arith in
    let left : suc (count - (index + 1)) ≡ count - index = omega arith in
    ap (λ (one : Walk). numbered one (first + (index + 1)) (count - (index + 1))) made
    ∙ ap (λ (one : ℕ). numbered (with_label walk one) (first + (index + 1)) (count - (index + 1))) is
    ∙ ap (λ (one : ℕ). numbered (with_label walk (first + index)) one (count - (index + 1))) from
    ∙ ap (λ (one : ℕ). numbered walk (first + index) one) left
    ∙ rest

pub labels_end : (walk : Walk) (first index count : ℕ) → count ≤ index
    → numbered walk (first + index) (count - index) ≡ walk
labels_end walk first index count past =
    let none : count - index ≡ 0 = omega arith in
    ap (λ (left : ℕ). numbered walk (first + index) left) none
