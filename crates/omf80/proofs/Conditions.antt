-- Lists of conditions, bytes, and words of two bytes.
use Rattle.omf80.proofs.Prelude.{◌≡◌, ℕ, ◌+◌, ◌*◌, ◌/◌, ◌%◌, ◌<◌, Bool, true, false, cond, List, [], ◌∷◌, find, Some, None, refl, ap, subst, ◌∙◌, arith, none-some, same_Some, word_bytes, first_that_holds}
pub use Rattle.mem80.proofs.ByteLists.{IsBytes}

-- what is found passes the test
pub find_passes : {A : Type 0} (p : A → Bool) (xs : List A) (y : A) → find p xs ≡ Some y → p y ≡ true
find_passes p [] y h = absurd (none-some y h)
find_passes {A} p (x ∷ xs) y h = go (p x) refl (find_passes p xs y) h
  where
    go : (b : Bool) → p x ≡ b → (find p xs ≡ Some y → p y ≡ true) → cond b (Some x) (find p xs) ≡ Some y
        → p y ≡ true
    go true e others is = subst (λ z. p z ≡ true) (same_Some x y is) e
    go false e others is = others is

-- where no condition holds, the first one doesn't, and none of the others
pub none_holds :
    {F : Type 0} (holds : Bool) (fault : F) (others : List (Bool × F))
    → first_that_holds ((holds, fault) ∷ others) ≡ None → (holds ≡ false) × (first_that_holds others ≡ None)
none_holds true fault others h = absurd (let bad : Some fault ≡ None = h in cc)
none_holds false fault others h = (refl, h)

-- the bytes of a word
pub word_is : (low high : ℕ) → low < 256 → high < 256 → word_bytes (low + 256 * high) ≡ low ∷ high ∷ []
word_is low high l h =
    let a : (low + 256 * high) % 256 ≡ low = omega arith in
    let b : (low + 256 * high) / 256 ≡ high = omega arith in
    ap (λ x. x ∷ (low + 256 * high) / 256 ∷ []) a ∙ ap (λ x. low ∷ x ∷ []) b
