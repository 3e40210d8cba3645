-- Items of lists by their places.
use Rattle.image_laws.proofs.Prelude.{◌≡◌, ℕ, zero, suc, ◌<◌, List, [], ◌∷◌, length, replicate, Option, Some, None, refl, ap, sym, arith, slice_get, unwrap_or, none-some}

-- nothing stands among so many of nothing but nothing
pub none_of :
    {A : Type 0} (count number : ℕ) (item : Option A)
    → slice_get (replicate count None) number ≡ Some item
    → item ≡ None
none_of zero number item found = absurd (none-some item found)
none_of (suc count) zero item found = sym (ap (λ (found : Option (Option _)). unwrap_or found None) found)
none_of (suc count) (suc number) item found = none_of count number item found

-- an item within a list
pub some_within :
    {A B : Type 0} (items : List A) (number : ℕ) → number < length items
    → ((item : A) → slice_get items number ≡ Some item → B) → B
some_within [] number below then_is = absurd (omega (arith, below))
some_within (first ∷ items) zero below then_is = then_is first refl
some_within (first ∷ items) (suc number) below then_is =
    some_within items number (omega (arith, below)) then_is
