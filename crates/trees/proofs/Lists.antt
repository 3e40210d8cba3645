-- Items of lists.
use Rattle.std.specs.Prelude.{All, IsSomeAnd, slice_get}
use Rattle.std.proofs.Common.{Any, List, None, Option, Some, [], add-one, ap, arith, drop, get_or, length, refl, subst, suc, sym, zero, ℕ, ◌++◌, ◌+◌, ◌<◌, ◌∙◌, ◌∷◌, ◌≡◌}
use Rattle.std.proofs.Math.Seq.{drop-cons}
use Rattle.std.proofs.lemmas.List.{drop_more}
use Rattle.std.proofs.lemmas.Option.{get_or_from_slice_get, none-some, slice_get_within}

-- what is left of a list from an item on
pub drop_found : {A : Type 0} (list : List A) (index : ℕ) (found : A) → slice_get list index ≡ Some found
    → drop index list ≡ found ∷ drop (index + 1) list
drop_found list index found is =
    drop_more list index found (slice_get_within list index found is)
    ∙ ap (λ at. at ∷ drop (index + 1) list) (get_or_from_slice_get list index found found is)

pub got_first :
    {A : Type 0} (before : List A) (first : A) (after : List A)
    → slice_get (before ++ (first ∷ after)) (length before) ≡ Some first
got_first [] first after = refl
got_first (other ∷ before) first after = got_first before first after

-- a property of all items holds for one
pub holds_for_item :
    {A : Type 0} (P : A → Type 0) (list : List A) (index : ℕ) (one : A)
    → All P list → slice_get list index ≡ Some one → P one
holds_for_item P [] index one all there = let bad : ⊥ = cc in absurd bad
holds_for_item P (first ∷ others) zero one all there =
    let same : first ≡ one = cc in
    subst P same (all 0 first (omega arith))
holds_for_item P (first ∷ others) (suc index) one all there =
    holds_for_item P others index one (λ i d below. all (suc i) d (omega (arith, below))) there

pub drop_item : {A B : Type 0} (view : List A → B) (items : List A) (i : ℕ) (item : A) → i < length items
    → item ≡ get_or items i item → view (drop i items) ≡ view (item ∷ drop (i + 1) items)
drop_item view items i item within is =
    ap view (drop-cons items i item within)
    ∙ ap (λ first. view (first ∷ drop (suc i) items)) (sym is)
    ∙ ap (λ n. view (item ∷ drop n items)) (sym (add-one i))

pub drop_past : {A : Type 0} (items : List A) (number : ℕ) → slice_get items number ≡ None
    → drop number items ≡ []
drop_past [] zero none = refl
drop_past [] (suc number) none = refl
drop_past (item ∷ others) zero none = absurd (none-some item (sym none))
drop_past (item ∷ others) (suc number) none = drop_past others number none

pub any_later : {A : Type 0} {P : A → Type 0} (first : A) (others : List A) → Any P others
    → Any P (first ∷ others)
any_later first others any = (suc any.0, any.1, omega arith, any.3, any.4)

-- what holds of the value that there is
pub some_and : {X : Type 0} (P : X → Type 0) (option : Option X) (x : X) → option ≡ Some x → P x
    → IsSomeAnd option P
some_and P option x is holds = subst (λ found. IsSomeAnd found P) (sym is) holds
