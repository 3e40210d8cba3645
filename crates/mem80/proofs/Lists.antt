-- Items of lists.
use Rattle.std.specs.List.{AllByRecursion, enumerate_from}
use Rattle.std.proofs.Common.{List, Option, Some, [], ap, arith, length, map, refl, slice_get, suc, suc-add, take, unwrap_or, zero, zero-add, ℕ, ◌++◌, ◌+◌, ◌<◌, ◌∙◌, ◌∷◌, ◌≡◌, ◌≤◌}
use Rattle.std.proofs.lemmas.Option.{none-some}
use Rattle.std.specs.Prelude.{zip}

pub take_whole : {A : Type 0} (items : List A) (i : ℕ) → length items ≤ i → take i items ≡ items
take_whole [] zero h = refl
take_whole [] (suc i) h = refl
take_whole (first ∷ others) zero h = elim h [ ]
take_whole (first ∷ others) (suc i) h = ap (λ rest. first ∷ rest) (take_whole others i (omega (arith, h)))

-- what stands before others keeps its place
pub got_in_front :
    {A : Type 0} (before after : List A) (number : ℕ) (item : A)
    → slice_get before number ≡ Some item
    → slice_get (before ++ after) number ≡ Some item
got_in_front [] after number item found = absurd (none-some item found)
got_in_front (first ∷ before) after zero item found = found
got_in_front (first ∷ before) after (suc number) item found = got_in_front before after number item found

-- and what stands after others has a place that is as many greater
pub got_behind :
    {A : Type 0} (before after : List A) (number : ℕ)
    → slice_get (before ++ after) (length before + number) ≡ slice_get after number
got_behind [] after number = ap (slice_get after) (zero-add number)
got_behind (first ∷ before) after number =
    ap (slice_get (first ∷ (before ++ after))) (suc-add (length before) number)
    ∙ got_behind before after number

-- two lists at one place
pub got_both :
    {A B : Type 0} (left : List A) (right : List B) (number : ℕ) (first : A) (second : B)
    → slice_get left number ≡ Some first
    → slice_get right number ≡ Some second
    → slice_get (zip left right) number ≡ Some (first, second)
got_both [] right number first second is_left is_right = absurd (none-some first is_left)
got_both (here ∷ left) [] number first second is_left is_right = absurd (none-some second is_right)
got_both (here ∷ left) (there ∷ right) zero first second is_left is_right =
    ap (λ one. Some (one, there)) (ap (λ (found : Option _). unwrap_or found here) is_left)
    ∙ ap (λ one. Some (first, one)) (ap (λ (found : Option _). unwrap_or found there) is_right)
got_both (here ∷ left) (there ∷ right) (suc number) first second is_left is_right =
    got_both left right number first second is_left is_right

-- what a function gives of a numbered item
pub got_numbered :
    {A B : Type 0} (f : ℕ × A → B) (items : List A) (first index number : ℕ) (item : A)
    → slice_get items index ≡ Some item
    → number ≡ first + index
    → slice_get (map f (enumerate_from first items)) index ≡ Some (f (number, item))
got_numbered f [] first index number item found at = absurd (none-some item found)
got_numbered f (here ∷ others) first zero number item found at =
    ap (λ n. Some (f (n, here))) (omega (arith, at))
    ∙ ap (λ item. Some (f (number, item))) (ap (λ (found : Option _). unwrap_or found here) found)
got_numbered f (here ∷ others) first (suc index) number item found at =
    got_numbered f others (first + 1) index number item found (omega (arith, at))

-- items before others keep their places
pub got_before :
    {A : Type 0} (before after : List A) (number : ℕ)
    → number < length before
    → slice_get (before ++ after) number ≡ slice_get before number
got_before [] after number below = absurd (omega (arith, below))
got_before (first ∷ before) after zero below = refl
got_before (first ∷ before) after (suc number) below = got_before before after number (omega (arith, below))

pub all_mapped :
    {X A : Type 0} (Q : X → Type 0) (P : A → Type 0) (f : X → A) → ((x : X) → Q x → P (f x)) → (xs : List X)
    → AllByRecursion Q xs → AllByRecursion P (map f xs)
all_mapped Q P f h [] all = tt
all_mapped Q P f h (x ∷ xs) all = (h x all.0, all_mapped Q P f h xs all.1)

pub all_weaker :
    {A : Type 0} (Q P : A → Type 0) → ((x : A) → Q x → P x) → (xs : List A) → AllByRecursion Q xs
    → AllByRecursion P xs
all_weaker Q P h [] all = tt
all_weaker Q P h (x ∷ xs) all = (h x all.0, all_weaker Q P h xs all.1)

pub all_both :
    {A : Type 0} (P Q : A → Type 0) (xs : List A) → AllByRecursion P xs → AllByRecursion Q xs
    → AllByRecursion (λ x. P x × Q x) xs
all_both P Q [] h k = tt
all_both P Q (x ∷ xs) h k = ((h.0, k.0), all_both P Q xs h.1 k.1)

pub all_append :
    {A : Type 0} (P : A → Type 0) (xs ys : List A) → AllByRecursion P xs → AllByRecursion P ys
    → AllByRecursion P (xs ++ ys)
all_append P [] ys h k = k
all_append P (x ∷ xs) ys h k = (h.0, all_append P xs ys h.1 k)

pub take_found : {A : Type 0} (items : List A) (place : ℕ) (item : A) → slice_get items place ≡ Some item
    → take (suc place) items ≡ take place items ++ item ∷ []
take_found [] place item is = let bad : ⊥ = cc in absurd bad
take_found (first ∷ others) zero item is = let same : first ≡ item = cc in ap (λ one. one ∷ []) same
take_found (first ∷ others) (suc place) item is = ap (λ rest. first ∷ rest) (take_found others place item is)
