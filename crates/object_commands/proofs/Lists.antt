-- Loops that add to a list what each item of another gives.
use Rattle.object_commands.proofs.Prelude.{◌≡◌, ℕ, suc, zero, ◌+◌, ◌<◌, ◌≤◌, List, [], append-nil, arith, refl, ◌∷◌, ◌++◌, length, get_or, map, drop, sym, ap, ◌∙◌, add-one, flat_map, drop-cons, map-append, append_assoc}

-- what is left of a list begins with this item
pub left_is : {A : Type 0} (items : List A) (i : ℕ) (item : A) → i < length items → item ≡ get_or items i item
    → drop i items ≡ item ∷ drop (i + 1) items
left_is items i item within is =
    drop-cons items i item within
    ∙ ap (λ first. first ∷ drop (suc i) items) (sym is)
    ∙ ap (λ n. item ∷ drop n items) (sym (add-one i))

-- one item more, which is seen as the one that it is made of
pub item_added :
    {A B C : Type 0} (f : A → C) (g : B → C) (total : List C) (made new : List A) (x : A)
    (ys : List B) (i : ℕ) (y : B)
    → map f made ++ map g (drop i ys) ≡ total → i < length ys → y ≡ get_or ys i y → f x ≡ g y
    → new ≡ made ++ x ∷ []
    → map f new ++ map g (drop (i + 1) ys) ≡ total
item_added f g total made new x ys i y rest within is same added =
    ap (λ n. map f n ++ map g (drop (i + 1) ys)) added
    ∙ ap (λ m. m ++ map g (drop (i + 1) ys)) (map-append f made (x ∷ []))
    ∙ append_assoc (map f made) (f x ∷ []) (map g (drop (i + 1) ys))
    ∙ ap (λ v. map f made ++ v ∷ map g (drop (i + 1) ys)) same
    ∙ sym (ap (λ d. map f made ++ map g d) (left_is ys i y within is))
    ∙ rest

-- one list more, which the view of an item gives
pub list_added :
    {A B C : Type 0} (f : B → List C) (g : A → B) (total made new : List C) (xs : List A) (i : ℕ) (x : A)
    → made ++ flat_map f (map g (drop i xs)) ≡ total → i < length xs → x ≡ get_or xs i x
    → new ≡ made ++ f (g x)
    → new ++ flat_map f (map g (drop (i + 1) xs)) ≡ total
list_added f g total made new xs i x rest within is added =
    ap (λ n. n ++ flat_map f (map g (drop (i + 1) xs))) added
    ∙ append_assoc made (f (g x)) (flat_map f (map g (drop (i + 1) xs)))
    ∙ ap (λ d. made ++ flat_map f (map g d)) (sym (left_is xs i x within is))
    ∙ rest

-- the same item more
pub same_added :
    {A : Type 0} (total made new : List A) (x : A) (ys : List A) (i : ℕ) (y : A) → made ++ drop i ys ≡ total
    → i < length ys → y ≡ get_or ys i y → x ≡ y → new ≡ made ++ x ∷ []
    → new ++ drop (i + 1) ys ≡ total
same_added total made new x ys i y rest within is same added =
    ap (λ n. n ++ drop (i + 1) ys) added
    ∙ append_assoc made (x ∷ []) (drop (i + 1) ys)
    ∙ ap (λ v. made ++ v ∷ drop (i + 1) ys) same
    ∙ sym (ap (λ d. made ++ d) (left_is ys i y within is))
    ∙ rest

pub nothing_left : {A : Type 0} (items : List A) (i : ℕ) → length items ≤ i → drop i items ≡ []
nothing_left [] zero past = refl
nothing_left [] (suc i) past = refl
nothing_left (item ∷ others) zero past = absurd (omega arith)
nothing_left (item ∷ others) (suc i) past = nothing_left others i (omega arith)

-- once nothing is left, all was made
pub all_made : {A : Type 0} (total made ys : List A) (i : ℕ) → made ++ drop i ys ≡ total
    → length ys ≤ i → made ≡ total
all_made total made ys i rest past = sym (append-nil made) ∙ ap (λ d. made ++ d) (sym (nothing_left ys i past)) ∙ rest
