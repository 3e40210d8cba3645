-- A value more at the end of a list, seen as what it stands for.
use Rattle.object_modules.proofs.Prelude.{◌≡◌, ℕ, ◌+◌, ◌<◌, List, [], ◌∷◌, ◌++◌, length, map, drop, sym, ap, ◌∙◌, append_assoc}
use Rattle.std.proofs.Common.{get_or}
use Rattle.std.proofs.lemmas.List.{drop_more, map-append}

-- one item more, where each view is made of the view of an item
pub view_added :
    {A B C D : Type 0} (f : A → D) (g : C → B) (h : B → D) (made : List A) (x : A)
    (ys : List C) (i : ℕ) (y : C)
    → i < length ys → y ≡ get_or ys i y → f x ≡ h (g y)
    → map f (made ++ x ∷ []) ++ map h (map g (drop (i + 1) ys)) ≡ map f made ++ map h (map g (drop i ys))
view_added f g h made x ys i y within is same =
    ap (λ m. m ++ map h (map g (drop (i + 1) ys))) (map-append f made (x ∷ []))
    ∙ append_assoc (map f made) (f x ∷ []) (map h (map g (drop (i + 1) ys)))
    ∙ ap (λ v. map f made ++ (v ∷ map h (map g (drop (i + 1) ys)))) same
    ∙ sym (ap (λ d. map f made ++ map h (map g d))
    (drop_more ys i y within ∙ ap (λ z. z ∷ drop (i + 1) ys) (sym is)))
