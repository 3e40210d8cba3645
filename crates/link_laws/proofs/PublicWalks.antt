-- Lists that are made of what walks over files hand out, one after another.
use Rattle.link_laws.proofs.Prelude.{◌≡◌, List, [], ◌∷◌, ◌++◌, map, ap, sym, ◌∙◌, append_assoc, map-append}

-- one more, whose view is made of what was handed out
pub view_handed :
    {A B C : Type 0} (view : A → C) (make : B → C) (done : List A) (made : A)
    (given left : List B) (first : B)
    (total : List C)
    → map view done ++ map make given ≡ total → given ≡ first ∷ left → view made ≡ make first
    → map view (done ++ made ∷ []) ++ map make left ≡ total
view_handed view make done made given left first total rest next same =
    ap (λ m. m ++ map make left) (map-append view done (made ∷ []))
    ∙ append_assoc (map view done) (view made ∷ []) (map make left)
    ∙ ap (λ v. map view done ++ (v ∷ map make left)) same
    ∙ ap (λ g. map view done ++ map make g) (sym next)
    ∙ rest
