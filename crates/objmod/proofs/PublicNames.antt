-- One more public name after others.
use Rattle.objmod.proofs.Prelude.{◌≡◌, List, [], ◌∷◌, ◌++◌, map, refl, ap, OwnedPublic, Public, owned_public_view}

pub publics_more :
    (done : List OwnedPublic) (made : OwnedPublic) (left : List Public)
    → map owned_public_view (done ++ made ∷ []) ++ left
    ≡ map owned_public_view done ++ owned_public_view made ∷ left
publics_more [] made left = refl
publics_more (first ∷ done) made left = ap (λ rest. owned_public_view first ∷ rest) (publics_more done made left)
