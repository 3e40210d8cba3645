-- Lists of arguments.
use Rattle.types.proofs.Prelude.{◌≡◌, List, [], ◌∷◌, length, refl, TypedExpression, arguments_view, ArgumentCount, refuse, moved, Place}

-- MOVE has three arguments
pub not_moved : (place : Place) (values : List TypedExpression) → (length values ≡ 3 → ⊥)
    → moved place (arguments_view values) ≡ refuse ArgumentCount place
not_moved place [] not_three = refl
not_moved place (one ∷ []) not_three = refl
not_moved place (one ∷ two ∷ []) not_three = refl
not_moved place (one ∷ two ∷ three ∷ []) not_three = absurd (not_three refl)
not_moved place (one ∷ two ∷ three ∷ four ∷ others) not_three = refl
