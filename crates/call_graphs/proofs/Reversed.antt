-- Lists whose last element comes first.
use Rattle.call_graphs.proofs.Prelude.{◌≡◌, List, [], ◌∷◌, ◌++◌, length, ◌==◌, refl, sym, ap, ◌∙◌, arith, reverse, eqb-suc-zero, reverse-append, length-reverse, Visit}
use Rattle.call_graphs.specs.internal.Path.{is_ended}

pub pushed : (visits : List Visit) (visit : Visit) → reverse (visits ++ visit ∷ []) ≡ visit ∷ reverse visits
pushed visits visit = reverse-append visits (visit ∷ [])

pub popped : (old new : List Visit) (visit : Visit) → old ≡ new ++ visit ∷ []
    → reverse old ≡ visit ∷ reverse new
popped old new visit is = ap reverse is ∙ pushed new visit

pub popped_none : (old new : List Visit) → old ≡ new ++ [] → length new ≡ 0 → reverse old ≡ []
popped_none old [] is none = ap reverse is
popped_none old (visit ∷ new) is none = absurd (omega (arith, none))

ended_by_length : (visits : List Visit) → (length visits == 0) ≡ is_ended visits
ended_by_length [] = refl
ended_by_length (visit ∷ others) = eqb-suc-zero (length others)

pub ended_by_reversed_length : (visits : List Visit) → (length visits == 0) ≡ is_ended (reverse visits)
ended_by_reversed_length visits =
    ap (λ count. count == 0) (sym (length-reverse visits)) ∙ ended_by_length (reverse visits)
