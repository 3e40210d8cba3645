-- What two outcomes that are equal have in common.
use Rattle.code_meaning.proofs.Prelude.{Gave, Outcome, SourceState, Stopped, refl, then_do, ◌≡◌}

pub same_both : {A : Type 0} (one other : A) (t u : SourceState) → Gave one t ≡ Gave other u
    → (one ≡ other) × (t ≡ u)
same_both one other t u same = (cc, cc)

pub same_given : {A : Type 0} {one other : A} {t u : SourceState} → Gave one t ≡ Gave other u → one ≡ other
same_given same = cc

pub given_again : {A : Type 0} (of : Outcome A) → then_do of (λ found t. Gave found t) ≡ of
given_again (Gave found t) = refl
given_again (Stopped why t) = refl
