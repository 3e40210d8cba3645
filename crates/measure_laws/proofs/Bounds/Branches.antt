-- IF.
use Rattle.measure_laws.proofs.Prelude.{ℕ, ◌+◌, ◌%◌, inl, inr, Bool, true, false, if◌then◌else◌, nat_eq, [], ◌∷◌, Option, Some, None, refl, arith, ExpressionNumber, StatementNumber, LabelNumber, label_of, Site, number, Jumped, Meet, Statement, Turn, both_steps, branch, computed_if_steps, goto_label, has_one_jump, if_steps, statement_if_any, then_steps, nth_label, BodyGround, MayGo, MayGoTo, PlanFootprint}
use Rattle.measure_laws.proofs.{Bounds.Fitting.{closed_fit, either_fit, finding_fits, less_fits, none_fit, then_fit}, Bounds.Planning.{plain_fits, plains_fit}}

-- a statement that may be absent
abbrev pub AnyFits : (at : BodyGround) → Option StatementNumber → (most : ℕ) → Type 0
AnyFits at None most = Unit {0}
AnyFits at (Some number) most = PlanFootprint at (Statement number ∷ []) most × MayGoTo at number

module _
    {at : BodyGround} (site : Site) (condition : ExpressionNumber) (tested : ℕ)
    (branches : (label : LabelNumber) (sense : Bool) → MayGo at label.index
    → PlanFootprint at (branch condition label sense ∷ []) tested)
  where
    module _
        (then_part : StatementNumber) (chosen : ℕ)
        (then_fits : PlanFootprint at (Statement then_part ∷ []) chosen)
        (then_goes : MayGoTo at then_part) (first : ℕ)
      where
        then_alone_fits : PlanFootprint at (then_steps site condition then_part first) (tested + chosen)
        then_alone_fits =
            closed_fit (λ own. less_fits
            (then_fit (branches (label_of first) false (own first (inr (inr (inr (inl refl))))))
            (then_fit (plain_fits (Jumped (has_one_jump site condition)) refl tt)
            (then_fit then_fits (plains_fit (Meet (label_of first) ∷ []) refl tt))))
            (omega arith))

        both_fits :
            (else_part : StatementNumber) (other : ℕ)
            → PlanFootprint at (Statement else_part ∷ []) other
            → PlanFootprint at (both_steps site condition then_part else_part first)
            (tested + chosen + other + 3)
        both_fits else_part other else_fits =
            closed_fit (λ own. less_fits
            (then_fit (branches (label_of first) false (own first (inr (inr (inr (inl refl))))))
            (then_fit (plain_fits (Jumped (has_one_jump site condition)) refl tt)
            (then_fit then_fits
            (then_fit (plain_fits (Turn (label_of first) (nth_label first 1)) refl
            (own (nth_label first 1).index (inr (inr (inr (inr (inr (inl refl))))))))
            (then_fit else_fits (plains_fit (Meet (nth_label first 1) ∷ []) refl tt))))))
            (omega arith))

        computed_fits :
            (else_part : Option StatementNumber) (other : ℕ)
            → AnyFits at else_part other
            → PlanFootprint at (computed_if_steps at.body site condition then_part else_part first)
            (tested + chosen + other + 3)
        computed_fits None other else_fits = less_fits then_alone_fits (omega arith)
        computed_fits (Some else_part) other else_fits =
            finding_fits (goto_label at.body else_part)
            (λ label is. less_fits (then_fit (branches label false (else_fits.1 label is)) then_fits)
            (omega arith))
            (both_fits else_part other else_fits.0)

        any_fits :
            (else_part : Option StatementNumber) (other : ℕ)
            → AnyFits at else_part other
            → PlanFootprint at (statement_if_any else_part) other
        any_fits None other else_fits = none_fit
        any_fits (Some else_part) other else_fits = else_fits.0

        pub if_fits :
            (else_part : Option StatementNumber) (other : ℕ)
            → AnyFits at else_part other
            → PlanFootprint at (if_steps at.body site condition then_part else_part first)
            (tested + chosen + other + 3)
        if_fits else_part other else_fits =
            finding_fits (number site condition)
            (λ known there. either_fit (nat_eq (known % 2) 1) (less_fits then_fits (omega arith))
            (less_fits (any_fits else_part other else_fits) (omega arith)))
            (finding_fits (goto_label at.body then_part)
            (λ label is. less_fits
            (then_fit (branches label true (then_goes label is)) (any_fits else_part other else_fits))
            (omega arith))
            (computed_fits else_part other else_fits))
