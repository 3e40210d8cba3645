-- Tests of the targets of an assignment.
use Rattle.statements8080.proofs.Prelude.{◌≡◌, ℕ, zero, suc, ◌+◌, ◌<◌, Bool, true, false, Option, Some, None, refl, sym, ap, ◌∙◌, arith, Target, Range, any_target, target_at}
use Rattle.std.proofs.Common.{◌≤◌, nat_eq}
use Rattle.std.proofs.lemmas.Bool.{eqb-false, eqb-true, or_parts}
use Rattle.statements8080.specs.declared.body.Body.{Body}

-- no target passes a test
pub none_passes :
    (test : Target → Bool) (body : Body) (targets : Range) (index left place : ℕ) (target : Target)
    → any_target test body targets index left ≡ false
    → index ≤ place
    → place < index + left
    → target_at body.tree.now targets place ≡ Some target
    → test target ≡ false
none_passes test body targets index zero place target none low high is = absurd (omega (arith, low, high))
none_passes test body targets index (suc left) place target none low high is =
    by (nat_eq index place) refl
    (λ more fewer. none_passes test body targets (suc index) left place target
    (or_parts _ _ none).1 more fewer is)
  where
    parts : ((elim (target_at body.tree.now targets
        index) as (λ (given : Option Target). Bool) [ Some found ↦ test found | None ↦ false ]) ≡ false)
        × (any_target test body targets (suc index) left ≡ false)
    parts = or_parts _ _ none

    here : index ≡ place → test target ≡ false
    here same =
        sym (ap (λ (given : Option Target). elim given as (λ (one : Option Target). Bool) [ Some found ↦ test found | None ↦ false ])
        (ap (λ (n : ℕ). target_at body.tree.now targets n) same ∙ is))
        ∙ parts.0

    by : (same : Bool) → nat_eq index place ≡ same
        → (suc index ≤ place → place < suc index + left → test target ≡ false)
        → test target ≡ false
    by true same further = here (eqb-true index place same)
    by false differ further =
        let other = eqb-false index place differ in further (omega (arith, low, other)) (omega (arith, high))
