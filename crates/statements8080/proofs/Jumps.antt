-- The number of jumps in the code of a condition.
use Rattle.statements8080.proofs.Prelude.{◌≡◌, ℕ, zero, suc, ◌-◌, ◌<◌, Bool, true, false, not, nat_lt, Option, Some, None, refl, sym, ◌∙◌, ap, arith, lt-ltb, ExpressionNumber}
use Rattle.steps8080.specs.declared.sites.site.Site.{Site}
use Rattle.statements8080.specs.internal.Branches.{has_one_jump, has_one_jump_within, inner, may_jump_twice}

-- the answer for a condition, from the expression inside it
inside_or_not : (left : ℕ) → Site → ExpressionNumber → Option ExpressionNumber → Bool
inside_or_not left site condition found = elim found [
  | Some inside ↦ has_one_jump_within left site inside
  | None ↦ not (may_jump_twice site condition)
]

one_more :
    (left : ℕ) (site : Site) (condition : ExpressionNumber)
    → has_one_jump_within (suc left) site condition ≡ inside_or_not left site condition (inner site condition)
unfolding has_one_jump_within inside_or_not
one_more left site condition = refl

counted : (left : ℕ) → 0 < left → left ≡ suc (left - 1)
counted left below = omega arith

-- the expression inside NOT or a conversion is looked into
pub one_jump_here :
    (left : ℕ) (site : Site) (condition inside : ExpressionNumber)
    → 0 < left → inner site condition ≡ Some inside
    → has_one_jump_within left site condition ≡ has_one_jump_within (left - 1) site inside
unfolding inside_or_not
one_jump_here left site condition inside below is =
    ap (λ count. has_one_jump_within count site condition) (counted left below)
    ∙ one_more (left - 1) site condition
    ∙ ap (inside_or_not (left - 1) site condition) is

-- the condition has no expression inside
pub one_jump_last :
    (left : ℕ) (site : Site) (condition : ExpressionNumber)
    → 0 < left → inner site condition ≡ None
    → has_one_jump_within left site condition ≡ not (may_jump_twice site condition)
unfolding inside_or_not
one_jump_last left site condition below is =
    ap (λ count. has_one_jump_within count site condition) (counted left below)
    ∙ one_more (left - 1) site condition
    ∙ ap (inside_or_not (left - 1) site condition) is

no_more :
    (site : Site) (condition : ExpressionNumber) → has_one_jump_within 0 site condition ≡ false
unfolding has_one_jump_within
no_more site condition = refl

none_left : (left : ℕ) → nat_lt 0 left ≡ false → left ≡ 0
none_left zero none = refl
none_left (suc left) none =
    let some : nat_lt 0 (suc left) ≡ true = lt-ltb 0 (suc left) (omega arith) in cc

-- no further level is looked through
pub one_jump_ends :
    (left : ℕ) (site : Site) (condition first : ExpressionNumber)
    → has_one_jump_within left site condition ≡ has_one_jump site first → nat_lt 0 left ≡ false
    → false ≡ has_one_jump site first
one_jump_ends left site condition first same none =
    sym
    (sym same
    ∙ ap (λ count. has_one_jump_within count site condition) (none_left left none)
    ∙ no_more site condition)
