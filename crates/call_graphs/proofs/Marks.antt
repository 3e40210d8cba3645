-- What is known of bodies, and what is left to do.
use Rattle.call_graphs.proofs.Prelude.{◌≡◌, ℕ, zero, suc, ◌+◌, ◌≤◌, List, [], ◌∷◌, length, slice_set, replicate, arith, refl, ap, ◌⊎◌, inl, inr, Mark, New, Open, Done, Body, callees_of, mark_of, waiting, weight}

-- where one mark changes, another body keeps its own
pub mark_set : (marks : List Mark) (place body : ℕ) (mark : Mark)
    → ((mark_of (slice_set marks place mark) body ≡ mark) × (place ≡ body))
    ⊎ (mark_of (slice_set marks place mark) body ≡ mark_of marks body)
mark_set [] place body mark = inr refl
mark_set (first ∷ others) zero zero mark = inl (refl, refl)
mark_set (first ∷ others) zero (suc body) mark = inr refl
mark_set (first ∷ others) (suc place) zero mark = inr refl
mark_set (first ∷ others) (suc place) (suc body) mark =
    elim (mark_set others place body mark) [
      | inl here ↦ inl (here.0, ap suc here.1)
      | inr there ↦ inr there
    ]

-- a body whose need was set is not open
pub done_is_not_open : (marks : List Mark) (place need : ℕ)
    → mark_of (slice_set marks place (Done need)) place ≡ Open → ⊥
done_is_not_open [] place need is = let bad : ⊥ = cc in bad
done_is_not_open (first ∷ others) zero need is = let bad : ⊥ = cc in bad
done_is_not_open (first ∷ others) (suc place) need is = done_is_not_open others place need is

-- at first nothing is known
pub all_new : (count body : ℕ) → (mark_of (replicate count New) body ≡ New)
    ⊎ ((mark_of (replicate count New) body ≡ Done 0) × (count ≤ body))
all_new zero body = inr (refl, omega arith)
all_new (suc count) zero = inl refl
all_new (suc count) (suc body) =
    elim (all_new count body) [
      | inl here ↦ inl here
      | inr past ↦ inr (past.0, omega (arith, past.1))
    ]

-- a body that is not known becomes open
pub opened : (graph : List Body) (marks : List Mark) (place : ℕ) → length marks ≡ length graph
    → mark_of marks place ≡ New
    → waiting graph marks ≡ 2 + length (callees_of graph place) + waiting graph (slice_set marks place Open)
opened graph [] place size new = let bad : ⊥ = cc in absurd bad
opened [] (first ∷ others) place size new = absurd (omega (arith, size))
opened (body ∷ bodies) (first ∷ others) zero size new =
    let is : weight body first ≡ 2 + length body.callees = ap (weight body) new in
    omega (arith, is)
opened (body ∷ bodies) (first ∷ others) (suc place) size new =
    let rest : waiting bodies others ≡ 2 + length (callees_of bodies place)
    + waiting bodies (slice_set others place Open) =
    opened bodies others place (omega (arith, size)) new in
    omega (arith, rest)

-- a need that is set adds nothing to do
pub waiting_after_need : (graph : List Body) (marks : List Mark) (place need : ℕ)
    → waiting graph (slice_set marks place (Done need)) ≤ waiting graph marks
waiting_after_need [] marks place need = omega arith
waiting_after_need (body ∷ bodies) [] place need = omega arith
waiting_after_need (body ∷ bodies) (first ∷ others) zero need = omega arith
waiting_after_need (body ∷ bodies) (first ∷ others) (suc place) need =
    let rest : waiting bodies (slice_set others place (Done need)) ≤ waiting bodies others =
    waiting_after_need bodies others place need in
    omega (arith, rest)
