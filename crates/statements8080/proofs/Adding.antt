-- Steps that are appended one after another.
use Rattle.statements8080.proofs.Prelude.{◌≡◌, ℕ, suc, ◌+◌, ◌-◌, ◌<◌, Bool, false, ◌||◌, Some, None, List, [], ◌++◌, refl, sym, ◌∙◌, ap, arith, add-one, append_assoc, append-nil, Range, Target, target_at, PlanAdds, steps_from, any_target, IsAdding}
use Rattle.statements8080.specs.declared.body.Body.{Body}
use Rattle.statements8080.specs.declared.plan.Plan.{Plan}
use Rattle.statements8080.specs.declared.plan.Planned.{Planned}

-- no step is appended yet
pub adding_begins : (plan : Plan) (whole : List Planned) → IsAdding plan plan whole whole
adding_begins plan whole = record { added = refl; first = refl; taken = refl }

-- some of the remaining steps are appended
pub adding_goes_on :
    (before now next : Plan) (whole here left : List Planned)
    → IsAdding before now whole (here ++ left) → PlanAdds now next here → IsAdding before next whole left
adding_goes_on before now next whole here left adding adds = record {
  added = ap (λ items. items ++ left) adds.added ∙ append_assoc now.list.items here left ∙ adding.added;
  first = adds.first ∙ adding.first;
  taken = adds.taken ∙ adding.taken;
}

-- no step remains
pub adding_ends :
    (before now : Plan) (whole : List Planned) → IsAdding before now whole [] → PlanAdds before now whole
adding_ends before now whole adding = record {
  added = sym (append-nil now.list.items) ∙ adding.added;
  first = adding.first;
  taken = adding.taken;
}

-- the number of items from an index on is one more than the number after it
left_here : (index count : ℕ) → index < count → count - index ≡ suc (count - (index + 1))
left_here index count below = omega arith

-- the steps of the remaining indices begin with those of this one
pub steps_from_here :
    (steps_at : ℕ → List Planned) (index count : ℕ) → index < count
    → steps_from steps_at index (count - index)
    ≡ steps_at index ++ steps_from steps_at (index + 1) (count - (index + 1))
steps_from_here steps_at index count below =
    ap (steps_from steps_at index) (left_here index count below)
    ∙ ap (λ next. steps_at index ++ steps_from steps_at next (count - (index + 1))) (sym (add-one index))

-- one of the remaining targets passes a test if this one does, or one after it
pub any_target_here :
    (test : Target → Bool) (body : Body) (targets : Range) (index count : ℕ) → index < count
    → any_target test body targets index (count - index)
    ≡ ((elim (target_at body.tree.now targets index) [ Some found ↦ test found | None ↦ false ])
    || any_target test body targets (index + 1) (count - (index + 1)))
any_target_here test body targets index count below =
    ap (any_target test body targets index) (left_here index count below)
    ∙ ap
    (λ next. (elim (target_at body.tree.now targets index) [ Some found ↦ test found | None ↦ false ])
    || any_target test body targets next (count - (index + 1)))
    (sym (add-one index))
