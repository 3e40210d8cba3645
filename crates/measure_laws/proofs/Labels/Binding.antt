-- Labels that planned steps bind, and that their items bind too.
use Rattle.measure_laws.proofs.Prelude.{bound_after, bound_first, ◌≡◌, inl, inr, ℕ, zero, suc, ◌+◌, ◌<◌, ◌≤◌, Bool, true, false, List, [], ◌∷◌, ◌++◌, Option, arith, subst, cases_lt, Item, Facts, LabelNumber, Site, Body, Planned, Here, AreCarriedOut, ListCarriedOut, NoneCarriedOut, StatementCarriedOut, StepCarriedOut, carried_steps, jump_on_steps, site_of, steps_from, ItemsBind, PlanBinds, PlannedBinds, StepsBind}
use Rattle.steps8080.specs.declared.step.Step.TheVariants as steps
use Rattle.statements8080.specs.declared.plan.Planned.TheVariants as planned
use Rattle.measure_laws.proofs.Footprints.Items.{steps_bound}

turn_binds :
    (label : ℕ) (goes_on : Bool) (end other : LabelNumber)
    → label ≡ other.index → StepsBind label (jump_on_steps goes_on end ++ (steps.Mark other ∷ []))
turn_binds label true end other is = inl is
turn_binds label false end other is = inl is

step_binds :
    (label : ℕ) (site : Site) (here : Here) (step : Planned)
    → PlannedBinds label step
    → StepsBind label (carried_steps site here step)
unfolding carried_steps
step_binds label site here (planned.Code (steps.Mark other)) is = inl is
step_binds label site here (planned.Turn other end) is = turn_binds label here.goes_on end other is
step_binds label site here (planned.Meet other) is = inl is
step_binds label site here (planned.Again other facts is_entered) is = inl is
step_binds label site here step is = absurd is

-- labels that planned steps bind are bound by their items
pub plan_bound :
    {body : Body} {called : List Bool} (label : ℕ) {here last : Here} {waiting : Option Facts}
    {plan : List Planned} {list : List Item}
    → AreCarriedOut body called here waiting plan list last
    → PlanBinds label plan
    → ItemsBind label list
plan_bound label NoneCarriedOut is = absurd is
plan_bound {body = body} label {here = here}
    (StepCarriedOut {step = step} {first = first} {more = more} alone written rest) is =
    elim is [
      | inl this ↦
          bound_first label first more
          (steps_bound label written (step_binds label (site_of body) here step this))
      | inr later ↦ bound_after label first more (plan_bound label rest later)
    ]
plan_bound label (StatementCarriedOut {first = first} {more = more} done rest) is = elim is [
  | inl this ↦ absurd this
  | inr later ↦ bound_after label first more (plan_bound label rest later)
]
plan_bound label (ListCarriedOut {first = first} {more = more} done rest) is = elim is [
  | inl this ↦ absurd this
  | inr later ↦ bound_after label first more (plan_bound label rest later)
]

-- labels that are bound by planned steps
pub plan_first : (label : ℕ) (first others : List Planned) → PlanBinds label first
    → PlanBinds label (first ++ others)
plan_first label [] others is = absurd is
plan_first label (step ∷ first) others is = elim is [
  | inl here ↦ inl here
  | inr later ↦ inr (plan_first label first others later)
]

pub plan_later : (label : ℕ) (first others : List Planned) → PlanBinds label others
    → PlanBinds label (first ++ others)
plan_later label [] others is = is
plan_later label (step ∷ first) others is = inr (plan_later label first others is)

pub plan_at :
    (label : ℕ) (steps_at : ℕ → List Planned) (index left place : ℕ)
    → index ≤ place
    → place < index + left
    → PlanBinds label (steps_at place)
    → PlanBinds label (steps_from steps_at index left)
plan_at label steps_at index zero place low high is = absurd (omega (arith, low, high))
plan_at label steps_at index (suc left) place low high is =
    elim (cases_lt index place) [
      | inl before ↦
          plan_later label (steps_at index) (steps_from steps_at (suc index) left)
          (plan_at label steps_at (suc index) left place (omega (arith, before)) (omega (arith, high)) is)
      | inr past ↦
          let same : place ≡ index = omega (arith, low, past) in
          plan_first label (steps_at index) (steps_from steps_at (suc index) left)
          (subst (λ (at : ℕ). PlanBinds label (steps_at at)) same is)
    ]
