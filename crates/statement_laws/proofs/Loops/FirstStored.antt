-- The variable of an iterative DO gets its first value, with a step to spare, and what is planned after it
-- stands.
use Rattle.statement_laws.proofs.Prelude.{◌≡◌, ℕ, true, List, ◌++◌, None, refl, sym, ap, subst, ◌∙◌, ScalarType, type_of, StoredIn, SourcePlace, write_scalar, stored, value, write_variable, SourceState, Outcome, Gave, Stopped, then_do, as_type, Registers, State, Range, Stored, Iteration, IsStored, Arrives, Does, at_place, does_without_step, Facts, Site, scalar, knowing, Planned, single_steps, whole, counter_of, first_steps, site_of, Know, does_same, loaded_in, BodyContext}
use Rattle.statement_laws.proofs.Assignments.Assigned.{scalar_there}
use Rattle.statement_laws.proofs.Assignments.Assignments.{single_does}
use Rattle.statement_laws.proofs.Loops.Counted.{counted_does}
use Rattle.statement_laws.proofs.Loops.CountedVariables.{whole_is, whole_tree, whole_types}
use Rattle.statement_laws.proofs.Assignments.Firsts.{then_each}
use Rattle.statement_laws.proofs.Loops.LoopEnds.{Iterates}
use Rattle.statement_laws.proofs.Loops.LoopTurns.{Loop, StageAt}
use Rattle.statement_laws.proofs.FirstSteps.{Stand, going}

-- the first value is stored
abbrev pub first_stored : {at : BodyContext} → Loop at → SourceState → Outcome (Unit {0})
first_stored {at = at} loop s =
    then_do (value at.context.later at.context.activation.around (loop.head).first s)
    (λ number t. write_variable at.context.activation.around loop.head (as_type (loop.head).scalar number) t)

-- what is reached by the store of the first value
abbrev pub FirstArrives :
    {at : BodyContext} → Loop at → (place : ℕ) → Facts → SourceState → State → Type 0
FirstArrives {at = at} loop place facts u end =
    Arrives at.context.activation at.context.activation.level loop.base place
    (λ (given : Unit {0}) (r : Registers) (memory : List ℕ). Know at.context facts r memory) tt u end

-- it is a place from which what is planned after the store stands
pub record FirstThere
    {at : BodyContext} (loop : Loop at) (others : List Planned) (found : Unit {0})
    (u : SourceState) (end : State) :
    Type 0 where
  pub known : Facts
  pub place : ℕ
  pub stand : Stand at (going true known) None place others loop.after loop.to
  pub arrives : FirstArrives loop place known u end

nothing_more : (outcome : Outcome (Unit {0})) → outcome ≡ then_do outcome (λ _ u. Gave tt u)
nothing_more (Gave found t) = refl
nothing_more (Stopped why t) = refl

pub first_stores :
    {at : BodyContext} (loop : Loop at) (head : Iteration) (list : Range) (facts : Facts) (from : ℕ)
    (others : List Planned)
    (s : SourceState) (r : Registers) (memory : List ℕ)
    → Iterates at loop head list
    → Stand at (going true facts) None from
    (first_steps at.body (knowing (site_of at.body) facts) (counter_of (knowing (site_of at.body) facts) head)
    head.first ++ others)
    loop.after loop.to
    → StageAt at loop.need loop.base s facts r memory
    → Does (loaded_in at.context) s.budget 1 (at_place from r memory s.events) (first_stored loop s)
    (FirstThere loop others)
unfolding first_steps
first_stores {at = at} loop head list facts from others s r memory iterates stand stage =
    does_same _ is_stored
    (single_does at iterates.sound facts loop.need loop.base head.first (loop.head).first (iterates.is).first
    iterates.first_types
    iterates.first_fits (λ _ u. Gave tt u) (FirstThere loop others) others loop.after loop.to 0
    (Stored (type_of (loop.head).first) (loop.head).scalar (whole (loop.head).variable))
    (StoredIn (type_of (loop.head).first) (loop.head).scalar (whole_tree (loop.head).variable))
    from (going true facts) s r memory
    (counted_does at iterates.sound facts loop.need loop.base head.first (loop.head).first (iterates.is).first
    iterates.first_types
    iterates.first_fits (λ _ u. Gave tt u) (FirstThere loop others) others loop.after loop.to)
    refl stands
    (IsStored (whole_is at.context 0 (loop.head).variable))
    (refl, (iterates.counted).refers, whole_types at.context (loop.head).variable)
    iterates.enough stage
    (λ here place u now kept goes there next.
    does_without_step (record {
      known = here.facts;
      place = place;
      stand =
          subst (λ (goes_on : _). Stand at (going goes_on here.facts) None place others loop.after loop.to)
          goes there;
      arrives = record { r = now; memory = kept; is_at = refl; ready = next.ready; holds = next.known };
    })))
  where
    site : Site
    site = knowing (site_of at.body) facts

    planned_by : (from_type to_type : ScalarType) (variable : ℕ) → Type 0
    planned_by from_type to_type variable =
        Stand at (going true facts) None from
        (single_steps at.body site (Stored from_type to_type (whole variable)) head.first ++ others)
        loop.after loop.to

    stands : planned_by (type_of (loop.head).first) (loop.head).scalar (loop.head).variable
    stands =
        subst (λ (one : ScalarType). planned_by one (loop.head).scalar (loop.head).variable)
        (scalar_there at iterates.sound facts head.first (loop.head).first (iterates.is).first)
        (subst (λ (one : ScalarType). planned_by (scalar site head.first) one (loop.head).variable)
        (iterates.is).scalar
        (subst (λ (one : ℕ). planned_by (scalar site head.first) head.scalar one)
        (iterates.is).variable stand))

    is_stored : first_stored loop s
        ≡ then_do (value at.context.later at.context.activation.around (loop.head).first s)
        (λ n t. then_do
        (stored at.context.later at.context.activation.around
        (StoredIn (type_of (loop.head).first) (loop.head).scalar (whole_tree (loop.head).variable)) n
        t) (λ _ u. Gave tt u))
    is_stored =
        then_each (value at.context.later at.context.activation.around (loop.head).first s) _ _
        (λ n t.
        nothing_more (write_variable at.context.activation.around loop.head (as_type (loop.head).scalar n) t)
        ∙ ap (λ (place : Outcome SourcePlace). then_do
        (then_do place (λ (found : SourcePlace) (u : SourceState). write_scalar
        at.context.activation.around.program (loop.head).scalar found (as_type (loop.head).scalar n) u))
        (λ _ u. Gave tt u)) (sym ((iterates.counted).means t)))
