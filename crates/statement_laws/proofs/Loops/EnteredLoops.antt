-- An iterative DO enters its turns: where it is known that there is one, or that there is none, and by a test
-- before it.
use Rattle.statement_laws.proofs.Prelude.{◌≡◌, ℕ, ◌-◌, ◌<◌, ◌≤◌, true, List, None, sym, ap, subst, ◌∙◌, arith, ltb-true, ltb-false, ScalarType, value, write_variable, write_scalar, SourceState, Outcome, Gave, then_do, Flow, Onward, as_type, Registers, State, Facts, Planned, IsReady, Does, at_place, Know, loaded_in, then_does_where, without_more, BodyContext, IsSoundBody, as_type_fits}
use Rattle.statement_laws.proofs.Loops.CountedVariables.{IsCounted, variable_address, variable_place}
use Rattle.statement_laws.proofs.Loops.FirstValues.{written_is}
use Rattle.statement_laws.proofs.Loops.LoopMeaning.{IsSteadyScalar, scalar_at, tested}
use Rattle.statement_laws.proofs.Loops.LoopTurns.{Loop, Out, Runs, StageAt, at_turn, from_list, from_test, then_spends}
use Rattle.statement_laws.proofs.Loops.FirstStored.{FirstThere, first_stored}
use Rattle.statement_laws.proofs.FirstSteps.{Stand, going}

-- the whole loop
abbrev pub whole_loop : {at : BodyContext} → Loop at → SourceState → Outcome Flow
whole_loop loop s = then_do (first_stored loop s) (λ _ u. from_test loop u)

-- the value that it has
pub first_value_is :
    {at : BodyContext} {top other_top : ℕ} {base other_base memory memory_now : List ℕ} {r now : Registers}
    (loop : Loop at) (scalar : ScalarType) (first : ℕ) (s u : SourceState)
    → IsSoundBody at
    → (loop.head).scalar ≡ scalar
    → IsCounted at.context (loop.head).variable scalar
    → ((s : SourceState) → value at.context.later at.context.activation.around (loop.head).first s
    ≡ Gave first s)
    → first_stored loop s ≡ Gave tt u
    → IsReady at.context.activation top base s.memory s.frame r memory
    → IsReady at.context.activation other_top other_base u.memory u.frame now memory_now
    → IsSteadyScalar at.context.activation scalar (variable_address at.context (loop.head).variable)
    → scalar_at scalar memory_now (variable_address at.context (loop.head).variable) ≡ as_type scalar first
first_value_is {at = at} loop scalar first s u sound same counted first_is is ready ready_now steady =
    written_is scalar (as_type scalar first) s u sound.sound counted (as_type_fits scalar first) ready
    (sym (ap (λ (scalar : ScalarType). write_scalar at.context.activation.around.program scalar
    (variable_place at.context (loop.head).variable) (as_type scalar first) s) same)
    ∙ sym (ap (λ (one : Outcome ℕ). then_do one
    (λ number t. write_variable at.context.activation.around loop.head (as_type (loop.head).scalar number) t))
    (first_is s))
    ∙ is)
    ready_now steady

-- the turns that are entered at a place
pub record TurnsAt {at : BodyContext} (loop : Loop at) (known : Facts) (place : ℕ) : Type 0 where
  pub facts : Facts
  pub turns : Runs loop loop.budget place facts (from_list loop)
  pub enters : (now : Registers) (memory_now : List ℕ) → Know at.context known now memory_now
      → Know at.context facts now memory_now

-- the first turn, where the value is not above the last one and nothing tests it
pub enters_surely :
    {at : BodyContext} (loop : Loop at) (scalar : ScalarType) (last from : ℕ) (facts : Facts)
    (others : List Planned)
    (s : SourceState) (r : Registers) (memory : List ℕ)
    → IsSoundBody at
    → (loop.head).scalar ≡ scalar
    → ((s : SourceState) → value at.context.later at.context.activation.around (loop.head).last s
    ≡ Gave last s)
    → IsCounted at.context (loop.head).variable scalar
    → Does (loaded_in at.context) s.budget 1 (at_place from r memory s.events) (first_stored loop s)
    (FirstThere loop others)
    → s.budget ≡ loop.budget
    → StageAt at loop.need loop.base s facts r memory
    → ((known : Facts) (place : ℕ) → Stand at (going true known) None place others loop.after loop.to
    → TurnsAt loop known place)
    → ((u : SourceState) (now : Registers) (memory_now : List ℕ) → first_stored loop s ≡ Gave tt u
    → IsReady at.context.activation at.context.activation.level loop.base u.memory u.frame now memory_now
    → IsSteadyScalar at.context.activation scalar (variable_address at.context (loop.head).variable)
    → scalar_at scalar memory_now (variable_address at.context (loop.head).variable) ≤ last)
    → Does (loaded_in at.context) s.budget 0 (at_place from r memory s.events) (whole_loop loop s) (Out loop)
enters_surely {at = at} loop scalar last from facts others s r memory sound same last_is counted stores
    budget_is stage turns not_above =
    then_spends (first_stored loop s) stores
    (λ found u end is there spent.
    let below = stage.below in
    let arrives = there.arrives in
    let entered = turns there.known there.place there.stand in
    subst (λ (state : State). Does (loaded_in at.context) (u.budget - 1) 0 state (from_test loop u)
    (Out loop)) (sym arrives.is_at)
    (tested loop scalar last u sound same (last_is u) counted arrives.ready
    (λ above steady.
    let is_above =
    ltb-true last (scalar_at scalar arrives.memory (variable_address at.context (loop.head).variable))
    above in
    let is_not = not_above u arrives.r arrives.memory is arrives.ready steady in
    absurd (omega (arith, is_above, is_not)))
    (λ fine steady.
    at_turn loop loop.budget there.place entered.facts u arrives.r arrives.memory entered.turns
    (omega (arith, spent, budget_is))
    (record {
      below = omega (arith, below, spent);
      room = stage.room;
      ready = arrives.ready;
      known = entered.enters arrives.r arrives.memory arrives.holds;
    }))))

-- what follows the store, where that needs no step to spare
pub enters_then :
    {at : BodyContext} (loop : Loop at) (from : ℕ) (facts : Facts) (others : List Planned)
    (s : SourceState) (r : Registers) (memory : List ℕ)
    → Does (loaded_in at.context) s.budget 1 (at_place from r memory s.events) (first_stored loop s)
    (FirstThere loop others)
    → s.budget ≡ loop.budget
    → StageAt at loop.need loop.base s facts r memory
    → ((known : Facts) (place : ℕ) (u : SourceState) (now : Registers) (memory_now : List ℕ)
    → Stand at (going true known) None place others loop.after loop.to
    → first_stored loop s ≡ Gave tt u
    → u.budget ≤ loop.budget
    → StageAt at loop.need loop.base u known now memory_now
    → Does (loaded_in at.context) u.budget 0 (at_place place now memory_now u.events)
    (from_test loop u) (Out loop))
    → Does (loaded_in at.context) s.budget 0 (at_place from r memory s.events) (whole_loop loop s) (Out loop)
enters_then {at = at} loop from facts others s r memory stores budget_is stage rest =
    then_does_where (first_stored loop s) (without_more stores)
    (λ found u end is there spent.
    let below = stage.below in
    let arrives = there.arrives in
    subst (λ (state : State). Does (loaded_in at.context) u.budget 0 state (from_test loop u) (Out loop))
    (sym arrives.is_at)
    (rest there.known there.place u arrives.r arrives.memory there.stand is (omega (arith, spent, budget_is))
    (record { below = omega (arith, below, spent); room = stage.room; ready = arrives.ready; known = arrives.holds })))

-- no turn, where the first value is above the last one
pub enters_never :
    {at : BodyContext} (loop : Loop at) (scalar : ScalarType) (last from : ℕ) (facts : Facts)
    (others : List Planned)
    (s : SourceState) (r : Registers) (memory : List ℕ)
    → IsSoundBody at
    → (loop.head).scalar ≡ scalar
    → ((s : SourceState) → value at.context.later at.context.activation.around (loop.head).last s
    ≡ Gave last s)
    → IsCounted at.context (loop.head).variable scalar
    → Does (loaded_in at.context) s.budget 1 (at_place from r memory s.events) (first_stored loop s)
    (FirstThere loop others)
    → s.budget ≡ loop.budget
    → StageAt at loop.need loop.base s facts r memory
    → ((known : Facts) (place : ℕ) (u : SourceState) (now : Registers) (memory_now : List ℕ)
    → Stand at (going true known) None place others loop.after loop.to
    → StageAt at loop.need loop.base u known now memory_now
    → Does (loaded_in at.context) u.budget 0 (at_place place now memory_now u.events)
    (Gave Onward u) (Out loop))
    → ((u : SourceState) (now : Registers) (memory_now : List ℕ) → first_stored loop s ≡ Gave tt u
    → IsReady at.context.activation at.context.activation.level loop.base u.memory u.frame now memory_now
    → IsSteadyScalar at.context.activation scalar (variable_address at.context (loop.head).variable)
    → last < scalar_at scalar memory_now (variable_address at.context (loop.head).variable))
    → Does (loaded_in at.context) s.budget 0 (at_place from r memory s.events) (whole_loop loop s) (Out loop)
enters_never {at = at} loop scalar last from facts others s r memory sound same last_is counted stores
    budget_is stage ends is_above =
    enters_then loop from facts others s r memory stores budget_is stage
    (λ known place u now memory_now stand is less there.
    tested loop scalar last u sound same (last_is u) counted there.ready
    (λ above steady. ends known place u now memory_now stand there)
    (λ fine steady.
    let not_above =
    ltb-false last (scalar_at scalar memory_now (variable_address at.context (loop.head).variable))
    fine in
    let above = is_above u now memory_now is there.ready steady in
    absurd (omega (arith, not_above, above))))
