-- An ADDRESS in memory that is counted by 1 up to a last value that is known, with the test at the end.
use Rattle.statement_laws.proofs.Prelude.{◌≡◌, ℕ, ◌+◌, ◌*◌, ◌/◌, ◌%◌, ◌<◌, ◌≤◌, nat_lt, List, [], ◌∷◌, ◌++◌, sym, ap, subst, ◌∙◌, arith, ltb-true, ltb-false, byte_at, byte_small, Address, next_turn, step_value, value, SourceState, Gave, Onward, Carry, Instr, AccumulateImmediate, Inx, Subtract, SubtractWithBorrow, Hl, A, H, L, Registers, high_byte, low_byte, word, wrap, JumpWhere, StoreHl, Place, Does, at_place, IsSteady, location_at, Facts, LabelNumber, Step, copy, high, low, distances_in, Know, effect, at_instructions, loaded_in, BodyContext, IsSoundBody}
use Rattle.treecode.specs.declared.place.Location.TheVariants as locations
use Rattle.steps8080.specs.declared.step.Step.TheVariants as steps
use Rattle.statement_laws.proofs.Loops.CountedBytes.{Goes, within_limit, strict}
use Rattle.statement_laws.proofs.Loops.CountedVariables.{IsCounted, variable_address, variable_place}
use Rattle.statement_laws.proofs.Loops.LoopCode.{Steps, jump_then, steps_over}
use Rattle.statement_laws.proofs.Loops.LoopMeaning.{scalar_at, stepped_by, stepped_with, turns_again, turns_end}
use Rattle.statement_laws.proofs.Loops.LoopTurns.{Loop, Out, Runs, StageAt, from_list, to_turn}
use Rattle.statement_laws.proofs.Loops.WordCode.{shld_then, word_is_less, word_put, with_word}

-- what is true of a loop whose variable is an ADDRESS in memory, to a last value, by 1
pub record CountsWords {at : BodyContext} (loop : Loop at) (last limit : ℕ) (turn : LabelNumber)
    (facts : Facts) : Type 0 where
  pub sound : IsSoundBody at
  pub scalar : (loop.head).scalar ≡ Address
  pub counted : IsCounted at.context (loop.head).variable Address
  pub enough : 2 ≤ loop.need
  pub last_is : (s : SourceState) → value at.context.later at.context.activation.around (loop.head).last s
      ≡ Gave last s
  pub last_small : last < 65536
  pub step_is : (s : SourceState)
      → step_value at.context.later at.context.activation.around (loop.head).step s ≡ Gave 1 s
  pub turns : Runs loop limit (at.context.activation.layout.place_of turn.index) facts (from_list loop)
  pub less : limit < loop.budget
  pub enters : (r : Registers) (memory : List ℕ)
      → r.l ≡ byte_at memory (variable_address at.context (loop.head).variable)
      → r.h ≡ byte_at memory (wrap (variable_address at.context (loop.head).variable + 1))
      → IsSteady at.context.activation (variable_address at.context (loop.head).variable)
      → IsSteady at.context.activation (wrap (variable_address at.context (loop.head).variable + 1))
      → Know at.context facts r memory

-- the comparison with the last value and the count
abbrev pub compared_and_counted : (last : ℕ) → List Instr
compared_and_counted last =
    copy A L ∷ AccumulateImmediate Subtract (low last)
    ∷ copy A H ∷ AccumulateImmediate SubtractWithBorrow (high last)
    ∷ Inx Hl ∷ []

-- the store of the new value, and the jump to the turn
abbrev pub stored_and_on : Place → LabelNumber → List Step
stored_and_on place turn = steps.Word StoreHl place ∷ steps.Jump (JumpWhere Carry) turn ∷ []

one_on_high : (h l : ℕ) → high_byte (wrap (word h l + 1)) ≡ ((l + 256 * h + 1) % 65536) / 256
one_on_high h l = ap (λ n. n % 65536 / 256) (omega arith)

one_on_low : (h l : ℕ) → low_byte (wrap (word h l + 1)) ≡ ((l + 256 * h + 1) % 65536) % 256
one_on_low h l = ap (λ n. n % 65536 % 256) (omega arith)

other_way : (h l : ℕ) → 256 * h + l ≡ l + 256 * h
other_way h l = omega arith

low_again : (low high n : ℕ) → low < 256 → low + 256 * high ≡ n → n % 256 ≡ low
low_again low high n one is = omega (arith, one, is)

high_again : (low high n : ℕ) → low < 256 → low + 256 * high ≡ n → n / 256 ≡ high
high_again low high n one is = omega (arith, one, is)

-- the variable is in HL, and counted and stored
pub counts_word :
    {at : BodyContext} (loop : Loop at) (last limit : ℕ) (turn : LabelNumber)
    (turn_facts : Facts) (place : Place)
    {facts found : Facts} {from to : ℕ} (t : SourceState) (r : Registers) (memory : List ℕ)
    → (counts : CountsWords loop last limit turn turn_facts)
    → (counts.counted).location ≡ locations.Static place
    → Steps at.context facts from
    (Rattle.steps8080.specs.internal.Step.plain (compared_and_counted last) ++ stored_and_on place turn) found to
    → t.budget ≤ limit
    → StageAt at loop.need loop.base t facts r memory
    → r.l ≡ byte_at memory (variable_address at.context (loop.head).variable)
    → r.h ≡ byte_at memory (wrap (variable_address at.context (loop.head).variable + 1))
    → IsSteady at.context.activation (variable_address at.context (loop.head).variable)
    → IsSteady at.context.activation (wrap (variable_address at.context (loop.head).variable + 1))
    → Goes loop limit found to
    → Does (loaded_in at.context) t.budget 0 (at_place from r memory t.events)
    (stepped_with loop Address 1 t) (Out loop)
counts_word {at = at} loop last limit turn turn_facts place t r memory counts lies stand fewer stage low_is
    high_is steady steady_too goes =
    let sound = counts.sound.sound in
    let counted = counts.counted in
    let variable : ℕ = (loop.head).variable in
    let address : ℕ = variable_address at.context variable in
    let held = stage.ready.registers in
    let low_small : r.l < 256 = held.l in
    let high_small : r.h < 256 = held.h in
    let size = stage.ready.shares.is_memory.size in
    let number : ℕ = scalar_at Address memory address in
    let number_is : r.l + 256 * r.h ≡ number =
    ap (λ (n : ℕ). n + 256 * r.h) low_is ∙ ap (λ (n : ℕ). byte_at memory address + 256 * n) high_is in
    let new : ℕ = (number + 1) % 65536 in
    let after : Registers = effect (compared_and_counted last) r in
    let is_less : after.flags.cy ≡ nat_lt number last =
    word_is_less r.h r.l last low_small counts.last_small
    ∙ ap (λ (n : ℕ). nat_lt n last) (other_way r.h r.l ∙ number_is) in
    let h_is : after.h ≡ new / 256 =
    one_on_high r.h r.l ∙ ap (λ (n : ℕ). ((n + 1) % 65536) / 256) number_is in
    let l_is : after.l ≡ new % 256 = one_on_low r.h r.l ∙ ap (λ (n : ℕ). ((n + 1) % 65536) % 256) number_is in
    stepped_by loop Address 1 t counts.sound counted stage.ready
    (λ steady_both.
    at_instructions (compared_and_counted last) (stored_and_on place turn) sound
    (tt, (tt, (tt, (tt, (tt, tt))))) stand stage
    (λ middle known steps_left compared.
    shld_then place (variable_place at.context variable) new
    (λ _ v. next_turn at.context.later at.context.activation.around loop.head loop.list (number + 1) v)
    sound (omega arith) h_is l_is
    (counted.is_there ∙ ap (location_at at.context.activation (distances_in at.context)) lies)
    counted.fits steps_left compared
    (λ u budget_is there there_too last_steps ready_now.
    let left : List ℕ = with_word memory address new in
    let is_put : scalar_at Address left address ≡ new =
    word_put memory address new size there.1 there_too.1 in
    let left_low : byte_at left address < 256 = byte_small left address ready_now.ready.shares.is_memory in
    let now_low : after.l ≡ byte_at left address =
    l_is ∙ low_again (byte_at left address) (byte_at left (wrap (address + 1))) new left_low is_put in
    let now_high : after.h ≡ byte_at left (wrap (address + 1)) =
    h_is ∙ high_again (byte_at left address) (byte_at left (wrap (address + 1))) new left_low is_put in
    jump_then sound last_steps ready_now
    (λ taken step.
    let is = ltb-true number last (sym is_less ∙ taken) in
    let last_small = counts.last_small in
    turns_again loop Address last (number + 1) u counts.sound counts.scalar (counts.last_is u)
    counted ready_now.ready
    (strict u.budget t.budget limit loop.budget budget_is fewer counts.less) is_put
    (omega (arith, is, last_small)) (omega (arith, is))
    (to_turn loop limit (at.context.activation.layout.place_of turn.index) turn_facts u (middle + 3)
    after left counts.turns
    (within_limit u.budget t.budget limit budget_is fewer)
    (record {
      below = ready_now.below;
      room = ready_now.room;
      ready = ready_now.ready;
      known = counts.enters after left now_low now_high steady steady_too;
    })
    step))
    (λ passed rest.
    let is = ltb-false number last (sym is_less ∙ passed) in
    let over = steps_over rest in
    turns_end loop Address last (number + 1) u counts.sound counts.scalar (counts.last_is u)
    counted ready_now.ready
    (strict u.budget t.budget limit loop.budget budget_is fewer counts.less) is_put
    (λ of_type. omega (arith, is))
    (subst (λ (place : ℕ). Does (loaded_in at.context) u.budget 0 (at_place place after left u.events)
    (Gave Onward u) (Out loop)) (sym over.1)
    (goes u after left (within_limit u.budget t.budget limit budget_is fewer)
    (subst (λ (facts : Facts). StageAt at loop.need loop.base u facts after left) over.0 ready_now)))))))
