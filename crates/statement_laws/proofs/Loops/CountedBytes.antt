-- A BYTE that is counted by 1 up to a last value that is known, with the test at the end.
use Rattle.statement_laws.proofs.Prelude.{◌≡◌, ℕ, ◌+◌, ◌%◌, ◌<◌, ◌≤◌, ◌==◌, true, false, not, nat_lt, List, [], ◌∷◌, slice_set, refl, sym, ap, subst, ◌∙◌, arith, ltb-true, ltb-false, eqb-true, eqb-false, byte_at, Byte, step_value, value, SourceState, Outcome, Gave, then_do, Onward, Carry, NotZero, AccumulateImmediate, Inr, M, Compare, increment_of, subtract_of, Registers, word, JumpWhere, byte_put, Does, at_place, borrow_shows, count_shows, Facts, LabelNumber, Step, load, low, Know, at_instructions, does_same, loaded_in, BodyContext, IsSoundBody, not-false, not-true}
use Rattle.isa8080.specs.declared.instr.Register.TheVariants as registers
use Rattle.steps8080.specs.declared.step.Step.TheVariants as steps
use Rattle.statement_laws.proofs.Loops.CountedVariables.{IsCounted, variable_address, variable_place}
use Rattle.statement_laws.proofs.Loops.LoopCode.{Steps, address_step, address_then, byte_then, jump_then, load_then}
use Rattle.statement_laws.proofs.Loops.LoopMeaning.{stepped_by, stepped_with_is, turns_again, turns_end}
use Rattle.statement_laws.proofs.Loops.LoopTurns.{Loop, Out, Runs, StageAt, after_list, from_list, to_turn}

-- what is true of a loop whose variable is a BYTE, to a last value, by 1
pub record CountsBytes {at : BodyContext} (loop : Loop at) (last limit : ℕ) (turn : LabelNumber)
    (facts : Facts) : Type 0 where
  pub sound : IsSoundBody at
  pub scalar : (loop.head).scalar ≡ Byte
  pub counted : IsCounted at.context (loop.head).variable Byte
  pub enough : 2 ≤ loop.need
  pub last_is : (s : SourceState) → value at.context.later at.context.activation.around (loop.head).last s
      ≡ Gave last s
  pub step_is : (s : SourceState)
      → step_value at.context.later at.context.activation.around (loop.head).step s ≡ Gave 1 s
  pub turns : Runs loop limit (at.context.activation.layout.place_of turn.index) facts (from_list loop)
  pub less : limit < loop.budget
  pub enters : (r : Registers) (memory : List ℕ)
      → word r.h r.l ≡ variable_address at.context (loop.head).variable
      → Know at.context facts r memory

-- what comes after the last jump
abbrev pub Goes :
    {at : BodyContext} → Loop at → (limit : ℕ) → Facts → (place : ℕ) → Type 0
Goes {at = at} loop limit facts place =
    (u : SourceState) (now : Registers) (memory_now : List ℕ)
    → u.budget ≤ limit
    → StageAt at loop.need loop.base u facts now memory_now
    → Does (loaded_in at.context) u.budget 0 (at_place place now memory_now u.events)
    (Gave Onward u) (Out loop)

pub one_more_now : (n : ℕ) → (n + 1) % 256 ≡ (n + 1) % 256 % 256
one_more_now n = omega arith

-- INR M, and a jump to the turn
abbrev pub count_to_top : LabelNumber → List Step
count_to_top turn = steps.Plain (Inr M) ∷ steps.Jump (JumpWhere NotZero) turn ∷ []

-- CPI of the last value before it
abbrev pub count_to : (last : ℕ) → LabelNumber → List Step
count_to last turn =
    steps.Plain (load registers.A) ∷ steps.Plain (AccumulateImmediate Compare (low last))
    ∷ steps.Plain (Inr M)
    ∷ steps.Jump (JumpWhere Carry) turn ∷ []

pub within_limit : (n budget limit : ℕ) → n ≡ budget → budget ≤ limit → n ≤ limit
within_limit n budget limit same less = omega (arith, same, less)

pub strict : (n budget limit most : ℕ) → n ≡ budget → budget ≤ limit → limit < most → n < most
strict n budget limit most same less more = omega (arith, same, less, more)

-- to 255, or more
pub counts_to_top :
    {at : BodyContext} (loop : Loop at) (last limit : ℕ) (turn : LabelNumber) (turn_facts : Facts)
    {facts found : Facts}
    {from to : ℕ} (t : SourceState) (r : Registers) (memory : List ℕ)
    → CountsBytes loop last limit turn turn_facts
    → 255 ≤ last
    → Steps at.context facts from (address_step (loop.head).variable ∷ count_to_top turn) found to
    → t.budget ≤ limit
    → StageAt at loop.need loop.base t facts r memory
    → Goes loop limit found to
    → Does (loaded_in at.context) t.budget 0 (at_place from r memory t.events)
    (after_list loop Onward t) (Out loop)
counts_to_top {at = at} loop last limit turn turn_facts t r memory counts great stand fewer stage goes =
    let sound = counts.sound.sound in
    let counted = counts.counted in
    let variable : ℕ = (loop.head).variable in
    let address : ℕ = variable_address at.context variable in
    does_same _
    (stepped_with_is loop Byte t counts.scalar
    ∙ ap (λ (one : Outcome ℕ). then_do one
    (Rattle.statement_laws.proofs.Loops.LoopMeaning.stepped_with loop Byte)) (counts.step_is t))
    (address_then counted counts.enough stand stage
    (λ known middle now there rest holds here.
    let number : ℕ = byte_at there address in
    let byte : ℕ = (number + 1) % 256 % 256 in
    let held = here.ready.registers in
    let limit_is = here.ready.shares.is_memory.size in
    let small : number < 256 =
    Rattle.mem80.proofs.MemoryLemmas.byte_small there address here.ready.shares.is_memory in
    let flags = (increment_of (byte_at there (word now.h now.l)) now.flags).flags in
    let after : Registers = record now { flags = flags } in
    let is_zero : flags.z ≡ (number == 255) =
    ap (λ (n : ℕ). (increment_of n now.flags).flags.z) (ap (byte_at there) holds.hl)
    ∙ count_shows number now.flags small in
    stepped_by loop Byte 1 t counts.sound counted here.ready
    (λ steady.
    byte_then (variable_place at.context variable) byte after
    (λ _ v. Rattle.meaning.specs.Meaning.next_turn at.context.later at.context.activation.around loop.head
    loop.list (number + 1) v)
    sound (omega arith) holds.hl counted.fits rest here refl
    (record { a = held.a; b = held.b; c = held.c; d = held.d; e = held.e; h = held.h; l = held.l })
    (λ steady_there. tt)
    (λ events. ap (λ (n : ℕ). at_place (middle + 1) after (slice_set there (word now.h now.l) n) events)
    (ap (λ (n : ℕ). (byte_at there n + 1) % 256) holds.hl ∙ one_more_now number))
    (λ u budget_is steady_there last_steps ready_now.
    let left : List ℕ = slice_set there (word now.h now.l) byte in
    let is_put : byte_at left address ≡ (number + 1) % 256 =
    ap (byte_at left) (sym holds.hl)
    ∙ byte_put there (word now.h now.l) byte (let below = steady_there.1 in omega (arith, below, limit_is))
    ∙ sym (one_more_now number) in
    jump_then sound last_steps ready_now
    (λ taken step.
    let differ : (number == 255) ≡ false = not-true (number == 255) (ap not (sym is_zero) ∙ taken) in
    let is_not = eqb-false number 255 differ in
    turns_again loop Byte last (number + 1) u counts.sound counts.scalar (counts.last_is u)
    counted ready_now.ready
    (strict u.budget t.budget limit loop.budget budget_is fewer counts.less) is_put
    (omega (arith, small, is_not)) (omega (arith, small, is_not, great))
    (to_turn loop limit (at.context.activation.layout.place_of turn.index) turn_facts u (middle + 1)
    after left counts.turns
    (within_limit u.budget t.budget limit budget_is fewer)
    (record { below = ready_now.below; room = ready_now.room; ready = ready_now.ready; known = counts.enters after left holds.hl })
    step))
    (λ passed rest.
    let same : (number == 255) ≡ true = not-false (number == 255) (ap not (sym is_zero) ∙ passed) in
    let is = eqb-true number 255 same in
    let over = Rattle.statement_laws.proofs.Loops.LoopCode.steps_over rest in
    turns_end loop Byte last (number + 1) u counts.sound counts.scalar (counts.last_is u)
    counted ready_now.ready
    (strict u.budget t.budget limit loop.budget budget_is fewer counts.less) is_put
    (λ of_type. absurd (omega (arith, is, of_type)))
    (subst (λ (place : ℕ). Does (loaded_in at.context) u.budget 0 (at_place place after left u.events)
    (Gave Onward u) (Out loop)) (sym over.1)
    (goes u after left (within_limit u.budget t.budget limit budget_is fewer)
    (subst (λ (facts : Facts). StageAt at loop.need loop.base u facts after left) over.0 ready_now))))))))

-- to less than 255
pub counts_to :
    {at : BodyContext} (loop : Loop at) (last limit : ℕ) (turn : LabelNumber) (turn_facts : Facts)
    {facts found : Facts}
    {from to : ℕ} (t : SourceState) (r : Registers) (memory : List ℕ)
    → CountsBytes loop last limit turn turn_facts
    → last < 255
    → Steps at.context facts from (address_step (loop.head).variable ∷ count_to last turn) found to
    → t.budget ≤ limit
    → StageAt at loop.need loop.base t facts r memory
    → Goes loop limit found to
    → Does (loaded_in at.context) t.budget 0 (at_place from r memory t.events)
    (after_list loop Onward t) (Out loop)
counts_to {at = at} loop last limit turn turn_facts t r memory counts little stand fewer stage goes =
    let sound = counts.sound.sound in
    let counted = counts.counted in
    let variable : ℕ = (loop.head).variable in
    let address : ℕ = variable_address at.context variable in
    does_same _
    (stepped_with_is loop Byte t counts.scalar
    ∙ ap (λ (one : Outcome ℕ). then_do one
    (Rattle.statement_laws.proofs.Loops.LoopMeaning.stepped_with loop Byte)) (counts.step_is t))
    (address_then counted counts.enough stand stage
    (λ known middle now there rest holds here.
    let number : ℕ = byte_at there address in
    let byte : ℕ = (number + 1) % 256 % 256 in
    let limit_is = here.ready.shares.is_memory.size in
    let small : number < 256 =
    Rattle.mem80.proofs.MemoryLemmas.byte_small there address here.ready.shares.is_memory in
    stepped_by loop Byte 1 t counts.sound counted here.ready
    (λ steady.
    load_then address sound holds.hl steady rest here
    (λ known_loaded place steps_left loaded.
    at_instructions (AccumulateImmediate Compare (low last) ∷ [])
    (steps.Plain (Inr M) ∷ steps.Jump (JumpWhere Carry) turn ∷ []) sound (tt, tt) steps_left loaded
    (λ place_compared known_compared steps_compared compared.
    let one : Registers = record now { a = number; flags = (subtract_of number (low last) false).flags } in
    let flags = (increment_of (byte_at there (word now.h now.l)) one.flags).flags in
    let after : Registers = record one { flags = flags } in
    let held = compared.ready.registers in
    let is_less : flags.cy ≡ nat_lt number last =
    borrow_shows number (low last) (omega arith) ∙ ap (nat_lt number) (low_is last little) in
    byte_then (variable_place at.context variable) byte after
    (λ _ v. Rattle.meaning.specs.Meaning.next_turn at.context.later at.context.activation.around loop.head
    loop.list (number + 1) v)
    sound (omega arith) holds.hl counted.fits steps_compared compared refl
    (record { a = held.a; b = held.b; c = held.c; d = held.d; e = held.e; h = held.h; l = held.l })
    (λ steady_there. tt)
    (λ events. ap (λ (n : ℕ). at_place (place_compared + 1) after
    (slice_set there (word now.h now.l) n) events)
    (ap (λ (n : ℕ). (byte_at there n + 1) % 256) holds.hl ∙ one_more_now number))
    (λ u budget_is steady_there last_steps ready_now.
    let left : List ℕ = slice_set there (word now.h now.l) byte in
    let is_put : byte_at left address ≡ (number + 1) % 256 =
    ap (byte_at left) (sym holds.hl)
    ∙ byte_put there (word now.h now.l) byte (let below = steady_there.1 in omega (arith, below, limit_is))
    ∙ sym (one_more_now number) in
    jump_then sound last_steps ready_now
    (λ taken step.
    let is = ltb-true number last (sym is_less ∙ taken) in
    turns_again loop Byte last (number + 1) u counts.sound counts.scalar (counts.last_is u)
    counted ready_now.ready
    (strict u.budget t.budget limit loop.budget budget_is fewer counts.less) is_put
    (omega (arith, is, little)) (omega (arith, is))
    (to_turn loop limit (at.context.activation.layout.place_of turn.index) turn_facts u (place_compared + 1)
    after left counts.turns
    (within_limit u.budget t.budget limit budget_is fewer)
    (record { below = ready_now.below; room = ready_now.room; ready = ready_now.ready; known = counts.enters after left holds.hl })
    step))
    (λ passed rest.
    let is = ltb-false number last (sym is_less ∙ passed) in
    let over = Rattle.statement_laws.proofs.Loops.LoopCode.steps_over rest in
    turns_end loop Byte last (number + 1) u counts.sound counts.scalar (counts.last_is u)
    counted ready_now.ready
    (strict u.budget t.budget limit loop.budget budget_is fewer counts.less) is_put
    (λ of_type. omega (arith, is))
    (subst (λ (place : ℕ). Does (loaded_in at.context) u.budget 0 (at_place place after left u.events)
    (Gave Onward u) (Out loop)) (sym over.1)
    (goes u after left (within_limit u.budget t.budget limit budget_is fewer)
    (subst (λ (facts : Facts). StageAt at loop.need loop.base u facts after left) over.0 ready_now))))))))))
  where
    low_is : (n : ℕ) → n < 255 → n % 256 ≡ n
    low_is n less = omega (arith, less)
