-- A BYTE is tested before the first turn of a loop to a known value.
use Rattle.statement_laws.proofs.Prelude.{◌≡◌, ℕ, ◌+◌, ◌*◌, ◌/◌, ◌%◌, ◌<◌, ◌≤◌, Bool, true, false, nat_lt, if◌then◌else◌, List, [], ◌∷◌, ◌++◌, refl, sym, ap, ◌∙◌, arith, ltb-true, ltb-false, byte_at, ScalarType, Byte, Address, read_scalar, SourceState, Outcome, Gave, then_do, taking_one, Onward, NoCarry, AccumulateImmediate, Compare, Subtract, SubtractWithBorrow, Registers, holds, wrap, AtLabel, JumpWhere, Does, at_place, word_step, after_step, borrow_shows, Facts, LabelNumber, Step, no_facts, copy, high, low, plain, Instr, A, H, L, load_byte_steps, load_word_steps, knowing, whole, JumpThere, NoneThere, Know, AreOnRegisters, effect, at_instructions, does_same, loaded_in, script_of, BodyContext, IsSoundBody, not-false, not-true}
use Rattle.steps8080.specs.declared.step.Step.TheVariants as steps
use Rattle.statement_laws.proofs.Loops.CountedVariables.{IsCounted, variable_address, variable_place}
use Rattle.statement_laws.proofs.Loops.KnownLoops.{ToKnown}
use Rattle.statement_laws.proofs.Cases.CaseForms.{high_is_less}
use Rattle.statement_laws.proofs.Loops.WordCode.{word_is_less}
use Rattle.statement_laws.proofs.Loops.LoadedVariables.{byte_loaded, word_loaded}
use Rattle.statement_laws.proofs.Loops.LoopCode.{Steps, knowing_nothing}
use Rattle.statement_laws.proofs.Loops.LoopMeaning.{scalar_at, tested}
use Rattle.statement_laws.proofs.Loops.LoopTurns.{Loop, Out, Runs, StageAt, from_list, from_test, to_turn}
use Rattle.statement_laws.proofs.Loops.SteadyReads.{steady_byte_read, steady_read}

-- the comparison with the number after the last value, and the jump to the end
abbrev pub first_test : (last : ℕ) → LabelNumber → List Step
first_test last end =
    steps.Plain (AccumulateImmediate Compare (low (last + 1))) ∷ steps.Jump (JumpWhere NoCarry) end ∷ []

pub low_is : (n : ℕ) → n < 255 → (n + 1) % 256 ≡ n + 1
low_is n less = omega (arith, less)

-- what the jump of the test comes to
jump_tests :
    {at : BodyContext} (loop : Loop at) (scalar : ScalarType) (last from place : ℕ) (end : LabelNumber)
    (turn_facts : Facts) {facts found : Facts}
    (u : SourceState) (r : Registers) (memory : List ℕ)
    → IsSoundBody at
    → ToKnown loop scalar last
    → IsCounted at.context (loop.head).variable scalar
    → r.flags.cy ≡ nat_lt (scalar_at scalar memory (variable_address at.context (loop.head).variable))
    (last + 1)
    → Steps at.context facts from (steps.Jump (JumpWhere NoCarry) end ∷ []) found place
    → u.budget ≤ loop.budget
    → StageAt at loop.need loop.base u facts r memory
    → Runs loop loop.budget place turn_facts (from_list loop)
    → ((now : Registers) (memory_now : List ℕ) → Know at.context found now memory_now
    → Know at.context turn_facts now memory_now)
    → at.context.activation.layout.place_of end.index ≡ loop.to
    → ((now : Registers) (memory_now : List ℕ)
    → StageAt at loop.need loop.base u no_facts now memory_now
    → Does (loaded_in at.context) u.budget 0 (at_place loop.to now memory_now u.events)
    (Gave Onward u) (Out loop))
    → Does (loaded_in at.context) u.budget 0 (at_place from r memory u.events) (from_test loop u) (Out loop)
jump_tests {at = at} loop scalar last from _ end turn_facts {facts = facts} u r memory sound to_known counted
    flag (JumpThere there NoneThere) fewer stage turns enters end_is ends =
    by (holds NoCarry r.flags) refl
  where
    step : (jumps : Bool) → holds NoCarry r.flags ≡ jumps
        → Rattle.isa8080.specs.Step.step_of (script_of at.context) (at_place from r memory u.events)
        ≡ (if jumps then at_place (at.context.activation.layout.place_of end.index) r memory
        u.events else at_place (from + 3) r memory u.events)
    step jumps is =
        word_step (script_of at.context) at.context.activation (JumpWhere NoCarry) (AtLabel end.index) [] from
        (from + 3) r memory u.events
        sound.sound.lies stage.ready.shares.code there
        ∙ ap (λ b. if b then at_place (at.context.activation.layout.place_of end.index) r memory u.events
        else at_place (from + 3) r memory u.events) is

    number : ℕ
    number = scalar_at scalar memory (variable_address at.context (loop.head).variable)

    by : (jumps : Bool) → holds NoCarry r.flags ≡ jumps
        → Does (loaded_in at.context) u.budget 0 (at_place from r memory u.events)
        (from_test loop u) (Out loop)
    by true is =
        let past = ltb-false number (last + 1) (sym flag ∙ not-true r.flags.cy is) in
        tested loop scalar last u sound to_known.scalar_is (to_known.last_is u) counted stage.ready
        (λ above steady.
        after_step (step true is ∙ ap (λ (n : ℕ). at_place n r memory u.events) end_is)
        (ends r memory (knowing_nothing stage)))
        (λ fine steady. let not_above = ltb-false last number fine in absurd (omega (arith, past, not_above)))
    by false is =
        let less = ltb-true number (last + 1) (sym flag ∙ not-false r.flags.cy is) in
        tested loop scalar last u sound to_known.scalar_is (to_known.last_is u) counted stage.ready
        (λ above steady. let is_above = ltb-true last number above in absurd (omega (arith, less, is_above)))
        (λ fine steady.
        to_turn loop loop.budget (from + 3) turn_facts u from r memory turns fewer
        (record { below = stage.below; room = stage.room; ready = stage.ready; known = enters r memory stage.known })
        (step false is))

-- the test of a BYTE to less than 255: the step that passes the jump pays for the first turn
pub byte_tested :
    {at : BodyContext} (loop : Loop at) (last place : ℕ) (end : LabelNumber) (turn_facts : Facts)
    {facts loaded found : Facts} {from middle : ℕ} (u : SourceState) (r : Registers) (memory : List ℕ)
    → IsSoundBody at
    → ToKnown loop Byte last
    → IsCounted at.context (loop.head).variable Byte
    → 2 ≤ loop.need
    → last < 255
    → Steps at.context facts from
    (load_byte_steps (knowing at.context.site facts) (whole (loop.head).variable)) loaded middle
    → Steps at.context loaded middle (first_test last end) found place
    → u.budget ≤ loop.budget
    → StageAt at loop.need loop.base u facts r memory
    → Runs loop loop.budget place turn_facts (from_list loop)
    → ((now : Registers) (memory_now : List ℕ) → Know at.context found now memory_now
    → Know at.context turn_facts now memory_now)
    → at.context.activation.layout.place_of end.index ≡ loop.to
    → ((now : Registers) (memory_now : List ℕ)
    → StageAt at loop.need loop.base u no_facts now memory_now
    → Does (loaded_in at.context) u.budget 0 (at_place loop.to now memory_now u.events)
    (Gave Onward u) (Out loop))
    → Does (loaded_in at.context) u.budget 0 (at_place from r memory u.events) (from_test loop u) (Out loop)
byte_tested {at = at} loop last place end turn_facts u r memory sound to_known counted enough little loads
    stand fewer stage turns enters end_is ends =
    does_same _ reads
    (steady_byte_read (variable_place at.context (loop.head).variable) u
    (λ number v. if nat_lt last number then Gave Onward v else taking_one v (from_list loop))
    sound.sound counted.fits
    (λ steady.
    does_same (from_test loop u) (sym reads)
    (byte_loaded sound.sound counted enough loads stage steady
    (λ now memory_now a there.
    at_instructions (AccumulateImmediate Compare (low (last + 1)) ∷ [])
    (steps.Jump (JumpWhere NoCarry) end ∷ []) sound.sound (tt, tt) stand there
    (λ place_compared known rest compared.
    jump_tests loop Byte last place_compared place end turn_facts u
    (effect (AccumulateImmediate Compare (low (last + 1)) ∷ []) now) memory_now
    sound to_known counted
    (borrow_shows now.a (low (last + 1)) (omega arith) ∙ ap (nat_lt now.a) (low_is last little)
    ∙ ap (λ (n : ℕ). nat_lt n (last + 1)) a)
    rest fewer compared turns enters end_is ends)))))
  where
    reads : from_test loop u
        ≡ then_do
        (read_scalar at.context.activation.around.program Byte
        (variable_place at.context (loop.head).variable) u)
        (λ number v. if nat_lt last number then Gave Onward v else taking_one v (from_list loop))
    reads =
        ap (λ (one : Outcome ℕ). then_do one
        (λ last t. then_do (read_scalar at.context.activation.around.program (loop.head).scalar
        (variable_place at.context (loop.head).variable) t)
        (λ number v. if nat_lt last number then Gave Onward v else taking_one v (from_list loop))))
        (to_known.last_is u)
        ∙ ap (λ (scalar : ScalarType). then_do
        (read_scalar at.context.activation.around.program scalar
        (variable_place at.context (loop.head).variable) u)
        (λ number v. if nat_lt last number then Gave Onward v else taking_one v (from_list loop)))
        to_known.scalar_is

-- the comparison of an ADDRESS with the number after the last value, by its low byte
abbrev pub word_test : (last : ℕ) → (has_no_low_byte : Bool) → List Instr
word_test last true = copy A H ∷ AccumulateImmediate Compare (high (last + 1)) ∷ []
word_test last false =
    copy A L ∷ AccumulateImmediate Subtract (low (last + 1))
    ∷ copy A H ∷ AccumulateImmediate SubtractWithBorrow (high (last + 1)) ∷ []

pub on_registers : (last : ℕ) (none : Bool) → AreOnRegisters (word_test last none)
on_registers last true = (tt, (tt, tt))
on_registers last false = (tt, (tt, (tt, (tt, tt))))

pub word_test_shows : (last : ℕ) (none : Bool) (r : Registers)
    → r.l < 256
    → last + 1 < 65536
    → (none ≡ true → (last + 1) % 256 ≡ 0)
    → (effect (word_test last none) r).flags.cy ≡ nat_lt (256 * r.h + r.l) (last + 1)
word_test_shows last true r low small is =
    borrow_shows r.h ((last + 1) / 256) (omega (arith, small))
    ∙ high_is_less r.h r.l (last + 1) low small (is refl)
word_test_shows last false r low small is = word_is_less r.h r.l (last + 1) low small

pub other_way : (h l low high : ℕ) → l ≡ low → h ≡ high → 256 * h + l ≡ low + 256 * high
other_way h l low high one two = omega (arith, one, two)

-- the test of an ADDRESS to less than 65535
pub word_tested :
    {at : BodyContext} (loop : Loop at) (last place : ℕ) (end : LabelNumber)
    (turn_facts : Facts) (none : Bool)
    {facts loaded found : Facts} {from middle : ℕ} (u : SourceState) (r : Registers) (memory : List ℕ)
    → IsSoundBody at
    → ToKnown loop Address last
    → IsCounted at.context (loop.head).variable Address
    → 2 ≤ loop.need
    → last + 1 < 65536
    → (none ≡ true → (last + 1) % 256 ≡ 0)
    → Steps at.context facts from
    (load_word_steps (knowing at.context.site facts) (whole (loop.head).variable)) loaded middle
    → Steps at.context loaded middle
    (plain (word_test last none) ++ (steps.Jump (JumpWhere NoCarry) end ∷ [])) found place
    → u.budget ≤ loop.budget
    → StageAt at loop.need loop.base u facts r memory
    → Runs loop loop.budget place turn_facts (from_list loop)
    → ((now : Registers) (memory_now : List ℕ) → Know at.context found now memory_now
    → Know at.context turn_facts now memory_now)
    → at.context.activation.layout.place_of end.index ≡ loop.to
    → ((now : Registers) (memory_now : List ℕ)
    → StageAt at loop.need loop.base u no_facts now memory_now
    → Does (loaded_in at.context) u.budget 0 (at_place loop.to now memory_now u.events)
    (Gave Onward u) (Out loop))
    → Does (loaded_in at.context) u.budget 0 (at_place from r memory u.events) (from_test loop u) (Out loop)
word_tested {at = at} loop last place end turn_facts none u r memory sound to_known counted enough little
    low_none loads stand fewer stage turns enters end_is ends =
    does_same _ reads
    (steady_read (variable_place at.context (loop.head).variable) u
    (λ number v. if nat_lt last number then Gave Onward v else taking_one v (from_list loop))
    sound.sound counted.fits
    (λ steady.
    does_same (from_test loop u) (sym reads)
    (word_loaded sound.sound counted enough loads stage steady.0 steady.1
    (λ now memory_now in_hl there.
    at_instructions (word_test last none) (steps.Jump (JumpWhere NoCarry) end ∷ []) sound.sound
    (on_registers last none) stand there
    (λ place_compared known rest compared.
    jump_tests loop Address last place_compared place end turn_facts u
    (effect (word_test last none) now) memory_now
    sound to_known counted
    (word_test_shows last none now there.ready.registers.l little low_none
    ∙ ap (λ (n : ℕ). nat_lt n (last + 1))
    (other_way now.h now.l (byte_at memory_now (variable_address at.context (loop.head).variable))
    (byte_at memory_now (wrap (variable_address at.context (loop.head).variable + 1))) in_hl.low in_hl.high))
    rest fewer compared turns enters end_is ends)))))
  where
    reads : from_test loop u
        ≡ then_do
        (read_scalar at.context.activation.around.program Address
        (variable_place at.context (loop.head).variable) u)
        (λ number v. if nat_lt last number then Gave Onward v else taking_one v (from_list loop))
    reads =
        ap (λ (one : Outcome ℕ). then_do one
        (λ last t. then_do (read_scalar at.context.activation.around.program (loop.head).scalar
        (variable_place at.context (loop.head).variable) t)
        (λ number v. if nat_lt last number then Gave Onward v else taking_one v (from_list loop))))
        (to_known.last_is u)
        ∙ ap (λ (scalar : ScalarType). then_do
        (read_scalar at.context.activation.around.program scalar
        (variable_place at.context (loop.head).variable) u)
        (λ number v. if nat_lt last number then Gave Onward v else taking_one v (from_list loop)))
        to_known.scalar_is
