-- The test of an iterative DO in general, by its form: the last value against the variable.
use Rattle.statement_laws.proofs.Prelude.{◌≡◌, ℕ, ◌+◌, ◌*◌, ◌/◌, ◌%◌, ◌<◌, ◌≤◌, Bool, true, false, not, nat_lt, if◌then◌else◌, List, [], ◌∷◌, ◌++◌, Some, refl, ap, ◌∙◌, arith, ltb-true, byte_at, byte_small, ScalarType, Byte, Address, height_of, type_of, TypesHold, value, SourceState, Outcome, Gave, then_do, taking_one, Onward, values_of, Carry, NoCarry, Accumulate, AccumulateImmediate, Inx, Xchg, M, Compare, Subtract, SubtractWithBorrow, Hl, A, D, E, H, L, Registers, wrap, Jump, JumpWhere, ExpressionNumber, IsExpressionIn, Does, at_place, borrow_shows, Facts, LabelNumber, Step, no_facts, copy, high, low, with_register, plain, load_byte_steps, load_word_steps, knowing, whole, nodes_in, Know, effect, at_instructions, does_same, loaded_in, at_end, BodyContext, next_word}
use Rattle.steps8080.specs.declared.step.Step.TheVariants as steps
use Rattle.steps8080.specs.declared.step.Task.TheVariants as tasks
use Rattle.statement_laws.proofs.Loops.CountedBytes.{Goes}
use Rattle.statement_laws.proofs.Loops.CountedVariables.{variable_address, variable_place}
use Rattle.statement_laws.proofs.Loops.LoadedVariables.{byte_loaded, word_loaded}
use Rattle.statement_laws.proofs.Loops.LoopCode.{Steps, address_step, address_then, jump_always, knowing_nothing}
use Rattle.statement_laws.proofs.Loops.LoopMeaning.{counted_read, scalar_at, scalar_small}
use Rattle.statement_laws.proofs.Loops.LoopRules.{HasTurns, address_of_variable_known, after_last, byte_comes, byte_known, from_test_is, if_not_above, not_above, operate_then, operated, pair_is_less, place_known, test_jumps, word_comes}
use Rattle.statement_laws.proofs.Loops.LoopTurns.{Loop, Out, StageAt, from_list, from_test, to_turn}
use Rattle.statement_laws.proofs.Loops.SteadyReads.{steady_byte_read, steady_read}
use Rattle.statement_laws.proofs.Loops.TestedLoops.{word_test, low_is, on_registers, other_way, word_test_shows}
use Rattle.statement_laws.proofs.Numbers.{byte_is_small, whole_of_halves}

-- the last value of a loop, as its code has it
pub record HasLast {at : BodyContext} (loop : Loop at) (last : ExpressionNumber) : Type 0 where
  pub is : IsExpressionIn (nodes_in at.context) at.context.storage last (loop.head).last
  pub types : TypesHold at.context.typed at.context.within (loop.head).last
  pub fits : 2 * height_of (loop.head).last ≤ loop.need

-- what is known where a turn begins follows from this
abbrev pub Enters : BodyContext → (facts turn_facts : Facts) → Type 0
Enters at facts turn_facts =
    (r : Registers) (memory : List ℕ) → Know at.context facts r memory → Know at.context turn_facts r memory

never_above : (scalar : ScalarType) (n last : ℕ) → n < values_of scalar
    → values_of scalar ≤ last + 1 → last < n → ⊥
never_above scalar n last small great above = omega (arith, small, great, above)

-- where no value of the type is above the last one, there is another turn
pub always_tests :
    {at : BodyContext} (loop : Loop at) (limit last : ℕ) (turn : LabelNumber) (turn_facts : Facts)
    (scalar : ScalarType)
    {facts found : Facts} {from to : ℕ} (t : SourceState) (r : Registers) (memory : List ℕ)
    → HasTurns loop scalar limit turn turn_facts
    → value at.context.later at.context.activation.around (loop.head).last t ≡ Gave last t
    → values_of scalar ≤ last + 1
    → Steps at.context facts from (steps.Jump Jump turn ∷ []) found to
    → Enters at no_facts turn_facts
    → t.budget ≤ limit
    → StageAt at loop.need loop.base t facts r memory
    → Does (loaded_in at.context) t.budget 0 (at_place from r memory t.events) (from_test loop t) (Out loop)
always_tests {at = at} loop limit last turn turn_facts scalar {from = from} t r memory turns last_is great
    stand enters fewer stage =
    does_same _
    (from_test_is loop scalar t turns.scalar_is
    ∙ ap (λ (one : Outcome ℕ). then_do one (after_last loop scalar)) last_is)
    (counted_read scalar t (if_not_above loop last) turns.sound.sound turns.counted stage.ready
    (λ steady. by (nat_lt last number) refl))
  where
    number : ℕ
    number = scalar_at scalar memory (variable_address at.context (loop.head).variable)

    by : (above : Bool) → nat_lt last number ≡ above
        → Does (loaded_in at.context) t.budget 0 (at_place from r memory t.events)
        (if above then Gave Onward t else taking_one t (from_list loop)) (Out loop)
    by true is =
        absurd (never_above scalar number last
        (scalar_small scalar memory (variable_address at.context (loop.head).variable)
        stage.ready.shares.is_memory) great
        (ltb-true last number is))
    by false is =
        let jumps = jump_always turns.sound.sound stand stage in
        to_turn loop limit (at.context.activation.layout.place_of turn.index) turn_facts t from r
        memory turns.turns fewer
        (record {
          below = stage.below;
          room = stage.room;
          ready = stage.ready;
          known = enters r memory (knowing_nothing stage).known;
        })
        jumps.0

-- a BYTE is less than a number
pub byte_below_tests :
    {at : BodyContext} (loop : Loop at) (limit last : ℕ) (turn : LabelNumber) (turn_facts : Facts)
    {facts loaded found : Facts} {from middle to : ℕ} (t : SourceState) (r : Registers) (memory : List ℕ)
    → (turns : HasTurns loop Byte limit turn turn_facts)
    → value at.context.later at.context.activation.around (loop.head).last t ≡ Gave last t
    → last < 255
    → Steps at.context facts from
    (load_byte_steps (knowing at.context.site facts) (whole (loop.head).variable)) loaded middle
    → Steps at.context loaded middle
    (steps.Plain (AccumulateImmediate Compare (low (last + 1))) ∷ steps.Jump (JumpWhere Carry) turn ∷ [])
    found to
    → Enters at (record no_facts { byte_in_a = Some (turns.counted).location }) turn_facts
    → t.budget ≤ limit
    → StageAt at loop.need loop.base t facts r memory
    → Goes loop limit found to
    → Does (loaded_in at.context) t.budget 0 (at_place from r memory t.events) (from_test loop t) (Out loop)
byte_below_tests {at = at} loop limit last turn turn_facts t r memory turns last_is little loads stand
    enters fewer stage goes =
    let sound = turns.sound.sound in
    let counted = turns.counted in
    let address : ℕ = variable_address at.context (loop.head).variable in
    does_same _
    (from_test_is loop Byte t turns.scalar_is
    ∙ ap (λ (one : Outcome ℕ). then_do one (after_last loop Byte)) last_is)
    (steady_byte_read (variable_place at.context (loop.head).variable) t
    (if_not_above loop last) sound counted.fits
    (λ steady.
    byte_loaded sound counted turns.enough loads stage steady
    (λ now memory_now a there.
    at_instructions (AccumulateImmediate Compare (low (last + 1)) ∷ [])
    (steps.Jump (JumpWhere Carry) turn ∷ []) sound (tt, tt) stand there
    (λ place_compared known rest compared.
    counted_read Byte t (if_not_above loop last) sound counted compared.ready
    (λ steady_again.
    test_jumps loop limit turn turn_facts Carry last (byte_at memory_now address) t
    (effect (AccumulateImmediate Compare (low (last + 1)) ∷ []) now) memory_now turns
    (borrow_shows now.a (low (last + 1)) (omega arith) ∙ ap (nat_lt now.a) (low_is last little)
    ∙ ap (λ (n : ℕ). nat_lt n (last + 1)) a ∙ not_above (byte_at memory_now address) last)
    rest fewer compared
    (enters (effect (AccumulateImmediate Compare (low (last + 1)) ∷ []) now) memory_now
    (byte_known counted (effect (AccumulateImmediate Compare (low (last + 1)) ∷ []) now) memory_now a steady))
    goes)))))

keeps_hl : (last : ℕ) (none : Bool) (r : Registers)
    → ((effect (word_test last none) r).h ≡ r.h) × ((effect (word_test last none) r).l ≡ r.l)
keeps_hl last true r = (refl, refl)
keeps_hl last false r = (refl, refl)

-- an ADDRESS is less than a number
pub word_below_tests :
    {at : BodyContext} (loop : Loop at) (limit last : ℕ) (turn : LabelNumber)
    (turn_facts : Facts) (none : Bool)
    {facts loaded found : Facts} {from middle to : ℕ} (t : SourceState) (r : Registers) (memory : List ℕ)
    → (turns : HasTurns loop Address limit turn turn_facts)
    → value at.context.later at.context.activation.around (loop.head).last t ≡ Gave last t
    → last + 1 < 65536
    → (none ≡ true → (last + 1) % 256 ≡ 0)
    → Steps at.context facts from
    (load_word_steps (knowing at.context.site facts) (whole (loop.head).variable)) loaded middle
    → Steps at.context loaded middle (plain (word_test last none) ++ (steps.Jump (JumpWhere Carry) turn ∷ []))
    found to
    → Enters at (record no_facts { word_in_hl = Some (turns.counted).location }) turn_facts
    → t.budget ≤ limit
    → StageAt at loop.need loop.base t facts r memory
    → Goes loop limit found to
    → Does (loaded_in at.context) t.budget 0 (at_place from r memory t.events) (from_test loop t) (Out loop)
word_below_tests {at = at} loop limit last turn turn_facts none t r memory turns last_is little low_none loads
    stand enters fewer stage goes =
    let sound = turns.sound.sound in
    let counted = turns.counted in
    let address : ℕ = variable_address at.context (loop.head).variable in
    does_same _
    (from_test_is loop Address t turns.scalar_is
    ∙ ap (λ (one : Outcome ℕ). then_do one (after_last loop Address)) last_is)
    (steady_read (variable_place at.context (loop.head).variable) t
    (if_not_above loop last) sound counted.fits
    (λ steady.
    word_loaded sound counted turns.enough loads stage steady.0 steady.1
    (λ now memory_now in_hl there.
    at_instructions (word_test last none) (steps.Jump (JumpWhere Carry) turn ∷ []) sound
    (on_registers last none) stand there
    (λ place_compared known rest compared.
    let after : Registers = effect (word_test last none) now in
    let kept = keeps_hl last none now in
    counted_read Address t (if_not_above loop last) sound counted compared.ready
    (λ steady_again.
    test_jumps loop limit turn turn_facts Carry last (scalar_at Address memory_now address) t
    after memory_now turns
    (word_test_shows last none now there.ready.registers.l little low_none
    ∙ ap (λ (n : ℕ). nat_lt n (last + 1))
    (other_way now.h now.l (byte_at memory_now address) (byte_at memory_now (wrap (address + 1)))
    in_hl.low in_hl.high)
    ∙ not_above (scalar_at Address memory_now address) last)
    rest fewer compared
    (enters after memory_now
    (address_of_variable_known counted after memory_now (kept.1 ∙ in_hl.low)
    (kept.0 ∙ in_hl.high) steady.0 steady.1))
    goes)))))

-- a part of a task
abbrev pub byte_step : ExpressionNumber → Step
byte_step number = steps.Part (record { task = tasks.Byte number; pushed = 0 })

abbrev pub word_step : ExpressionNumber → Step
word_step number = steps.Part (record { task = tasks.Word number; pushed = 0 })

pub kept_a : (a now n : ℕ) → now ≡ a → a ≡ n % 256 → n < 256 → now ≡ n
kept_a a now n one two small = omega (arith, one, two, small)

-- a BYTE against a last value that is a BYTE
pub byte_tests :
    {at : BodyContext} (loop : Loop at) (limit : ℕ) (last : ExpressionNumber) (turn : LabelNumber)
    (turn_facts : Facts)
    {facts found : Facts} {from to : ℕ} (t : SourceState) (r : Registers) (memory : List ℕ)
    → (turns : HasTurns loop Byte limit turn turn_facts)
    → HasLast loop last
    → type_of (loop.head).last ≡ Byte
    → Steps at.context facts from
    (byte_step last ∷ address_step (loop.head).variable ∷ steps.Plain (Accumulate Compare M)
    ∷ steps.Jump (JumpWhere NoCarry) turn ∷ []) found to
    → Enters at (record no_facts { address_in_hl = Some (turns.counted).location }) turn_facts
    → t.budget ≤ limit
    → StageAt at loop.need loop.base t facts r memory
    → Goes loop limit found to
    → Does (loaded_in at.context) t.budget 0 (at_place from r memory t.events) (from_test loop t) (Out loop)
byte_tests {at = at} loop limit last turn turn_facts t r memory turns has is_byte stand
    enters fewer stage goes =
    let sound = turns.sound.sound in
    let counted = turns.counted in
    let address : ℕ = variable_address at.context (loop.head).variable in
    does_same _ (from_test_is loop Byte t turns.scalar_is)
    (byte_comes last (after_last loop Byte) t r memory has.is has.types has.fits stand stage
    (λ n u now memory_now known middle gave comes spent rest there.
    let small = byte_is_small (type_of (loop.head).last) n is_byte comes.small in
    address_then counted turns.enough rest there
    (λ known_address place at_variable memory_then rest_of_code holds here.
    let number : ℕ = byte_at memory_then address in
    let a_is : at_variable.a ≡ n = kept_a now.a at_variable.a n (holds.a counted.keeps_a) comes.a small in
    operate_then Compare address sound tt holds.hl rest_of_code here
    (λ known_compared place_compared jump compared.
    let after : Registers = operated Compare number at_variable in
    counted_read Byte u (if_not_above loop n) sound counted compared.ready
    (λ steady.
    test_jumps loop limit turn turn_facts NoCarry n number u after memory_then turns
    (ap not (borrow_shows at_variable.a number (byte_small memory_then address here.ready.shares.is_memory)
    ∙ ap (λ (a : ℕ). nat_lt a number) a_is))
    jump (omega (arith, spent, fewer)) compared
    (enters after memory_then (place_known counted after memory_then holds.hl)) goes)))))

no_high : (m : ℕ) → 256 * 0 + m ≡ m
no_high m = omega arith

-- against one that is an ADDRESS
pub byte_with_word_tests :
    {at : BodyContext} (loop : Loop at) (limit : ℕ) (last : ExpressionNumber) (turn : LabelNumber)
    (turn_facts : Facts)
    {facts found : Facts} {from to : ℕ} (t : SourceState) (r : Registers) (memory : List ℕ)
    → (turns : HasTurns loop Byte limit turn turn_facts)
    → HasLast loop last
    → Steps at.context facts from
    (word_step last ∷ steps.Plain Xchg ∷ address_step (loop.head).variable ∷ steps.Plain (copy A E)
    ∷ steps.Plain (Accumulate Subtract M) ∷ steps.Plain (copy A D)
    ∷ steps.Plain (AccumulateImmediate SubtractWithBorrow 0)
    ∷ steps.Jump (JumpWhere NoCarry) turn ∷ []) found to
    → Enters at (record no_facts { address_in_hl = Some (turns.counted).location }) turn_facts
    → t.budget ≤ limit
    → StageAt at loop.need loop.base t facts r memory
    → Goes loop limit found to
    → Does (loaded_in at.context) t.budget 0 (at_place from r memory t.events) (from_test loop t) (Out loop)
byte_with_word_tests {at = at} loop limit last turn turn_facts t r memory turns has stand
    enters fewer stage goes =
    let sound = turns.sound.sound in
    let counted = turns.counted in
    let address : ℕ = variable_address at.context (loop.head).variable in
    does_same _ (from_test_is loop Byte t turns.scalar_is)
    (word_comes last (after_last loop Byte) t r memory has.is has.types has.fits stand stage
    (λ n u now memory_now known middle comes spent rest there.
    at_instructions (Xchg ∷ [])
    (address_step (loop.head).variable ∷ steps.Plain (copy A E)
    ∷ steps.Plain (Accumulate Subtract M) ∷ steps.Plain (copy A D)
    ∷ steps.Plain (AccumulateImmediate SubtractWithBorrow 0)
    ∷ steps.Jump (JumpWhere NoCarry) turn ∷ []) sound (tt, tt) rest there
    (λ place_exchanged known_exchanged after_exchange exchanged.
    address_then counted turns.enough after_exchange exchanged
    (λ known_address place at_variable memory_then at_copy holds here.
    let number : ℕ = byte_at memory_then address in
    let d_is : at_variable.d ≡ n / 256 = holds.d counted.keeps_de ∙ comes.h in
    let e_is : at_variable.e ≡ n % 256 = holds.e counted.keeps_de ∙ comes.l in
    at_instructions (copy A E ∷ [])
    (steps.Plain (Accumulate Subtract M) ∷ steps.Plain (copy A D)
    ∷ steps.Plain (AccumulateImmediate SubtractWithBorrow 0)
    ∷ steps.Jump (JumpWhere NoCarry) turn ∷ []) sound (tt, tt) at_copy here
    (λ place_copied known_copied at_low copied.
    operate_then Subtract address sound tt holds.hl at_low copied
    (λ known_low place_low at_high low_done.
    at_instructions (copy A D ∷ AccumulateImmediate SubtractWithBorrow 0 ∷ [])
    (steps.Jump (JumpWhere NoCarry) turn ∷ []) sound (tt, (tt, tt)) at_high low_done
    (λ place_high known_high jump compared.
    let after : Registers = effect (copy A D ∷ AccumulateImmediate SubtractWithBorrow 0 ∷ [])
    (operated Subtract number (effect (copy A E ∷ []) at_variable)) in
    counted_read Byte u (if_not_above loop n) sound counted compared.ready
    (λ steady.
    test_jumps loop limit turn turn_facts NoCarry n number u after memory_then turns
    (ap not (pair_is_less at_variable.d at_variable.e 0 number here.ready.registers.e
    (byte_small memory_then address here.ready.shares.is_memory) (omega arith)
    ∙ ap (λ (m : ℕ). nat_lt m (256 * 0 + number)) (whole_of_halves at_variable.d at_variable.e n d_is e_is)
    ∙ ap (nat_lt n) (no_high number)))
    jump (omega (arith, spent, fewer)) compared
    (enters after memory_then (place_known counted after memory_then holds.hl)) goes))))))))

-- an ADDRESS in memory against a last value
pub word_tests :
    {at : BodyContext} (loop : Loop at) (limit : ℕ) (last : ExpressionNumber) (turn : LabelNumber)
    (turn_facts : Facts)
    {facts exchanged_facts loaded found : Facts} {from exchanged_at middle to : ℕ} (t : SourceState)
    (r : Registers) (memory : List ℕ)
    → (turns : HasTurns loop Address limit turn turn_facts)
    → HasLast loop last
    → Steps at.context facts from (word_step last ∷ steps.Plain Xchg ∷ []) exchanged_facts exchanged_at
    → Steps at.context exchanged_facts exchanged_at
    (load_word_steps (knowing at.context.site exchanged_facts) (whole (loop.head).variable)) loaded middle
    → Steps at.context loaded middle
    (plain (copy A E ∷ with_register Subtract L ∷ copy A D ∷ with_register SubtractWithBorrow H ∷ [])
    ++ (steps.Jump (JumpWhere NoCarry) turn ∷ [])) found to
    → Enters at (record no_facts { word_in_hl = Some (turns.counted).location }) turn_facts
    → t.budget ≤ limit
    → StageAt at loop.need loop.base t facts r memory
    → Goes loop limit found to
    → Does (loaded_in at.context) t.budget 0 (at_place from r memory t.events) (from_test loop t) (Out loop)
word_tests {at = at} loop limit last turn turn_facts {exchanged_facts = exchanged_facts}
    {exchanged_at = exchanged_at} t r memory turns has first loads stand enters fewer stage goes =
    let sound = turns.sound.sound in
    let counted = turns.counted in
    let address : ℕ = variable_address at.context (loop.head).variable in
    does_same _ (from_test_is loop Address t turns.scalar_is)
    (word_comes last (after_last loop Address) t r memory has.is has.types has.fits first stage
    (λ n u now memory_now known middle comes spent rest there.
    at_instructions (Xchg ∷ []) [] sound (tt, tt) rest there
    (λ place_exchanged known_exchanged over exchanged.
    at_end over exchanged
    (λ exchanged_there.
    steady_read (variable_place at.context (loop.head).variable) u (if_not_above loop n) sound counted.fits
    (λ steady.
    word_loaded sound counted turns.enough loads exchanged_there steady.0 steady.1
    (λ in_hl memory_then holds here.
    at_instructions (copy A E ∷ with_register Subtract L ∷ copy A D ∷ with_register SubtractWithBorrow H ∷ [])
    (steps.Jump (JumpWhere NoCarry) turn ∷ []) sound (tt, (tt, (tt, (tt, tt)))) stand here
    (λ place_compared known_compared jump compared.
    let number : ℕ = scalar_at Address memory_then address in
    let after : Registers =
    effect (copy A E ∷ with_register Subtract L ∷ copy A D ∷ with_register SubtractWithBorrow H ∷ []) in_hl in
    let d_is : in_hl.d ≡ n / 256 = holds.d ∙ comes.h in
    let e_is : in_hl.e ≡ n % 256 = holds.e ∙ comes.l in
    counted_read Address u (if_not_above loop n) sound counted compared.ready
    (λ steady_again.
    test_jumps loop limit turn turn_facts NoCarry n number u after memory_then turns
    (ap not (pair_is_less in_hl.d in_hl.e in_hl.h in_hl.l here.ready.registers.e here.ready.registers.l
    here.ready.registers.h
    ∙ ap (λ (m : ℕ). nat_lt m (256 * in_hl.h + in_hl.l)) (whole_of_halves in_hl.d in_hl.e n d_is e_is)
    ∙ ap (nat_lt n)
    (other_way in_hl.h in_hl.l (byte_at memory_then address) (byte_at memory_then (wrap (address + 1)))
    holds.low holds.high)))
    jump (omega (arith, spent, fewer)) compared
    (enters after memory_then
    (address_of_variable_known counted after memory_then holds.low holds.high steady.0 steady.1))
    goes))))))))

low_first : (low high : ℕ) → 256 * high + low ≡ low + 256 * high
low_first low high = omega arith

-- an ADDRESS in the frame against a last value
pub frame_word_tests :
    {at : BodyContext} (loop : Loop at) (limit : ℕ) (last : ExpressionNumber) (turn : LabelNumber)
    (turn_facts : Facts)
    {facts found : Facts} {from to : ℕ} (t : SourceState) (r : Registers) (memory : List ℕ)
    → (turns : HasTurns loop Address limit turn turn_facts)
    → HasLast loop last
    → Steps at.context facts from
    (word_step last ∷ steps.Plain Xchg ∷ address_step (loop.head).variable ∷ steps.Plain (copy A E)
    ∷ steps.Plain (Accumulate Subtract M) ∷ steps.Plain (Inx Hl) ∷ steps.Plain (copy A D)
    ∷ steps.Plain (Accumulate SubtractWithBorrow M)
    ∷ steps.Jump (JumpWhere NoCarry) turn ∷ []) found to
    → Enters at no_facts turn_facts
    → t.budget ≤ limit
    → StageAt at loop.need loop.base t facts r memory
    → Goes loop limit found to
    → Does (loaded_in at.context) t.budget 0 (at_place from r memory t.events) (from_test loop t) (Out loop)
frame_word_tests {at = at} loop limit last turn turn_facts t r memory turns has stand
    enters fewer stage goes =
    let sound = turns.sound.sound in
    let counted = turns.counted in
    let address : ℕ = variable_address at.context (loop.head).variable in
    does_same _ (from_test_is loop Address t turns.scalar_is)
    (word_comes last (after_last loop Address) t r memory has.is has.types has.fits stand stage
    (λ n u now memory_now known middle comes spent rest there.
    at_instructions (Xchg ∷ [])
    (address_step (loop.head).variable ∷ steps.Plain (copy A E)
    ∷ steps.Plain (Accumulate Subtract M) ∷ steps.Plain (Inx Hl) ∷ steps.Plain (copy A D)
    ∷ steps.Plain (Accumulate SubtractWithBorrow M)
    ∷ steps.Jump (JumpWhere NoCarry) turn ∷ []) sound (tt, tt) rest there
    (λ place_exchanged known_exchanged after_exchange exchanged.
    address_then counted turns.enough after_exchange exchanged
    (λ known_address place at_variable memory_then at_copy holds here.
    let low_number : ℕ = byte_at memory_then address in
    let high_number : ℕ = byte_at memory_then (wrap (address + 1)) in
    let d_is : at_variable.d ≡ n / 256 = holds.d counted.keeps_de ∙ comes.h in
    let e_is : at_variable.e ≡ n % 256 = holds.e counted.keeps_de ∙ comes.l in
    at_instructions (copy A E ∷ [])
    (steps.Plain (Accumulate Subtract M) ∷ steps.Plain (Inx Hl) ∷ steps.Plain (copy A D)
    ∷ steps.Plain (Accumulate SubtractWithBorrow M)
    ∷ steps.Jump (JumpWhere NoCarry) turn ∷ []) sound (tt, tt) at_copy here
    (λ place_copied known_copied at_low copied.
    operate_then Subtract address sound tt holds.hl at_low copied
    (λ known_low place_low at_next low_done.
    let one : Registers = operated Subtract low_number (effect (copy A E ∷ []) at_variable) in
    at_instructions (Inx Hl ∷ copy A D ∷ [])
    (steps.Plain (Accumulate SubtractWithBorrow M) ∷ steps.Jump (JumpWhere NoCarry) turn ∷ []) sound
    (tt, (tt, tt)) at_next low_done
    (λ place_next known_next at_high next_done.
    let two : Registers = effect (Inx Hl ∷ copy A D ∷ []) one in
    operate_then SubtractWithBorrow (wrap (address + 1)) sound tt
    (next_word at_variable.h at_variable.l address holds.hl) at_high next_done
    (λ known_high place_high jump compared.
    let after : Registers = operated SubtractWithBorrow high_number two in
    counted_read Address u (if_not_above loop n) sound counted compared.ready
    (λ steady.
    test_jumps loop limit turn turn_facts NoCarry n (scalar_at Address memory_then address) u
    after memory_then turns
    (ap not (pair_is_less at_variable.d at_variable.e high_number low_number here.ready.registers.e
    (byte_small memory_then address here.ready.shares.is_memory)
    (byte_small memory_then (wrap (address + 1)) here.ready.shares.is_memory)
    ∙ ap (λ (m : ℕ). nat_lt m (256 * high_number + low_number))
    (whole_of_halves at_variable.d at_variable.e n d_is e_is)
    ∙ ap (nat_lt n) (low_first low_number high_number)))
    jump (omega (arith, spent, fewer)) compared
    (enters after memory_then (knowing_nothing compared).known) goes)))))))))
