-- The step of an iterative DO in general, where it is added to the variable: where the sum passes the type
-- the loop ends.
use Rattle.statement_laws.proofs.Prelude.{◌≡◌, ℕ, ◌+◌, ◌*◌, ◌/◌, ◌%◌, ◌<◌, ◌≤◌, ◌==◌, Bool, true, false, not, nat_le, List, [], ◌∷◌, slice_set, Option, Some, refl, sym, ap, subst, ◌∙◌, arith, bit_or, leb-true, leb-false, le-leb, lt-leb, eqb-true, eqb-false, or_self, byte_at, byte_small, Byte, height_of, type_of, TypedExpression, TypesHold, next_turn, step_value, value, SourceState, Gave, then_do, Onward, values_of, Carry, NotZero, Accumulate, MovToMemory, Xchg, M, Add, AddWithCarry, Or, A, D, E, bit, Registers, word, JumpWhere, ExpressionNumber, IsExpressionIn, address_asks, Does, at_place, carry_shows, same_test, after_step, Facts, LabelNumber, copy, set, with_register, distances_in, nodes_in, effect, at_instructions, does_same, loaded_in, BodyContext}
use Rattle.steps8080.specs.declared.step.Step.TheVariants as steps
use Rattle.statement_laws.proofs.Loops.CountedBytes.{within_limit}
use Rattle.statement_laws.proofs.Loops.CountedVariables.{variable_address, variable_place}
use Rattle.statement_laws.proofs.Loops.LoopCode.{Steps, address_step, address_then, byte_then, jump_then, knowing_nothing}
use Rattle.statement_laws.proofs.Loops.LoopMeaning.{next_tests, stepped_by, stepped_with, stepped_with_is}
use Rattle.statement_laws.proofs.Loops.LoopRules.{Checks, byte_comes, checks_at, operate_then, operated, sum_jumps, word_comes}
use Rattle.statement_laws.proofs.Loops.LoopSteps.{HasStep}
use Rattle.statement_laws.proofs.Loops.LoopTests.{byte_step, word_step, kept_a}
use Rattle.statement_laws.proofs.Loops.LoopTurns.{Loop, Out, StageAt, after_list}

-- the step of a loop, as its code has it
pub record HasAdded {at : BodyContext} (loop : Loop at) (step : ExpressionNumber)
    (tree : TypedExpression) : Type 0 where
  pub is_step : (loop.head).step ≡ Some tree
  pub is : IsExpressionIn (nodes_in at.context) at.context.storage step tree
  pub types : TypesHold at.context.typed at.context.within tree
  pub fits : 2 * height_of tree ≤ loop.need

byte_sum : (a number n : ℕ) → a ≡ n → (a + number + 0) % 256 ≡ (number + n) % 256 % 256
byte_sum a number n same = omega (arith, same)

same_sum : (a number n : ℕ) → a ≡ n → a + number ≡ number + n
same_sum a number n same = omega (arith, same)

-- a BYTE is added to the BYTE
pub add_byte :
    {at : BodyContext} (loop : Loop at) (limit : ℕ) (step : ExpressionNumber)
    (tree : TypedExpression) (end : LabelNumber)
    {facts found : Facts} {from to : ℕ} (t : SourceState) (r : Registers) (memory : List ℕ)
    → HasStep loop Byte limit end
    → HasAdded loop step tree
    → ((s u : SourceState) (n : ℕ) → value at.context.later at.context.activation.around tree s ≡ Gave n u
    → n < values_of (type_of tree) → n < 256)
    → Steps at.context facts from
    (byte_step step ∷ address_step (loop.head).variable ∷ steps.Plain (Accumulate Add M)
    ∷ steps.Plain (MovToMemory A)
    ∷ steps.Jump (JumpWhere Carry) end ∷ []) found to
    → t.budget ≤ limit
    → StageAt at loop.need loop.base t facts r memory
    → Checks loop limit found to
    → Does (loaded_in at.context) t.budget 0 (at_place from r memory t.events)
    (after_list loop Onward t) (Out loop)
add_byte {at = at} loop limit step tree end t r memory has added_value is_byte stand fewer stage checks =
    let sound = has.sound.sound in
    let counted = has.counted in
    let variable : ℕ = (loop.head).variable in
    let address : ℕ = variable_address at.context variable in
    does_same _ (stepped_with_is loop Byte t has.scalar_is
    ∙ ap (λ (one : Option TypedExpression). then_do
    (step_value at.context.later at.context.activation.around one t) (stepped_with loop Byte))
    added_value.is_step)
    (byte_comes step (stepped_with loop Byte) t r memory added_value.is added_value.types
    added_value.fits stand stage
    (λ n u now memory_now known middle gave comes spent rest there.
    let small = is_byte t u n gave comes.small in
    address_then counted has.enough rest there
    (λ known_address place at_variable memory_then at_add holds here.
    let number : ℕ = byte_at memory_then address in
    let a_is : at_variable.a ≡ n = kept_a now.a at_variable.a n (holds.a counted.keeps_a) comes.a small in
    operate_then Add address sound tt holds.hl at_add here
    (λ known_added place_added at_store added.
    let after : Registers = operated Add number at_variable in
    stepped_by loop Byte n u has.sound counted added.ready
    (λ steady.
    byte_then (variable_place at.context variable) ((number + n) % 256 % 256) after
    (λ _ v. next_turn at.context.later at.context.activation.around loop.head loop.list (number + n) v)
    sound (omega arith) holds.hl counted.fits at_store added refl added.ready.registers
    (λ steady_there.
    address_asks at.context.activation (distances_in at.context) known_added.address_in_hl after.h after.l
    added.known.address_holds steady_there.0)
    (λ events. ap (λ (n : ℕ). at_place (place_added + 1) after
    (slice_set memory_then (word at_variable.h at_variable.l) n) events)
    (byte_sum at_variable.a number n a_is))
    (λ v budget_is steady_there jump ready_now.
    let left : List ℕ = slice_set memory_then (word at_variable.h at_variable.l) ((number + n) % 256 % 256) in
    let fewer_now = within_limit v.budget u.budget limit budget_is (omega (arith, spent, fewer)) in
    sum_jumps loop Byte limit (number + n) end Carry v after left has.sound has.scalar_is has.less
    (carry_shows at_variable.a number ∙ ap (nat_le 256) (same_sum at_variable.a number n a_is)) jump
    fewer_now ready_now has.ends
    (λ of_type over. checks_at loop limit v after left checks over fewer_now ready_now)))))))

-- DE is added to a byte: what is left of it after its low byte
low_sum : (e number n : ℕ) → e ≡ n % 256 → (e + number + 0) % 256 ≡ (number + n) % 256 % 256
low_sum e number n same = omega (arith, same)

carried : (carry : Bool) (d e number n : ℕ) → d ≡ n / 256 → e ≡ n % 256 → e < 256 → number < 256
    → nat_le 256 (e + number) ≡ carry
    → (d + bit carry) * 256 ≤ number + n
carried true d e number n high low one two is =
    let over = leb-true 256 (e + number) is in omega (arith, high, low, one, two, over)
carried false d e number n high low one two is = omega (arith, high, low, one, two)

none_carried : (carry : Bool) (d e number n : ℕ) → d ≡ n / 256 → e ≡ n % 256 → nat_le 256 (e + number) ≡ carry
    → d + bit carry ≡ 0 → number + n < 256
none_carried true d e number n high low is none = absurd (omega (arith, none))
none_carried false d e number n high low is none =
    let under = leb-false 256 (e + number) is in omega (arith, high, low, none, under)

past_byte : (d carry sum : ℕ) → (d + carry) * 256 ≤ sum → 256 ≤ 0 + d + carry → 256 ≤ sum
past_byte d carry sum great over = omega (arith, great, over)

zero_shows_sum : (a sum : ℕ) → a < 256 → a * 256 ≤ sum → (a ≡ 0 → sum < 256)
    → not (bit_or a a == 0) ≡ nat_le 256 sum
zero_shows_sum a sum small great none =
    ap (λ (n : ℕ). not (n == 0)) (or_self a)
    ∙ same_test (not (a == 0)) (nat_le 256 sum)
    (λ some. by_some (a == 0) refl some)
    (λ zero. by_zero (a == 0) refl zero)
  where
    by_some : (is_zero : Bool) → (a == 0) ≡ is_zero → not (a == 0) ≡ true → nat_le 256 sum ≡ true
    by_some true is some = absurd (never (sym (ap not is) ∙ some))
      where
        never : false ≡ true → ⊥
        never same = cc
    by_some false is some = let differ = eqb-false a 0 is in le-leb 256 sum (omega (arith, differ, great))

    by_zero : (is_zero : Bool) → (a == 0) ≡ is_zero → not (a == 0) ≡ false → nat_le 256 sum ≡ false
    by_zero true is zero = let under = none (eqb-true a 0 is) in lt-leb 256 sum under
    by_zero false is zero = absurd (never (sym (ap not is) ∙ zero))
      where
        never : true ≡ false → ⊥
        never same = cc

no_more : (d carry : ℕ) → 0 + d + carry < 256 → (0 + d + carry) % 256 ≡ d + carry
no_more d carry small = omega (arith, small)

-- an ADDRESS is added to the BYTE
pub add_word_to_byte :
    {at : BodyContext} (loop : Loop at) (limit : ℕ) (step : ExpressionNumber)
    (tree : TypedExpression) (end : LabelNumber)
    {facts found : Facts} {from to : ℕ} (t : SourceState) (r : Registers) (memory : List ℕ)
    → HasStep loop Byte limit end
    → HasAdded loop step tree
    → Steps at.context facts from
    (word_step step ∷ steps.Plain Xchg ∷ address_step (loop.head).variable ∷ steps.Plain (copy A E)
    ∷ steps.Plain (Accumulate Add M) ∷ steps.Plain (MovToMemory A) ∷ steps.Plain (set A 0)
    ∷ steps.Plain (with_register AddWithCarry D)
    ∷ steps.Jump (JumpWhere Carry) end ∷ steps.Plain (with_register Or A)
    ∷ steps.Jump (JumpWhere NotZero) end ∷ []) found to
    → t.budget ≤ limit
    → StageAt at loop.need loop.base t facts r memory
    → Checks loop limit found to
    → Does (loaded_in at.context) t.budget 0 (at_place from r memory t.events)
    (after_list loop Onward t) (Out loop)
add_word_to_byte {at = at} loop limit step tree end t r memory has added_value stand fewer stage checks =
    let sound = has.sound.sound in
    let counted = has.counted in
    let variable : ℕ = (loop.head).variable in
    let address : ℕ = variable_address at.context variable in
    does_same _ (stepped_with_is loop Byte t has.scalar_is
    ∙ ap (λ (one : Option TypedExpression). then_do
    (step_value at.context.later at.context.activation.around one t) (stepped_with loop Byte))
    added_value.is_step)
    (word_comes step (stepped_with loop Byte) t r memory added_value.is added_value.types
    added_value.fits stand stage
    (λ n u now memory_now known middle comes spent rest there.
    at_instructions (Xchg ∷ [])
    (address_step (loop.head).variable ∷ steps.Plain (copy A E)
    ∷ steps.Plain (Accumulate Add M) ∷ steps.Plain (MovToMemory A) ∷ steps.Plain (set A 0)
    ∷ steps.Plain (with_register AddWithCarry D)
    ∷ steps.Jump (JumpWhere Carry) end ∷ steps.Plain (with_register Or A)
    ∷ steps.Jump (JumpWhere NotZero) end ∷ [])
    sound (tt, tt) rest there
    (λ place_exchanged known_exchanged after_exchange exchanged.
    address_then counted has.enough after_exchange exchanged
    (λ known_address place at_variable memory_then at_copy holds here.
    let number : ℕ = byte_at memory_then address in
    let d_is : at_variable.d ≡ n / 256 = holds.d counted.keeps_de ∙ comes.h in
    let e_is : at_variable.e ≡ n % 256 = holds.e counted.keeps_de ∙ comes.l in
    at_instructions (copy A E ∷ [])
    (steps.Plain (Accumulate Add M) ∷ steps.Plain (MovToMemory A) ∷ steps.Plain (set A 0)
    ∷ steps.Plain (with_register AddWithCarry D)
    ∷ steps.Jump (JumpWhere Carry) end ∷ steps.Plain (with_register Or A)
    ∷ steps.Jump (JumpWhere NotZero) end ∷ [])
    sound (tt, tt) at_copy here
    (λ place_copied known_copied at_add copied.
    operate_then Add address sound tt holds.hl at_add copied
    (λ known_added place_added at_store added.
    let after : Registers = operated Add number (effect (copy A E ∷ []) at_variable) in
    let carry : Bool = nat_le 256 (at_variable.e + number) in
    let number_small : number < 256 = byte_small memory_then address here.ready.shares.is_memory in
    let e_small : at_variable.e < 256 = here.ready.registers.e in
    let great : (at_variable.d + bit carry) * 256 ≤ number + n =
    carried carry at_variable.d at_variable.e number n d_is e_is e_small number_small refl in
    stepped_by loop Byte n u has.sound counted added.ready
    (λ steady.
    byte_then (variable_place at.context variable) ((number + n) % 256 % 256) after
    (λ _ v. next_turn at.context.later at.context.activation.around loop.head loop.list (number + n) v)
    sound (omega arith) holds.hl counted.fits at_store added refl added.ready.registers
    (λ steady_there.
    address_asks at.context.activation (distances_in at.context) known_added.address_in_hl after.h after.l
    added.known.address_holds steady_there.0)
    (λ events. ap (λ (n : ℕ). at_place (place_added + 1) after
    (slice_set memory_then (word at_variable.h at_variable.l) n) events)
    (low_sum at_variable.e number n e_is))
    (λ v budget_is steady_there at_high ready_now.
    let left : List ℕ = slice_set memory_then (word at_variable.h at_variable.l) ((number + n) % 256 % 256) in
    let fewer_now = within_limit v.budget u.budget limit budget_is (omega (arith, spent, fewer)) in
    let less = has.less in
    at_instructions (set A 0 ∷ with_register AddWithCarry D ∷ [])
    (steps.Jump (JumpWhere Carry) end ∷ steps.Plain (with_register Or A)
    ∷ steps.Jump (JumpWhere NotZero) end ∷ [])
    sound (tt, (tt, tt)) at_high ready_now
    (λ place_high known_high jump high_done.
    let high : Registers = effect (set A 0 ∷ with_register AddWithCarry D ∷ []) after in
    let carry_is : after.flags.cy ≡ carry = carry_shows at_variable.e number in
    let a_is : high.a ≡ (0 + at_variable.d + bit carry) % 256 =
    ap (λ (b : Bool). (0 + at_variable.d + bit b) % 256) carry_is in
    let cy_is : high.flags.cy ≡ nat_le 256 (0 + at_variable.d + bit carry) =
    ap (λ (b : Bool). nat_le 256 (0 + at_variable.d + bit b)) carry_is in
    jump_then sound jump high_done
    (λ taken step.
    let over = leb-true 256 (0 + at_variable.d + bit carry) (sym cy_is ∙ taken) in
    let past_type = past_byte at_variable.d (bit carry) (number + n) great over in
    next_tests loop Byte (number + n) v has.sound has.scalar_is (omega (arith, fewer_now, less))
    (λ of_type. absurd (omega (arith, of_type, past_type)))
    (λ past. after_step step (has.ends v high left fewer_now (knowing_nothing high_done))))
    (λ passed rest_of_code.
    let under = leb-false 256 (0 + at_variable.d + bit carry) (sym cy_is ∙ passed) in
    let sum_is : high.a ≡ at_variable.d + bit carry = a_is ∙ no_more at_variable.d (bit carry) under in
    at_instructions (with_register Or A ∷ []) (steps.Jump (JumpWhere NotZero) end ∷ []) sound (tt, tt)
    rest_of_code high_done
    (λ place_tested known_tested last_jump tested.
    let final : Registers = effect (with_register Or A ∷ []) high in
    sum_jumps loop Byte limit (number + n) end NotZero v final left has.sound has.scalar_is has.less
    (zero_shows_sum high.a (number + n) high_done.ready.registers.a
    (subst (λ (m : ℕ). m * 256 ≤ number + n) (sym sum_is) great)
    (λ none. none_carried carry at_variable.d at_variable.e number n d_is e_is refl (sym sum_is ∙ none)))
    last_jump fewer_now tested has.ends
    (λ of_type over. checks_at loop limit v final left checks over fewer_now tested))))))))))))
