-- The step of an iterative DO whose variable is an ADDRESS in the frame: DE is added to it, byte by byte.
use Rattle.statement_laws.proofs.Prelude.{◌≡◌, ℕ, ◌+◌, ◌*◌, ◌/◌, ◌%◌, ◌<◌, ◌≤◌, Bool, true, false, nat_le, List, [], ◌∷◌, slice_set, refl, sym, ap, subst, ◌∙◌, arith, leb-true, leb-false, le-leb, lt-leb, MEMORY_SIZE, byte_at, byte_small, Address, SourcePlace, next_place, write_byte, next_turn, SourceState, Outcome, then_do, Flow, Carry, Inx, MovToMemory, Add, AddWithCarry, Hl, A, D, E, bit, Registers, word, wrap, JumpWhere, byte_kept, address_asks, Does, at_place, carry_shows, same_test, Facts, LabelNumber, Step, load, with_register, distances_in, effect, at_instructions, does_same, loaded_in, first_fits, next_address, second_fits, BodyContext, next_is_other, next_word, then_again}
use Rattle.steps8080.specs.declared.step.Step.TheVariants as steps
use Rattle.statement_laws.proofs.Loops.CountedBytes.{within_limit}
use Rattle.statement_laws.proofs.Loops.CountedVariables.{variable_address, variable_place}
use Rattle.statement_laws.proofs.Loops.LoopCode.{Steps, address_step, address_then, byte_then, load_then}
use Rattle.statement_laws.proofs.Loops.LoopMeaning.{stepped_by, stepped_with}
use Rattle.statement_laws.proofs.Loops.LoopRules.{Checks, checks_at, sum_jumps}
use Rattle.statement_laws.proofs.Loops.LoopSteps.{HasStep}
use Rattle.statement_laws.proofs.Loops.LoopTurns.{Loop, Out, StageAt}
use Rattle.statement_laws.proofs.Loops.LoopWordSums.{ComesToDe}

low_sum : (low high e n : ℕ) → e ≡ n % 256 → (low + e + 0) % 256 ≡ ((low + 256 * high + n) % 65536) % 256
low_sum low high e n same = omega (arith, same)

high_sum : (carry : Bool) (low high d e n : ℕ) → d ≡ n / 256 → e ≡ n % 256 → low < 256
    → high < 256 → n < 65536
    → nat_le 256 (low + e) ≡ carry
    → (high + d + bit carry) % 256 ≡ ((low + 256 * high + n) % 65536) / 256
high_sum true low high d e n one two small large number is =
    let over = leb-true 256 (low + e) is in omega (arith, one, two, small, large, number, over)
high_sum false low high d e n one two small large number is =
    let under = leb-false 256 (low + e) is in omega (arith, one, two, small, large, number, under)

high_carry : (carry : Bool) (low high d e n : ℕ) → d ≡ n / 256 → e ≡ n % 256 → low < 256
    → nat_le 256 (low + e) ≡ carry
    → nat_le 256 (high + d + bit carry) ≡ nat_le 65536 (low + 256 * high + n)
high_carry true low high d e n one two small is =
    let over = leb-true 256 (low + e) is in
    same_test (nat_le 256 (high + d + 1)) (nat_le 65536 (low + 256 * high + n))
    (λ past. let more = leb-true 256 (high + d + 1) past in le-leb 65536 (low + 256 * high + n)
    (omega (arith, one, two, small, over, more)))
    (λ within. let less = leb-false 256 (high + d + 1) within in lt-leb 65536 (low + 256 * high + n)
    (omega (arith, one, two, small, over, less)))
high_carry false low high d e n one two small is =
    let under = leb-false 256 (low + e) is in
    same_test (nat_le 256 (high + d + 0)) (nat_le 65536 (low + 256 * high + n))
    (λ past. let more = leb-true 256 (high + d + 0) past in le-leb 65536 (low + 256 * high + n)
    (omega (arith, one, two, small, under, more)))
    (λ within. let less = leb-false 256 (high + d + 0) within in lt-leb 65536 (low + 256 * high + n)
    (omega (arith, one, two, small, under, less)))

-- what follows the low byte
abbrev pub high_sum_code : LabelNumber → List Step
high_sum_code end =
    steps.Plain (Inx Hl) ∷ steps.Plain (load A) ∷ steps.Plain (with_register AddWithCarry D)
    ∷ steps.Plain (MovToMemory A)
    ∷ steps.Jump (JumpWhere Carry) end ∷ []

-- DE is added to the ADDRESS in the frame
pub add_de_in_frame :
    {at : BodyContext} (loop : Loop at) (limit n : ℕ) (end : LabelNumber)
    {facts found : Facts} {from to : ℕ} (t : SourceState) (r : Registers) (memory : List ℕ)
    → HasStep loop Address limit end
    → ComesToDe n r
    → Steps at.context facts from
    (address_step (loop.head).variable ∷ steps.Plain (load A) ∷ steps.Plain (with_register Add E)
    ∷ steps.Plain (MovToMemory A)
    ∷ high_sum_code end) found to
    → t.budget ≤ limit
    → StageAt at loop.need loop.base t facts r memory
    → Checks loop limit found to
    → Does (loaded_in at.context) t.budget 0 (at_place from r memory t.events)
    (stepped_with loop Address n t) (Out loop)
add_de_in_frame {at = at} loop limit n end t r memory has de stand fewer stage checks =
    let sound = has.sound.sound in
    let counted = has.counted in
    let program = at.context.activation.around.program in
    let variable : ℕ = (loop.head).variable in
    let place : SourcePlace = variable_place at.context variable in
    let address : ℕ = variable_address at.context variable in
    let next_is = next_address at.context.activation place in
    address_then counted has.enough stand stage
    (λ known middle now there at_load holds here.
    let low : ℕ = byte_at there address in
    let high : ℕ = byte_at there (wrap (address + 1)) in
    let number : ℕ = low + 256 * high in
    let new : ℕ = (number + n) % 65536 in
    let go : Unit {0} → SourceState → Outcome Flow =
    λ _ v. next_turn at.context.later at.context.activation.around loop.head loop.list (number + n) v in
    let low_small : low < 256 = byte_small there address here.ready.shares.is_memory in
    let high_small : high < 256 = byte_small there (wrap (address + 1)) here.ready.shares.is_memory in
    let d_is : now.d ≡ n / 256 = holds.d counted.keeps_de ∙ de.d in
    let e_is : now.e ≡ n % 256 = holds.e counted.keeps_de ∙ de.e in
    let carry : Bool = nat_le 256 (low + now.e) in
    stepped_by loop Address n t has.sound counted here.ready
    (λ steady.
    load_then address sound holds.hl steady.0 at_load here
    (λ known_loaded place_loaded at_add loaded.
    at_instructions (with_register Add E ∷ []) (steps.Plain (MovToMemory A) ∷ high_sum_code end) sound
    (tt, tt) at_add loaded
    (λ place_added known_added at_store added.
    let after : Registers = effect (with_register Add E ∷ []) (record now { a = low }) in
    does_same _
    (then_again (write_byte program place (new % 256) t)
    (λ _ u. write_byte program (next_place place) (new / 256) u) go)
    (byte_then place (new % 256) after
    (λ _ u. then_do (write_byte program (next_place place) (new / 256) u) go)
    sound (omega arith) holds.hl (first_fits at.context.activation place counted.fits) at_store added refl
    added.ready.registers
    (λ steady_there.
    address_asks at.context.activation (distances_in at.context) known_added.address_in_hl after.h after.l
    added.known.address_holds steady_there.0)
    (λ events. ap (λ (m : ℕ). at_place (place_added + 1) after (slice_set there (word now.h now.l) m) events)
    (low_sum low high now.e n e_is))
    (λ u budget_is steady_there at_next ready_now.
    let left : List ℕ = slice_set there (word now.h now.l) (new % 256) in
    let fewer_now = within_limit u.budget t.budget limit budget_is fewer in
    let is_variable : word now.h now.l < MEMORY_SIZE = steady_there.1 in
    let in_memory : address < MEMORY_SIZE = subst (λ (m : ℕ). m < MEMORY_SIZE) holds.hl is_variable in
    let high_stays : byte_at left (wrap (address + 1)) ≡ high =
    byte_kept there (word now.h now.l) (wrap (address + 1)) (new % 256)
    (λ same. next_is_other address in_memory (same ∙ holds.hl)) in
    at_instructions (Inx Hl ∷ [])
    (steps.Plain (load A) ∷ steps.Plain (with_register AddWithCarry D) ∷ steps.Plain (MovToMemory A)
    ∷ steps.Jump (JumpWhere Carry) end ∷ []) sound (tt, tt) at_next ready_now
    (λ place_next known_next at_high next_there.
    let two : Registers = effect (Inx Hl ∷ []) after in
    let hl_next : word two.h two.l ≡ wrap (address + 1) = next_word now.h now.l address holds.hl in
    load_then (wrap (address + 1)) sound hl_next steady.1 at_high next_there
    (λ known_high place_high at_sum high_loaded.
    let high_found : ℕ = byte_at left (wrap (address + 1)) in
    at_instructions (with_register AddWithCarry D ∷ [])
    (steps.Plain (MovToMemory A) ∷ steps.Jump (JumpWhere Carry) end ∷ []) sound (tt, tt) at_sum high_loaded
    (λ place_sum known_sum at_last summed.
    let three : Registers = effect (with_register AddWithCarry D ∷ []) (record two { a = high_found }) in
    let carry_is : after.flags.cy ≡ carry = carry_shows low now.e in
    let a_is : three.a ≡ new / 256 =
    ap (λ (m : ℕ). (m + now.d + bit after.flags.cy) % 256) high_stays
    ∙ ap (λ (b : Bool). (high + now.d + bit b) % 256) carry_is
    ∙ high_sum carry low high now.d now.e n d_is e_is low_small high_small de.small refl in
    let cy_is : three.flags.cy ≡ nat_le 65536 (number + n) =
    ap (λ (m : ℕ). nat_le 256 (m + now.d + bit after.flags.cy)) high_stays
    ∙ ap (λ (b : Bool). nat_le 256 (high + now.d + bit b)) carry_is
    ∙ high_carry carry low high now.d now.e n d_is e_is low_small refl in
    byte_then (next_place place) (new / 256) three go sound (omega arith) (hl_next ∙ sym next_is)
    (second_fits at.context.activation place counted.fits) at_last summed refl summed.ready.registers
    (λ steady_next.
    address_asks at.context.activation (distances_in at.context) known_sum.address_in_hl three.h three.l
    summed.known.address_holds steady_next.0)
    (λ events. ap (λ (m : ℕ). at_place (place_sum + 1) three (slice_set left (word two.h two.l) m) events)
    a_is)
    (λ v budget_again steady_next jump ready_then.
    let ended : List ℕ = slice_set left (word two.h two.l) (new / 256) in
    let fewer_then = within_limit v.budget u.budget limit budget_again fewer_now in
    sum_jumps loop Address limit (number + n) end Carry v three ended has.sound has.scalar_is has.less
    cy_is jump fewer_then ready_then has.ends
    (λ of_type over. checks_at loop limit v three ended checks over fewer_then ready_then)))))))))))
