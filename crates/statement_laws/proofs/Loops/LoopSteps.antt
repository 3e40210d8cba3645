-- The step of an iterative DO in general, counting by 1: the variable is counted where it lies, and where it
-- becomes 0 the loop ends.
use Rattle.statement_laws.proofs.Prelude.{◌≡◌, ◌≢◌, ℕ, ◌+◌, ◌*◌, ◌/◌, ◌%◌, ◌<◌, ◌≤◌, ◌==◌, not, nat_le, List, [], ◌∷◌, slice_set, refl, sym, ap, subst, ◌∙◌, arith, eqb-true, eqb-false, le-leb, lt-leb, MEMORY_SIZE, byte_at, byte_small, Event, ScalarType, Byte, Address, SourcePlace, next_place, write_byte, next_turn, step_value, SourceState, Outcome, Gave, then_do, Flow, Onward, NotZero, Zero, Inr, Inx, M, Hl, Flags, increment_of, Registers, word, wrap, step_of, JumpWhere, byte_kept, Does, at_place, IsReady, no_facts_hold, count_shows, same_test, after_step, Facts, LabelNumber, no_facts, address_on_machine, set_same, effect, at_instructions, does_same, loaded_in, script_of, first_fits, next_address, second_fits, byte_written, BodyContext, IsSoundBody, next_is_other, next_word, not-false, not-true, then_again}
use Rattle.steps8080.specs.declared.step.Step.TheVariants as steps
use Rattle.statement_laws.proofs.Loops.CountedBytes.{Goes, within_limit, one_more_now}
use Rattle.statement_laws.proofs.Loops.CountedVariables.{IsCounted, variable_address, variable_place}
use Rattle.statement_laws.proofs.Loops.LoopCode.{Steps, address_step, address_then, byte_then, jump_then}
use Rattle.statement_laws.proofs.Loops.LoopMeaning.{next_tests, stepped_by, stepped_with, stepped_with_is}
use Rattle.statement_laws.proofs.Loops.LoopRules.{Checks, checks_at, sum_jumps}
use Rattle.statement_laws.proofs.Loops.LoopTurns.{Loop, Out, StageAt, after_list}

-- what is true of a loop at its step: its variable, its test, which follows, and its end
pub record HasStep
    {at : BodyContext} (loop : Loop at) (scalar : ScalarType) (limit : ℕ) (end : LabelNumber) : Type 0 where
  pub sound : IsSoundBody at
  pub scalar_is : (loop.head).scalar ≡ scalar
  pub counted : IsCounted at.context (loop.head).variable scalar
  pub enough : 2 ≤ loop.need
  pub less : limit < loop.budget
  pub ends : Goes loop limit no_facts (at.context.activation.layout.place_of end.index)

-- what a BYTE that is counted comes to
top_is : (n : ℕ) → n < 256 → (n == 255) ≡ nat_le 256 (n + 1)
top_is n small =
    same_test (n == 255) (nat_le 256 (n + 1))
    (λ is. let same = eqb-true n 255 is in le-leb 256 (n + 1) (omega (arith, same)))
    (λ is. let differ = eqb-false n 255 is in lt-leb 256 (n + 1) (omega (arith, differ, small)))

-- a BYTE is counted by 1
pub count_byte :
    {at : BodyContext} (loop : Loop at) (limit : ℕ) (end : LabelNumber) {facts found : Facts} {from to : ℕ}
    (t : SourceState) (r : Registers) (memory : List ℕ)
    → HasStep loop Byte limit end
    → ((s : SourceState) → step_value at.context.later at.context.activation.around (loop.head).step s
    ≡ Gave 1 s)
    → Steps at.context facts from
    (address_step (loop.head).variable ∷ steps.Plain (Inr M) ∷ steps.Jump (JumpWhere Zero) end ∷ []) found to
    → t.budget ≤ limit
    → StageAt at loop.need loop.base t facts r memory
    → Checks loop limit found to
    → Does (loaded_in at.context) t.budget 0 (at_place from r memory t.events)
    (after_list loop Onward t) (Out loop)
count_byte {at = at} loop limit end t r memory has step_is stand fewer stage checks =
    let sound = has.sound.sound in
    let counted = has.counted in
    let variable : ℕ = (loop.head).variable in
    let address : ℕ = variable_address at.context variable in
    does_same _
    (stepped_with_is loop Byte t has.scalar_is
    ∙ ap (λ (one : Outcome ℕ). then_do one (stepped_with loop Byte)) (step_is t))
    (address_then counted has.enough stand stage
    (λ known middle now there rest holds here.
    let number : ℕ = byte_at there address in
    let byte : ℕ = (number + 1) % 256 % 256 in
    let held = here.ready.registers in
    let small : number < 256 = byte_small there address here.ready.shares.is_memory in
    let flags : Flags = (increment_of (byte_at there (word now.h now.l)) now.flags).flags in
    let after : Registers = record now { flags = flags } in
    let is_zero : flags.z ≡ (number == 255) =
    ap (λ (n : ℕ). (increment_of n now.flags).flags.z) (ap (byte_at there) holds.hl)
    ∙ count_shows number now.flags small in
    stepped_by loop Byte 1 t has.sound counted here.ready
    (λ steady.
    byte_then (variable_place at.context variable) byte after
    (λ _ v. next_turn at.context.later at.context.activation.around loop.head loop.list (number + 1) v)
    sound (omega arith) holds.hl counted.fits rest here refl
    (record { a = held.a; b = held.b; c = held.c; d = held.d; e = held.e; h = held.h; l = held.l })
    (λ steady_there. tt)
    (λ events. ap (λ (n : ℕ). at_place (middle + 1) after (slice_set there (word now.h now.l) n) events)
    (ap (λ (n : ℕ). (byte_at there n + 1) % 256) holds.hl ∙ one_more_now number))
    (λ u budget_is steady_there last_steps ready_now.
    let left : List ℕ = slice_set there (word now.h now.l) byte in
    let fewer_now = within_limit u.budget t.budget limit budget_is fewer in
    sum_jumps loop Byte limit (number + 1) end Zero u after left has.sound has.scalar_is has.less
    (is_zero ∙ top_is number small) last_steps fewer_now ready_now has.ends
    (λ of_type over. checks_at loop limit u after left checks over fewer_now ready_now)))))

-- the bytes of an ADDRESS that is counted
sum_low : (low high : ℕ) → (low + 1) % 256 ≡ ((low + 256 * high + 1) % 65536) % 256
sum_low low high = omega arith

sum_high_same : (low high : ℕ) → low < 256 → high < 256 → low ≢ 255
    → ((low + 256 * high + 1) % 65536) / 256 ≡ high
sum_high_same low high one two differ = omega (arith, one, two, differ)

sum_high_more : (low high : ℕ) → high < 256 → low ≡ 255
    → (high + 1) % 256 ≡ ((low + 256 * high + 1) % 65536) / 256
sum_high_more low high two is = omega (arith, two, is)

sum_top : (low high : ℕ) → high < 256 → low ≡ 255 → (high == 255) ≡ nat_le 65536 (low + 256 * high + 1)
sum_top low high small is =
    same_test (high == 255) (nat_le 65536 (low + 256 * high + 1))
    (λ top. let same = eqb-true high 255 top in le-leb 65536 (low + 256 * high + 1) (omega (arith, same, is)))
    (λ less. let differ = eqb-false high 255 less in lt-leb 65536 (low + 256 * high + 1)
    (omega (arith, differ, small, is)))

not_past : (low high : ℕ) → low < 256 → high < 256 → low ≢ 255 → 65536 ≤ low + 256 * high + 1 → ⊥
not_past low high one two differ past = omega (arith, one, two, differ, past)

-- an ADDRESS is counted by 1
pub count_word :
    {at : BodyContext} (loop : Loop at) (limit : ℕ) (test end : LabelNumber)
    {facts found : Facts} {from to : ℕ}
    (t : SourceState) (r : Registers) (memory : List ℕ)
    → HasStep loop Address limit end
    → ((s : SourceState) → step_value at.context.later at.context.activation.around (loop.head).step s
    ≡ Gave 1 s)
    → Steps at.context facts from
    (address_step (loop.head).variable ∷ steps.Plain (Inr M) ∷ steps.Jump (JumpWhere NotZero) test
    ∷ steps.Plain (Inx Hl) ∷ steps.Plain (Inr M) ∷ steps.Jump (JumpWhere Zero) end ∷ []) found to
    → t.budget ≤ limit
    → StageAt at loop.need loop.base t facts r memory
    → Checks loop limit no_facts (at.context.activation.layout.place_of test.index)
    → Checks loop limit found to
    → Does (loaded_in at.context) t.budget 0 (at_place from r memory t.events)
    (after_list loop Onward t) (Out loop)
count_word {at = at} loop limit test end t r memory has step_is stand fewer stage at_test checks =
    let sound = has.sound.sound in
    let counted = has.counted in
    let program = at.context.activation.around.program in
    let variable : ℕ = (loop.head).variable in
    let place : SourcePlace = variable_place at.context variable in
    let address : ℕ = variable_address at.context variable in
    let next_is = next_address at.context.activation place in
    does_same _
    (stepped_with_is loop Address t has.scalar_is
    ∙ ap (λ (one : Outcome ℕ). then_do one (stepped_with loop Address)) (step_is t))
    (address_then counted has.enough stand stage
    (λ known middle now there rest holds here.
    let low : ℕ = byte_at there address in
    let high : ℕ = byte_at there (wrap (address + 1)) in
    let number : ℕ = low + 256 * high in
    let new : ℕ = (number + 1) % 65536 in
    let go : Unit {0} → SourceState → Outcome Flow =
    λ _ v. next_turn at.context.later at.context.activation.around loop.head loop.list (number + 1) v in
    let held = here.ready.registers in
    let low_small : low < 256 = byte_small there address here.ready.shares.is_memory in
    let high_small : high < 256 = byte_small there (wrap (address + 1)) here.ready.shares.is_memory in
    let flags : Flags = (increment_of (byte_at there (word now.h now.l)) now.flags).flags in
    let after : Registers = record now { flags = flags } in
    let is_zero : flags.z ≡ (low == 255) =
    ap (λ (n : ℕ). (increment_of n now.flags).flags.z) (ap (byte_at there) holds.hl)
    ∙ count_shows low now.flags low_small in
    stepped_by loop Address 1 t has.sound counted here.ready
    (λ steady.
    does_same _
    (then_again (write_byte program place (new % 256) t)
    (λ _ u. write_byte program (next_place place) (new / 256) u) go)
    (byte_then place (new % 256) after
    (λ _ u. then_do (write_byte program (next_place place) (new / 256) u) go)
    sound (omega arith) holds.hl (first_fits at.context.activation place counted.fits) rest here refl
    (record { a = held.a; b = held.b; c = held.c; d = held.d; e = held.e; h = held.h; l = held.l })
    (λ steady_there. tt)
    (λ events. ap (λ (n : ℕ). at_place (middle + 1) after (slice_set there (word now.h now.l) n) events)
    (ap (λ (n : ℕ). (byte_at there n + 1) % 256) holds.hl ∙ sum_low low high))
    (λ u budget_is steady_there last_steps ready_now.
    let left : List ℕ = slice_set there (word now.h now.l) (new % 256) in
    let fewer_now = within_limit u.budget t.budget limit budget_is fewer in
    let is_variable : word now.h now.l < MEMORY_SIZE = steady_there.1 in
    let in_memory : address < MEMORY_SIZE = subst (λ (n : ℕ). n < MEMORY_SIZE) holds.hl is_variable in
    let high_stays : byte_at left (wrap (address + 1)) ≡ high =
    byte_kept there (word now.h now.l) (wrap (address + 1)) (new % 256)
    (λ same. next_is_other address in_memory (same ∙ holds.hl)) in
    jump_then sound last_steps ready_now
    (λ taken step.
    let differ = eqb-false low 255 (not-true (low == 255) (ap not (sym is_zero) ∙ taken)) in
    let is_same : slice_set left (address_on_machine at.context.activation (next_place place)) (new / 256)
    ≡ left =
    ap (λ (n : ℕ). slice_set left n (new / 256)) next_is
    ∙ ap (slice_set left (wrap (address + 1)))
    (sum_high_same low high low_small high_small differ ∙ sym high_stays)
    ∙ set_same left (wrap (address + 1)) in
    byte_written {r = after} (next_place place) (new / 256) u go sound (omega arith) ready_now.ready
    (second_fits at.context.activation place counted.fits)
    (λ v events_same budget_same steady_next ready_next.
    let fewer_then = within_limit v.budget u.budget limit budget_same fewer_now in
    let less = has.less in
    let step_then : step_of (script_of at.context) (at_place (middle + 1) after left v.events)
    ≡ at_place (at.context.activation.layout.place_of test.index) after left v.events =
    subst (λ (events : List Event). step_of (script_of at.context) (at_place (middle + 1) after left events)
    ≡ at_place (at.context.activation.layout.place_of test.index) after left events) (sym events_same) step in
    subst (λ (events : List Event). Does (loaded_in at.context) u.budget 0
    (at_place (middle + 1) after left events) (go tt v) (Out loop)) events_same
    (subst (λ (budget : ℕ). Does (loaded_in at.context) budget 0 (at_place (middle + 1) after left v.events)
    (go tt v) (Out loop)) budget_same
    (next_tests loop Address (number + 1) v has.sound has.scalar_is (omega (arith, fewer_then, less))
    (λ of_type.
    after_step step_then
    (at_test v after left fewer_then
    (record {
      below = (let below = ready_now.below in omega (arith, below, budget_same));
      room = ready_now.room;
      ready = subst
          (λ (bytes : List ℕ). IsReady at.context.activation at.context.activation.level loop.base v.memory
          v.frame after bytes) is_same ready_next;
      known = no_facts_hold;
    })))
    (λ past. absurd (not_past low high low_small high_small differ past))))))
    (λ passed rest_high.
    let is = eqb-true low 255 (not-false (low == 255) (ap not (sym is_zero) ∙ passed)) in
    at_instructions (Inx Hl ∷ []) (steps.Plain (Inr M) ∷ steps.Jump (JumpWhere Zero) end ∷ []) sound
    (tt, tt) rest_high ready_now
    (λ place_next known_next at_high next_there.
    let two : Registers = effect (Inx Hl ∷ []) after in
    let own = next_there.ready.registers in
    let hl_next : word two.h two.l ≡ wrap (address + 1) = next_word now.h now.l address holds.hl in
    let high_is : byte_at left (word two.h two.l) ≡ high = ap (byte_at left) hl_next ∙ high_stays in
    let flags_then : Flags = (increment_of (byte_at left (word two.h two.l)) two.flags).flags in
    let three : Registers = record two { flags = flags_then } in
    byte_then (next_place place) (new / 256) three go sound (omega arith) (hl_next ∙ sym next_is)
    (second_fits at.context.activation place counted.fits) at_high next_there refl
    (record { a = own.a; b = own.b; c = own.c; d = own.d; e = own.e; h = own.h; l = own.l })
    (λ steady_next. tt)
    (λ events. ap (λ (n : ℕ). at_place (place_next + 1) three (slice_set left (word two.h two.l) n) events)
    (ap (λ (n : ℕ). (n + 1) % 256) high_is ∙ sum_high_more low high high_small is))
    (λ v budget_again steady_next jump ready_then.
    let ended : List ℕ = slice_set left (word two.h two.l) (new / 256) in
    let fewer_then = within_limit v.budget u.budget limit budget_again fewer_now in
    sum_jumps loop Address limit (number + 1) end Zero v three ended has.sound has.scalar_is has.less
    (ap (λ (n : ℕ). (increment_of n two.flags).flags.z) high_is ∙ count_shows high two.flags high_small
    ∙ sum_top low high high_small is)
    jump fewer_then ready_then has.ends
    (λ of_type over. checks_at loop limit v three ended checks over fewer_then ready_then)))))))))
