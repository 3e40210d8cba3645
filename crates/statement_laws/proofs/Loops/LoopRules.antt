-- Rules for code of loops in general: values of parts, operations with a byte of memory, and the jumps after
-- a test and after a sum.
use Rattle.statement_laws.proofs.Prelude.{◌≡◌, ℕ, ◌+◌, ◌*◌, ◌/◌, ◌%◌, ◌<◌, ◌≤◌, Bool, true, false, not, nat_lt, nat_le, if◌then◌else◌, List, [], ◌∷◌, refl, sym, ap, subst, ◌∙◌, arith, Some, ltb-true, ltb-false, lt-ltb, le-ltb, leb-true, leb-false, byte_at, ScalarType, Byte, height_of, type_of, TypedExpression, TypesHold, read_scalar, next_turn, value, SourceState, Outcome, Gave, then_do, taking_one, Flow, Onward, values_of, Condition, Accumulate, M, Operation, Add, AddWithCarry, Compare, Subtract, SubtractWithBorrow, operate, subtract_of, bit, Registers, State, holds, word, wrap, JumpWhere, ExpressionNumber, IsExpressionIn, IsSteady, Does, at_place, borrow_shows, borrow_shows_more, word_borrow, after_step, Facts, LabelNumber, Step, no_facts, Context, IsSound, nodes_in, PartThere, PlainThere, Know, word_known, Stage, at_registers, loaded_in, script_of, then_does_where, BodyContext, IsSoundBody, step_of, room_for, value_is_word}
use Rattle.steps8080.specs.declared.step.Step.TheVariants as steps
use Rattle.steps8080.specs.declared.step.Task.TheVariants as tasks
use Rattle.statement_laws.proofs.Loops.CountedBytes.{Goes}
use Rattle.statement_laws.proofs.Loops.CountedVariables.{IsCounted, variable_address, variable_place}
use Rattle.statement_laws.proofs.Loops.LoopCode.{Steps, jump_then, knowing_nothing, steps_over}
use Rattle.statement_laws.proofs.Loops.LoopMeaning.{next_tests}
use Rattle.statement_laws.proofs.Loops.LoopTurns.{Loop, Out, Runs, StageAt, from_list, from_test, to_turn}

-- where the value of a part is: its low byte in A,
pub record ComesToA (number : ℕ) (scalar : ScalarType) (now : Registers) : Type 0 where
  pub small : number < values_of scalar
  pub a : now.a ≡ number % 256

-- or the value in HL
pub record ComesToHl (number : ℕ) (now : Registers) : Type 0 where
  pub small : number < 65536
  pub h : now.h ≡ number / 256
  pub l : now.l ≡ number % 256

pub byte_comes :
    {A : Type 0} {context : Context} {top need from to : ℕ} {base : List ℕ} {facts last : Facts}
    {others : List Step}
    {tree : TypedExpression} {Good : A → SourceState → State → Type 0}
    (number : ExpressionNumber) (go : ℕ → SourceState → Outcome A) (s : SourceState)
    (r : Registers) (memory : List ℕ)
    → IsExpressionIn (nodes_in context) context.storage number tree
    → TypesHold context.typed context.within tree
    → 2 * height_of tree ≤ need
    → Steps context facts from (steps.Part (record { task = tasks.Byte number; pushed = 0 }) ∷ others) last to
    → Stage context top 0 need base s facts r memory
    → ((n : ℕ) (u : SourceState) (now : Registers) (memory_now : List ℕ) (found : Facts) (middle : ℕ)
    → value context.later context.activation.around tree s ≡ Gave n u
    → ComesToA n (type_of tree) now
    → u.budget ≤ s.budget
    → Steps context found middle others last to
    → Stage context top 0 need base u found now memory_now
    → Does (loaded_in context) u.budget 0 (at_place middle now memory_now u.events) (go n u) Good)
    → Does (loaded_in context) s.budget 0 (at_place from r memory s.events)
    (then_do (value context.later context.activation.around tree s) go) Good
byte_comes {context = context} {top = top} {need = need} {base = base} {tree = tree} {Good = Good} number go s
    r memory is types fits (PartThere {found = found} {middle = middle} does rest) stage next =
    then_does_where (value context.later context.activation.around tree s)
    (does _ tree is types top base s r memory stage.below (room_for (2 * height_of tree) fits stage.room)
    stage.ready stage.known tt)
    (λ n u end gave arrives spent.
    let below = stage.below in
    subst (λ (state : State). Does (loaded_in context) u.budget 0 state (go n u) Good) (sym arrives.is_at)
    (next n u arrives.r arrives.memory found middle gave
    (record { small = (arrives.holds).small; a = (arrives.holds).a }) spent rest
    (record { below = omega (arith, below, spent); room = stage.room; ready = arrives.ready; known = (arrives.holds).known })))

pub word_comes :
    {A : Type 0} {context : Context} {top need from to : ℕ} {base : List ℕ} {facts last : Facts}
    {others : List Step}
    {tree : TypedExpression} {Good : A → SourceState → State → Type 0}
    (number : ExpressionNumber) (go : ℕ → SourceState → Outcome A) (s : SourceState)
    (r : Registers) (memory : List ℕ)
    → IsExpressionIn (nodes_in context) context.storage number tree
    → TypesHold context.typed context.within tree
    → 2 * height_of tree ≤ need
    → Steps context facts from (steps.Part (record { task = tasks.Word number; pushed = 0 }) ∷ others) last to
    → Stage context top 0 need base s facts r memory
    → ((n : ℕ) (u : SourceState) (now : Registers) (memory_now : List ℕ) (found : Facts) (middle : ℕ)
    → ComesToHl n now
    → u.budget ≤ s.budget
    → Steps context found middle others last to
    → Stage context top 0 need base u found now memory_now
    → Does (loaded_in context) u.budget 0 (at_place middle now memory_now u.events) (go n u) Good)
    → Does (loaded_in context) s.budget 0 (at_place from r memory s.events)
    (then_do (value context.later context.activation.around tree s) go) Good
word_comes {context = context} {top = top} {need = need} {base = base} {tree = tree} {Good = Good} number go s
    r memory is types fits (PartThere {found = found} {middle = middle} does rest) stage next =
    then_does_where (value context.later context.activation.around tree s)
    (does _ tree is types top base s r memory stage.below (room_for (2 * height_of tree) fits stage.room)
    stage.ready stage.known tt)
    (λ n u end gave arrives spent.
    let below = stage.below in
    let comes : ComesToHl n arrives.r = record {
      small = value_is_word (type_of tree) n (arrives.holds).small;
      h = (arrives.holds).h;
      l = (arrives.holds).l;
    } in
    subst (λ (state : State). Does (loaded_in context) u.budget 0 state (go n u) Good) (sym arrives.is_at)
    (next n u arrives.r arrives.memory found middle comes spent rest
    (record { below = omega (arith, below, spent); room = stage.room; ready = arrives.ready; known = (arrives.holds).known })))

-- A and the flags after an operation
abbrev pub operated : Operation → (byte : ℕ) → Registers → Registers
operated operation byte r =
    record r { a = (operate operation r.a byte r.flags).value; flags = (operate operation r.a byte r.flags).flags }

-- an operation of a loop gives a byte
abbrev pub GivesByte : Operation → Type 0
GivesByte Add = Unit {0}
GivesByte AddWithCarry = Unit {0}
GivesByte Subtract = Unit {0}
GivesByte SubtractWithBorrow = Unit {0}
GivesByte Compare = Unit {0}
GivesByte other = ⊥

gives_byte : (operation : Operation) (byte : ℕ) (r : Registers) → GivesByte operation → r.a < 256
    → (operate operation r.a byte r.flags).value < 256
gives_byte Add byte r is small = omega arith
gives_byte AddWithCarry byte r is small = omega arith
gives_byte Subtract byte r is small = omega arith
gives_byte SubtractWithBorrow byte r is small = omega arith
gives_byte Compare byte r is small = small
gives_byte other byte r is small = absurd is

-- an operation with the byte at the address in HL
pub operate_then :
    {A : Type 0} {context : Context} {top need budget more from to : ℕ} {base : List ℕ} {t : SourceState}
    {facts last : Facts}
    {r : Registers} {memory : List ℕ} {others : List Step} {outcome : Outcome A}
    {Good : A → SourceState → State → Type 0} (operation : Operation) (address : ℕ)
    → IsSound context
    → GivesByte operation
    → word r.h r.l ≡ address
    → Steps context facts from (steps.Plain (Accumulate operation M) ∷ others) last to
    → Stage context top 0 need base t facts r memory
    → ((found : Facts) (middle : ℕ)
    → Steps context found middle others last to
    → Stage context top 0 need base t found (operated operation (byte_at memory address) r) memory
    → Does (loaded_in context) budget more
    (at_place middle (operated operation (byte_at memory address) r) memory t.events) outcome Good)
    → Does (loaded_in context) budget more (at_place from r memory t.events) outcome Good
operate_then {context = context} {from = from} {t = t} {r = r} {memory = memory} operation address sound is hl
    (PlainThere there rest) stage next =
    let held = stage.ready.registers in
    at_registers (operated operation (byte_at memory address) r) sound stage there
    (ap (λ (n : ℕ). at_place (from + 1) (operated operation (byte_at memory n) r) memory t.events) hl) refl
    (record {
      a = gives_byte operation (byte_at memory address) r is held.a;
      b = held.b;
      c = held.c;
      d = held.d;
      e = held.e;
      h = held.h;
      l = held.l;
    })
    tt
    (λ after. next _ _ rest after)

-- the turns of a loop, to which its test jumps
pub record HasTurns
    {at : BodyContext} (loop : Loop at) (scalar : ScalarType) (limit : ℕ) (turn : LabelNumber)
    (facts : Facts) : Type 0 where
  pub sound : IsSoundBody at
  pub scalar_is : (loop.head).scalar ≡ scalar
  pub counted : IsCounted at.context (loop.head).variable scalar
  pub enough : 2 ≤ loop.need
  pub turns : Runs loop limit (at.context.activation.layout.place_of turn.index) facts (from_list loop)

-- what follows the last value and the variable
abbrev pub if_not_above : {at : BodyContext} → Loop at → (last number : ℕ) → SourceState → Outcome Flow
if_not_above loop last number t = if nat_lt last number then Gave Onward t else taking_one t (from_list loop)

-- what follows the last value
abbrev pub after_last : {at : BodyContext} → Loop at → ScalarType → (last : ℕ) → SourceState → Outcome Flow
after_last {at = at} loop scalar last t =
    then_do (read_scalar at.context.activation.around.program scalar
    (variable_place at.context (loop.head).variable) t)
    (if_not_above loop last)

pub from_test_is :
    {at : BodyContext} (loop : Loop at) (scalar : ScalarType) (t : SourceState)
    → (loop.head).scalar ≡ scalar
    → from_test loop t
    ≡ then_do (value at.context.later at.context.activation.around (loop.head).last t)
    (after_last loop scalar)
from_test_is {at = at} loop scalar t same =
    ap (λ (scalar : ScalarType). then_do
    (value at.context.later at.context.activation.around (loop.head).last t)
    (after_last loop scalar)) same

-- a jump to the turn, where the variable is not above the last value
pub test_jumps :
    {at : BodyContext} (loop : Loop at) (limit : ℕ) (turn : LabelNumber) (turn_facts : Facts)
    {scalar : ScalarType}
    {facts found : Facts} {from to : ℕ} (c : Condition) (last number : ℕ) (t : SourceState)
    (r : Registers) (memory : List ℕ)
    → HasTurns loop scalar limit turn turn_facts
    → holds c r.flags ≡ not (nat_lt last number)
    → Steps at.context facts from (steps.Jump (JumpWhere c) turn ∷ []) found to
    → t.budget ≤ limit
    → StageAt at loop.need loop.base t facts r memory
    → Know at.context turn_facts r memory
    → Goes loop limit found to
    → Does (loaded_in at.context) t.budget 0 (at_place from r memory t.events)
    (if_not_above loop last number t) (Out loop)
test_jumps {at = at} loop limit turn turn_facts {facts = facts} {found = found} {from = from} {to = to} c last
    number t r memory turns shows stand fewer stage enters goes =
    jump_then turns.sound.sound stand stage
    (λ taken step. below (nat_lt last number) refl (sym shows ∙ taken) step)
    (λ passed rest. above (nat_lt last number) refl (sym shows ∙ passed) rest)
  where
    below : (is_above : Bool) → nat_lt last number ≡ is_above → not (nat_lt last number) ≡ true
        → step_of (script_of at.context) (at_place from r memory t.events)
        ≡ at_place (at.context.activation.layout.place_of turn.index) r memory t.events
        → Does (loaded_in at.context) t.budget 0 (at_place from r memory t.events)
        (if is_above then Gave Onward t else taking_one t (from_list loop)) (Out loop)
    below true is never step = absurd (differs (sym (ap not is) ∙ never))
      where
        differs : false ≡ true → ⊥
        differs same = cc
    below false is never step =
        to_turn loop limit (at.context.activation.layout.place_of turn.index) turn_facts t from r
        memory turns.turns fewer
        (record { below = stage.below; room = stage.room; ready = stage.ready; known = enters })
        step

    above : (is_above : Bool) → nat_lt last number ≡ is_above → not (nat_lt last number) ≡ false
        → Steps at.context facts (from + 3) [] found to
        → Does (loaded_in at.context) t.budget 0 (at_place (from + 3) r memory t.events)
        (if is_above then Gave Onward t else taking_one t (from_list loop)) (Out loop)
    above true is passed rest =
        let over = steps_over rest in
        subst (λ (place : ℕ). Does (loaded_in at.context) t.budget 0 (at_place place r memory t.events)
        (Gave Onward t) (Out loop)) (sym over.1)
        (goes t r memory fewer
        (subst (λ (facts : Facts). StageAt at loop.need loop.base t facts r memory) over.0 stage))
    above false is passed rest = absurd (differs (sym (ap not is) ∙ passed))
      where
        differs : true ≡ false → ⊥
        differs same = cc

-- from a place on the machine goes on with the test
abbrev pub Checks : {at : BodyContext} → Loop at → (limit : ℕ) → Facts → (place : ℕ) → Type 0
Checks {at = at} loop limit facts place =
    (u : SourceState) (now : Registers) (memory_now : List ℕ)
    → u.budget ≤ limit
    → StageAt at loop.need loop.base u facts now memory_now
    → Does (loaded_in at.context) u.budget 0 (at_place place now memory_now u.events)
    (from_test loop u) (Out loop)

-- a jump to the end of the loop, where the sum is not of the type
pub sum_jumps :
    {at : BodyContext} (loop : Loop at) (scalar : ScalarType) (limit sum : ℕ) (end : LabelNumber)
    {facts found : Facts} {others : List Step} {from to : ℕ} (c : Condition) (u : SourceState)
    (r : Registers) (memory : List ℕ)
    → IsSoundBody at
    → (loop.head).scalar ≡ scalar
    → limit < loop.budget
    → holds c r.flags ≡ nat_le (values_of scalar) sum
    → Steps at.context facts from (steps.Jump (JumpWhere c) end ∷ others) found to
    → u.budget ≤ limit
    → StageAt at loop.need loop.base u facts r memory
    → Goes loop limit no_facts (at.context.activation.layout.place_of end.index)
    → (sum < values_of scalar
    → Steps at.context facts (from + 3) others found to
    → Does (loaded_in at.context) u.budget 0 (at_place (from + 3) r memory u.events)
    (from_test loop u) (Out loop))
    → Does (loaded_in at.context) u.budget 0 (at_place from r memory u.events)
    (next_turn at.context.later at.context.activation.around loop.head loop.list sum u) (Out loop)
sum_jumps {at = at} loop scalar limit sum end {from = from} c u r memory sound same less shows stand
    fewer stage goes next =
    jump_then sound.sound stand stage
    (λ taken step.
    let over = leb-true (values_of scalar) sum (sym shows ∙ taken) in
    next_tests loop scalar sum u sound same (omega (arith, fewer, less))
    (λ small. absurd (omega (arith, small, over)))
    (λ past. after_step step (goes u r memory fewer (knowing_nothing stage))))
    (λ passed rest.
    let small = leb-false (values_of scalar) sum (sym shows ∙ passed) in
    next_tests loop scalar sum u sound same (omega (arith, fewer, less))
    (λ is_small. next small rest)
    (λ past. absurd (omega (arith, small, past))))

-- where steps end, the test follows
pub checks_at :
    {at : BodyContext} (loop : Loop at) (limit : ℕ) {facts found : Facts} {from to : ℕ}
    (u : SourceState) (r : Registers)
    (memory : List ℕ)
    → Checks loop limit found to
    → Steps at.context facts from [] found to
    → u.budget ≤ limit
    → StageAt at loop.need loop.base u facts r memory
    → Does (loaded_in at.context) u.budget 0 (at_place from r memory u.events) (from_test loop u) (Out loop)
checks_at {at = at} loop limit u r memory checks rest fewer stage =
    let over = steps_over rest in
    subst (λ (place : ℕ). Does (loaded_in at.context) u.budget 0 (at_place place r memory u.events)
    (from_test loop u) (Out loop)) (sym over.1)
    (checks u r memory fewer (subst (λ (facts : Facts). StageAt at loop.need loop.base u facts r memory)
    over.0 stage))

-- what is known where A is the BYTE of the variable,
pub byte_known :
    {context : Context} {variable : ℕ} {scalar : ScalarType} (counted : IsCounted context variable scalar)
    (r : Registers) (memory : List ℕ)
    → r.a ≡ byte_at memory (variable_address context variable)
    → IsSteady context.activation (variable_address context variable)
    → Know context (record no_facts { byte_in_a = Some counted.location }) r memory
byte_known {context = context} counted r memory a steady = record {
  byte_holds = (
    a ∙ ap (byte_at memory) counted.is_there,
    subst (λ (n : ℕ). IsSteady context.activation n) counted.is_there steady,
  );
  word_holds = tt;
  address_holds = tt;
  zero_holds = tt;
}

-- where HL is its address,
pub place_known :
    {context : Context} {variable : ℕ} {scalar : ScalarType} (counted : IsCounted context variable scalar)
    (r : Registers) (memory : List ℕ)
    → word r.h r.l ≡ variable_address context variable
    → Know context (record no_facts { address_in_hl = Some counted.location }) r memory
place_known counted r memory hl =
    record { byte_holds = tt; word_holds = tt; address_holds = hl ∙ counted.is_there; zero_holds = tt }

-- and where HL is its ADDRESS
pub address_of_variable_known :
    {context : Context} {variable : ℕ} {scalar : ScalarType} (counted : IsCounted context variable scalar)
    (r : Registers) (memory : List ℕ)
    → r.l ≡ byte_at memory (variable_address context variable)
    → r.h ≡ byte_at memory (wrap (variable_address context variable + 1))
    → IsSteady context.activation (variable_address context variable)
    → IsSteady context.activation (wrap (variable_address context variable + 1))
    → Know context (record no_facts { word_in_hl = Some counted.location }) r memory
address_of_variable_known {context = context} counted r memory low high steady steady_too =
    word_known context r memory counted.location
    (subst (λ (n : ℕ). IsSteady context.activation n) counted.is_there steady)
    (subst (λ (n : ℕ). IsSteady context.activation (wrap (n + 1))) counted.is_there steady_too)
    (low ∙ ap (byte_at memory) counted.is_there)
    (high ∙ ap (λ (n : ℕ). byte_at memory (wrap (n + 1))) counted.is_there)

-- less than the number after another is not above it
pub not_above : (number last : ℕ) → nat_lt number (last + 1) ≡ not (nat_lt last number)
not_above number last = by (nat_lt last number) refl
  where
    by : (above : Bool) → nat_lt last number ≡ above → nat_lt number (last + 1) ≡ not above
    by true is = let more = ltb-true last number is in le-ltb number (last + 1) (omega (arith, more))
    by false is = let less = ltb-false last number is in lt-ltb number (last + 1) (omega (arith, less))

-- the borrow of a word from another one
pub pair_is_less : (d e h l : ℕ) → e < 256 → l < 256 → h < 256
    → (subtract_of d h (subtract_of e l false).flags.cy).flags.cy ≡ nat_lt (256 * d + e) (256 * h + l)
pair_is_less d e h l one two three =
    borrow_shows_more d h (subtract_of e l false).flags.cy three
    ∙ ap (λ (borrow : Bool). nat_lt d (h + bit borrow)) (borrow_shows e l two)
    ∙ word_borrow d e h l one two
