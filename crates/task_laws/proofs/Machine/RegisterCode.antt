-- Steps that change only registers, one after another.
use Rattle.task_laws.proofs.Prelude.{◌≡◌, ℕ, ◌+◌, ◌/◌, ◌%◌, ◌<◌, ◌≤◌, List, [], ◌∷◌, ◌++◌, bit_and, refl, sym, ap, ◌∙◌, arith, subst, and_le_l, or_of_8, xor_of_8, IsMemory, byte_at, byte_small, Event, SourceState, Outcome, Instr, Accumulate, AccumulateImmediate, Cma, Dad, Dcx, Inx, Lxi, Mov, Mvi, Rar, Rlc, Rrc, Ral, Xchg, Of, Operation, Add, AddWithCarry, Subtract, SubtractWithBorrow, And, ExclusiveOr, Or, Compare, Bc, De, Hl, Register, A, B, C, D, E, H, L, Flags, HoldBytes, Registers, State, register_of, wrap, operate, act, running, InstructionStands, size_of_instruction, Does, loaded_of, at_place, plain_first, stands_now, Asks, FactsHold, facts_after, Facts, Part, Step, after, plain, Context, IsSound, distances_in, StepsStand, PlainThere, Know, high_is_byte, half_small, high_of_wrapped, turned_small}
use Rattle.isa8080.specs.State.{with_register}
use Rattle.asm8080.specs.declared.item.Item.TheVariants as items
use Rattle.task_laws.proofs.Machine.Rules.{GoesOn, ready_with_registers}

-- an instruction of code for words that touches registers alone, and not the stack pointer
abbrev pub IsOnRegisters : Instr → Type 0
IsOnRegisters (Lxi Bc word) = Unit {0}
IsOnRegisters (Lxi De word) = Unit {0}
IsOnRegisters (Lxi Hl word) = Unit {0}
IsOnRegisters (Inx Bc) = Unit {0}
IsOnRegisters (Inx De) = Unit {0}
IsOnRegisters (Inx Hl) = Unit {0}
IsOnRegisters (Dcx Bc) = Unit {0}
IsOnRegisters (Dcx De) = Unit {0}
IsOnRegisters (Dcx Hl) = Unit {0}
IsOnRegisters (Dad pair) = Unit {0}
IsOnRegisters (Mvi (Of register) number) = Unit {0}
IsOnRegisters (Mov register (Of other)) = Unit {0}
IsOnRegisters (Accumulate operation (Of register)) = Unit {0}
IsOnRegisters (AccumulateImmediate operation number) = Unit {0}
IsOnRegisters Rlc = Unit {0}
IsOnRegisters Rrc = Unit {0}
IsOnRegisters Ral = Unit {0}
IsOnRegisters Rar = Unit {0}
IsOnRegisters Cma = Unit {0}
IsOnRegisters Xchg = Unit {0}
IsOnRegisters i = ⊥

-- the registers after it
abbrev pub does_to : Instr → Registers → Registers
does_to i r = (act [] i (running r [] [])).registers

-- it does no more
acts_on :
    (script : List (List ℕ)) (i : Instr) (r : Registers) (memory : List ℕ) (events : List Event)
    → IsOnRegisters i
    → act script i (running r memory events) ≡ running (does_to i r) memory events
acts_on script (Lxi Bc word) r memory events is = refl
acts_on script (Lxi De word) r memory events is = refl
acts_on script (Lxi Hl word) r memory events is = refl
acts_on script (Inx Bc) r memory events is = refl
acts_on script (Inx De) r memory events is = refl
acts_on script (Inx Hl) r memory events is = refl
acts_on script (Dcx Bc) r memory events is = refl
acts_on script (Dcx De) r memory events is = refl
acts_on script (Dcx Hl) r memory events is = refl
acts_on script (Dad pair) r memory events is = refl
acts_on script (Mvi (Of register) number) r memory events is = refl
acts_on script (Mov register (Of other)) r memory events is = refl
acts_on script (Accumulate operation (Of register)) r memory events is = refl
acts_on script (AccumulateImmediate operation number) r memory events is = refl
acts_on script Rlc r memory events is = refl
acts_on script Rrc r memory events is = refl
acts_on script Ral r memory events is = refl
acts_on script Rar r memory events is = refl
acts_on script Cma r memory events is = refl
acts_on script Xchg r memory events is = refl
acts_on script i r memory events is = absurd is

-- wherever it is placed
placed : (i : Instr) (place : ℕ) (r : Registers) → IsOnRegisters i
    → does_to i (record r { pc = wrap place }) ≡ record (does_to i r) { pc = wrap place }
placed (Lxi Bc word) place r is = refl
placed (Lxi De word) place r is = refl
placed (Lxi Hl word) place r is = refl
placed (Inx Bc) place r is = refl
placed (Inx De) place r is = refl
placed (Inx Hl) place r is = refl
placed (Dcx Bc) place r is = refl
placed (Dcx De) place r is = refl
placed (Dcx Hl) place r is = refl
placed (Dad Bc) place r is = refl
placed (Dad pair) place r is = refl
placed (Mvi (Of B) number) place r is = refl
placed (Mvi (Of register) number) place r is = refl
placed (Mov B (Of B)) place r is = refl
placed (Mov B (Of other)) place r is = refl
placed (Mov register (Of B)) place r is = refl
placed (Mov register (Of other)) place r is = refl
placed (Accumulate operation (Of B)) place r is = refl
placed (Accumulate operation (Of register)) place r is = refl
placed (AccumulateImmediate operation number) place r is = refl
placed Rlc place r is = refl
placed Rrc place r is = refl
placed Ral place r is = refl
placed Rar place r is = refl
placed Cma place r is = refl
placed Xchg place r is = refl
placed i place r is = absurd is

pub acts_at :
    (script : List (List ℕ)) (i : Instr) (place : ℕ) (r : Registers) (memory : List ℕ) (events : List Event)
    → IsOnRegisters i
    → act script i (at_place place r memory events) ≡ at_place place (does_to i r) memory events
acts_at script i place r memory events is =
    acts_on script i (record r { pc = wrap place }) memory events is
    ∙ ap (λ (now : Registers). running now memory events) (placed i place r is)

-- the stack pointer stays
stays_at : (i : Instr) (r : Registers) → IsOnRegisters i → (does_to i r).sp ≡ r.sp
stays_at (Lxi Bc word) r is = refl
stays_at (Lxi De word) r is = refl
stays_at (Lxi Hl word) r is = refl
stays_at (Inx Bc) r is = refl
stays_at (Inx De) r is = refl
stays_at (Inx Hl) r is = refl
stays_at (Dcx Bc) r is = refl
stays_at (Dcx De) r is = refl
stays_at (Dcx Hl) r is = refl
stays_at (Dad pair) r is = refl
stays_at (Mvi (Of B) number) r is = refl
stays_at (Mvi (Of register) number) r is = refl
stays_at (Mov B (Of other)) r is = refl
stays_at (Mov register (Of other)) r is = refl
stays_at (Accumulate operation (Of register)) r is = refl
stays_at (AccumulateImmediate operation number) r is = refl
stays_at Rlc r is = refl
stays_at Rrc r is = refl
stays_at Ral r is = refl
stays_at Rar r is = refl
stays_at Cma r is = refl
stays_at Xchg r is = refl
stays_at i r is = absurd is

-- the numbers in an instruction have its width
abbrev NumbersFit : Instr → Type 0
NumbersFit (Lxi pair word) = word < 65536
NumbersFit (Mvi operand number) = number < 256
NumbersFit (AccumulateImmediate operation number) = number < 256
NumbersFit i = Unit {0}

word_fits : (word high : ℕ) → high ≡ word / 256 → high < 256 → word < 65536
word_fits word high same small = omega (arith, same, small)

byte_fits : (number byte : ℕ) → byte ≡ number → byte < 256 → number < 256
byte_fits number byte same small = omega (arith, same, small)

-- since their bytes are in a memory
numbers_fit :
    (i : Instr) (memory : List ℕ) (place : ℕ)
    → IsMemory memory
    → InstructionStands memory place i
    → NumbersFit i
numbers_fit (Lxi pair word) memory place is stands =
    word_fits word (byte_at memory (wrap (place + 1 + 1))) (stands.1.1.0)
    (byte_small memory (wrap (place + 1 + 1)) is)
numbers_fit (Mvi operand number) memory place is stands =
    byte_fits number (byte_at memory (wrap (place + 1))) (stands.1.0)
    (byte_small memory (wrap (place + 1)) is)
numbers_fit (AccumulateImmediate operation number) memory place is stands =
    byte_fits number (byte_at memory (wrap (place + 1))) (stands.1.0)
    (byte_small memory (wrap (place + 1)) is)
numbers_fit i memory place is stands = tt

pub register_small : (register : Register) (r : Registers) → HoldBytes r → register_of register r < 256
register_small B r bytes = bytes.b
register_small C r bytes = bytes.c
register_small D r bytes = bytes.d
register_small E r bytes = bytes.e
register_small H r bytes = bytes.h
register_small L r bytes = bytes.l
register_small A r bytes = bytes.a

with_small : (register : Register) (r : Registers) (byte : ℕ) → byte < 256 → HoldBytes r
    → HoldBytes (with_register register byte r)
with_small B r byte small bytes =
    record { a = bytes.a; b = small; c = bytes.c; d = bytes.d; e = bytes.e; h = bytes.h; l = bytes.l }
with_small C r byte small bytes =
    record { a = bytes.a; b = bytes.b; c = small; d = bytes.d; e = bytes.e; h = bytes.h; l = bytes.l }
with_small D r byte small bytes =
    record { a = bytes.a; b = bytes.b; c = bytes.c; d = small; e = bytes.e; h = bytes.h; l = bytes.l }
with_small E r byte small bytes =
    record { a = bytes.a; b = bytes.b; c = bytes.c; d = bytes.d; e = small; h = bytes.h; l = bytes.l }
with_small H r byte small bytes =
    record { a = bytes.a; b = bytes.b; c = bytes.c; d = bytes.d; e = bytes.e; h = small; l = bytes.l }
with_small L r byte small bytes =
    record { a = bytes.a; b = bytes.b; c = bytes.c; d = bytes.d; e = bytes.e; h = bytes.h; l = small }
with_small A r byte small bytes =
    record { a = small; b = bytes.b; c = bytes.c; d = bytes.d; e = bytes.e; h = bytes.h; l = bytes.l }

with_a : (r : Registers) (byte : ℕ) (flags : Flags) → byte < 256 → HoldBytes r
    → HoldBytes (record r { a = byte; flags = flags })
with_a r byte flags small bytes =
    record { a = small; b = bytes.b; c = bytes.c; d = bytes.d; e = bytes.e; h = bytes.h; l = bytes.l }

operated_small : (operation : Operation) (a x : ℕ) (flags : Flags) → a < 256 → x < 256
    → (operate operation a x flags).value < 256
operated_small Add a x flags one other = omega arith
operated_small AddWithCarry a x flags one other = omega arith
operated_small Subtract a x flags one other = omega arith
operated_small SubtractWithBorrow a x flags one other = omega arith
operated_small And a x flags one other = let less : bit_and a x ≤ a = and_le_l a x in omega (arith, less, one)
operated_small ExclusiveOr a x flags one other = xor_of_8 a x one other
operated_small Or a x flags one other = or_of_8 a x one other
operated_small Compare a x flags one other = one

low_small : (n : ℕ) → n % 256 < 256
low_small n = omega arith

-- and the others hold bytes
bytes_after : (i : Instr) (r : Registers) → IsOnRegisters i → NumbersFit i → HoldBytes r
    → HoldBytes (does_to i r)
bytes_after (Lxi Bc word) r is fit bytes =
    record { a = bytes.a; b = high_is_byte word fit; c = low_small word; d = bytes.d; e = bytes.e; h = bytes.h; l = bytes.l }
bytes_after (Lxi De word) r is fit bytes =
    record { a = bytes.a; b = bytes.b; c = bytes.c; d = high_is_byte word fit; e = low_small word; h = bytes.h; l = bytes.l }
bytes_after (Lxi Hl word) r is fit bytes =
    record { a = bytes.a; b = bytes.b; c = bytes.c; d = bytes.d; e = bytes.e; h = high_is_byte word fit; l = low_small word }
bytes_after (Inx Bc) r is fit bytes =
    record { a = bytes.a; b = high_of_wrapped _; c = low_small _; d = bytes.d; e = bytes.e; h = bytes.h; l = bytes.l }
bytes_after (Inx De) r is fit bytes =
    record { a = bytes.a; b = bytes.b; c = bytes.c; d = high_of_wrapped _; e = low_small _; h = bytes.h; l = bytes.l }
bytes_after (Inx Hl) r is fit bytes =
    record { a = bytes.a; b = bytes.b; c = bytes.c; d = bytes.d; e = bytes.e; h = high_of_wrapped _; l = low_small _ }
bytes_after (Dcx Bc) r is fit bytes =
    record { a = bytes.a; b = high_of_wrapped _; c = low_small _; d = bytes.d; e = bytes.e; h = bytes.h; l = bytes.l }
bytes_after (Dcx De) r is fit bytes =
    record { a = bytes.a; b = bytes.b; c = bytes.c; d = high_of_wrapped _; e = low_small _; h = bytes.h; l = bytes.l }
bytes_after (Dcx Hl) r is fit bytes =
    record { a = bytes.a; b = bytes.b; c = bytes.c; d = bytes.d; e = bytes.e; h = high_of_wrapped _; l = low_small _ }
bytes_after (Dad pair) r is fit bytes =
    record { a = bytes.a; b = bytes.b; c = bytes.c; d = bytes.d; e = bytes.e; h = high_of_wrapped _; l = low_small _ }
bytes_after (Mvi (Of register) number) r is fit bytes = with_small register r number fit bytes
bytes_after (Mov register (Of other)) r is fit bytes =
    with_small register r (register_of other r) (register_small other r bytes) bytes
bytes_after (Accumulate operation (Of register)) r is fit bytes =
    let result = operate operation r.a (register_of register r) r.flags in
    with_a r result.value result.flags
    (operated_small operation r.a (register_of register r) r.flags bytes.a
    (register_small register r bytes)) bytes
bytes_after (AccumulateImmediate operation number) r is fit bytes =
    let result = operate operation r.a number r.flags in
    with_a r result.value result.flags (operated_small operation r.a number r.flags bytes.a fit) bytes
bytes_after Rlc r is fit bytes =
    let a = bytes.a in
    record { a = omega (arith, a); b = bytes.b; c = bytes.c; d = bytes.d; e = bytes.e; h = bytes.h; l = bytes.l }
bytes_after Rrc r is fit bytes =
    let a = bytes.a in
    record { a = omega (arith, a); b = bytes.b; c = bytes.c; d = bytes.d; e = bytes.e; h = bytes.h; l = bytes.l }
bytes_after Ral r is fit bytes =
    record { a = turned_small r.a r.flags.cy bytes.a; b = bytes.b; c = bytes.c; d = bytes.d; e = bytes.e; h = bytes.h; l = bytes.l }
bytes_after Rar r is fit bytes =
    record { a = half_small r.a r.flags.cy bytes.a; b = bytes.b; c = bytes.c; d = bytes.d; e = bytes.e; h = bytes.h; l = bytes.l }
bytes_after Cma r is fit bytes =
    record { a = omega arith; b = bytes.b; c = bytes.c; d = bytes.d; e = bytes.e; h = bytes.h; l = bytes.l }
bytes_after Xchg r is fit bytes =
    record { a = bytes.a; b = bytes.b; c = bytes.c; d = bytes.h; e = bytes.l; h = bytes.d; l = bytes.e }
bytes_after i r is fit bytes = absurd is

-- it asks for nothing
asks_nothing :
    (context : Context) (facts : Facts) (i : Instr) (r : Registers) → IsOnRegisters i
    → Asks context.activation (distances_in context) facts i r
asks_nothing context facts (Lxi Bc word) r is = tt
asks_nothing context facts (Lxi De word) r is = tt
asks_nothing context facts (Lxi Hl word) r is = tt
asks_nothing context facts (Inx Bc) r is = tt
asks_nothing context facts (Inx De) r is = tt
asks_nothing context facts (Inx Hl) r is = tt
asks_nothing context facts (Dcx Bc) r is = tt
asks_nothing context facts (Dcx De) r is = tt
asks_nothing context facts (Dcx Hl) r is = tt
asks_nothing context facts (Dad pair) r is = tt
asks_nothing context facts (Mvi (Of register) number) r is = tt
asks_nothing context facts (Mov A (Of other)) r is = tt
asks_nothing context facts (Mov register (Of other)) r is = tt
asks_nothing context facts (Accumulate operation (Of register)) r is = tt
asks_nothing context facts (AccumulateImmediate operation number) r is = tt
asks_nothing context facts Rlc r is = tt
asks_nothing context facts Rrc r is = tt
asks_nothing context facts Ral r is = tt
asks_nothing context facts Rar r is = tt
asks_nothing context facts Cma r is = tt
asks_nothing context facts Xchg r is = tt
asks_nothing context facts i r is = absurd is

-- the facts after it
known_after :
    (context : Context) (facts : Facts) (i : Instr) (r : Registers) (memory : List ℕ)
    → IsOnRegisters i
    → IsMemory memory
    → HoldBytes r
    → Know context facts r memory
    → Know context (after facts i) (does_to i r) memory
known_after context facts i r memory on is bytes known =
    subst
    (λ (s : State).
    FactsHold context.activation (distances_in context) (after facts i) s.registers s.memory)
    (acts_on [] i r memory [] on)
    (facts_after [] context.activation (distances_in context) facts i (running r memory []) is bytes
    (asks_nothing context facts i r on) known)

-- the registers after instructions
abbrev pub effect : List Instr → Registers → Registers
effect [] r = r
effect (i ∷ others) r = effect others (does_to i r)

abbrev pub AreOnRegisters : List Instr → Type 0
AreOnRegisters [] = Unit {0}
AreOnRegisters (i ∷ others) = IsOnRegisters i × AreOnRegisters others

-- A machine at such instructions: the code after them runs with the registers after them.
pub registers_then :
    {A : Type 0} {outcome : Outcome A} {Good : A → SourceState → State → Type 0}
    {context : Context} {PartIs : (before : Facts) → Part → (from : ℕ) → (after : Facts) → (to : ℕ) → Type 0}
    {last : Facts} {to top budget more : ℕ} {base source memory : List ℕ} {frame : List (List ℕ)}
    {events : List Event} (instructions : List Instr) (others : List Step) (r : Registers)
    {facts : Facts} {from : ℕ}
    → IsSound context
    → AreOnRegisters instructions
    → StepsStand context PartIs facts from (plain instructions ++ others) last to
    → GoesOn context facts top base source frame r memory
    → ((middle : ℕ) (found : Facts)
    → StepsStand context PartIs found middle others last to
    → GoesOn context found top base source frame (effect instructions r) memory
    → Does (loaded_of context.activation) budget more
    (at_place middle (effect instructions r) memory events) outcome Good)
    → Does (loaded_of context.activation) budget more (at_place from r memory events) outcome Good
registers_then [] others r {facts = facts} {from = from} sound on stand going rest =
    rest from facts stand going
registers_then {outcome = outcome} {Good = Good} {context = context} {budget = budget} {more = more}
    {memory = memory} {events = events} (i ∷ instructions) others r {facts = facts} {from = from} sound on
    (PlainThere there stand) going rest =
    let ready = going.ready in
    let now = does_to i r in
    let stands =
    stands_now context.activation memory (items.Plain i ∷ []) from (from + size_of_instruction i)
    sound.lies ready.shares.code there in
    let fit = numbers_fit i memory from ready.shares.is_memory stands.0 in
    plain_first r sound.lies ready.shares.code there
    (subst (λ (s : State). Does (loaded_of context.activation) budget more s outcome Good)
    (sym (acts_at context.activation.around.program.script i (from + size_of_instruction i) r
    memory events on.0))
    (registers_then instructions others now sound on.1 stand
    (record {
      ready = ready_with_registers (stays_at i r on.0) (bytes_after i r on.0 fit ready.registers) ready;
      known = known_after context facts i r memory on.0 ready.shares.is_memory ready.registers going.known;
    })
    rest))
