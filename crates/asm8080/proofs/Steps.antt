-- A step where an instruction stands, and runs that begin with one.
use Rattle.asm8080.proofs.Prelude.{◌≡◌, ℕ, suc, ◌+◌, ◌%◌, ◌<◌, true, false, if◌then◌else◌, List, [], ◌∷◌, length, refl, sym, ap, ◌∙◌, arith, MEMORY_SIZE, byte_at, Event, Condition, Instr, Lxi, Shld, Lhld, Sta, Lda, Mvi, AccumulateImmediate, JumpIf, CallIf, Jmp, Call, Out, In, Ret, ReturnIf, Running, State, Registers, high_byte, holds, low_byte, wrap, act, return, advance, carry_out, next_word, running, state_after, step_by, step_of, form_of, decodes, form_for, first_step, Comes, Meets, effect_of, BytesStand, InstructionStands, size_of_instruction, equals_wrapped, word_of_two, wrap_of_place}
use Rattle.isa8080.proofs.EncodingLemmas.{code_of}

first_byte_is :
    (memory : List ℕ) (place : ℕ) (i : Instr)
    → InstructionStands memory place i
    → byte_at memory (wrap place) ≡ code_of i
first_byte_is memory place (Lxi p w) h = h.0
first_byte_is memory place i h = h.0

next_wrapped : (place : ℕ) → (wrap (place + 1) + 1) % MEMORY_SIZE ≡ wrap (place + 1 + 1)
next_wrapped place = omega arith

word_there :
    (s : State) (w code : ℕ)
    → BytesStand s.memory s.registers.pc (code ∷ low_byte w ∷ high_byte w ∷ [])
    → next_word s ≡ w
word_there s w code h =
    word_of_two (byte_at s.memory (wrap (s.registers.pc + 1)))
    (byte_at s.memory ((wrap (s.registers.pc + 1) + 1) % MEMORY_SIZE)) w h.1.0
    (ap (byte_at s.memory) (next_wrapped s.registers.pc) ∙ h.1.1.0)

carried_out :
    (script : List (List ℕ)) (i : Instr) (s : State)
    → InstructionStands s.memory s.registers.pc i
    → carry_out script (form_for i) s ≡ act script i (advance (size_of_instruction i) s)
carried_out script (Lxi p w) s h = ap (λ v. act script (Lxi p v) (advance 3 s)) (word_there s w _ h)
carried_out script (Shld w) s h = ap (λ v. act script (Shld v) (advance 3 s)) (word_there s w _ h)
carried_out script (Lhld w) s h = ap (λ v. act script (Lhld v) (advance 3 s)) (word_there s w _ h)
carried_out script (Sta w) s h = ap (λ v. act script (Sta v) (advance 3 s)) (word_there s w _ h)
carried_out script (Lda w) s h = ap (λ v. act script (Lda v) (advance 3 s)) (word_there s w _ h)
carried_out script (Mvi o v) s h = ap (λ n. act script (Mvi o n) (advance 2 s)) h.1.0
carried_out script (AccumulateImmediate k v) s h =
    ap (λ n. act script (AccumulateImmediate k n) (advance 2 s)) h.1.0
carried_out script (JumpIf c w) s h = ap (λ v. act script (JumpIf c v) (advance 3 s)) (word_there s w _ h)
carried_out script (CallIf c w) s h = ap (λ v. act script (CallIf c v) (advance 3 s)) (word_there s w _ h)
carried_out script (Jmp w) s h = ap (λ v. act script (Jmp v) (advance 3 s)) (word_there s w _ h)
carried_out script (Call w) s h = ap (λ v. act script (Call v) (advance 3 s)) (word_there s w _ h)
carried_out script (Out n) s h = ap (λ v. act script (Out v) (advance 2 s)) h.1.0
carried_out script (In n) s h = ap (λ v. act script (In v) (advance 2 s)) h.1.0
carried_out script i s h = refl

-- where an instruction stands at the program counter of a machine that runs, the step is what it does
pub step_is :
    (script : List (List ℕ)) (i : Instr) (s : State)
    → s.status ≡ Running
    → s.registers.pc < MEMORY_SIZE
    → InstructionStands s.memory s.registers.pc i
    → step_of script s ≡ act script i (advance (size_of_instruction i) s)
unfolding step_of
step_is script i s runs small h =
    ap (λ status. step_by script status s) runs
    ∙ (ap (λ place. carry_out script (form_of (byte_at s.memory place)) s)
    (equals_wrapped s.registers.pc small)
    ∙ (ap (λ code. carry_out script (form_of code) s) (first_byte_is s.memory s.registers.pc i h)
    ∙ (ap (λ form. carry_out script form s) (decodes i) ∙ carried_out script i s h)))

-- a run that begins with a step
pub step_then :
    (script : List (List ℕ)) (k : ℕ) (s t u : State)
    → step_of script s ≡ t
    → Comes script k t u
    → Comes script (suc k) s u
step_then script k s t u e h = h ∙ (ap (state_after script k) (sym e) ∙ sym (first_step script k s))

-- straight code does what its instructions do one after another
pub straight_code_runs :
    (script : List (List ℕ)) (instructions : List Instr) (s : State)
    → Meets script instructions s
    → Comes script (length instructions) s (effect_of script instructions s)
unfolding state_after
straight_code_runs script [] s h = refl
straight_code_runs script (i ∷ others) s h =
    step_then script (length others) s (act script i (advance (size_of_instruction i) s)) _
    (step_is script i s h.0 h.1 h.2) (straight_code_runs script others _ h.3)

-- a machine that runs, with its program counter at a place
abbrev pub at : (place : ℕ) → Registers → (memory : List ℕ) → List Event → State
at place r memory events = running (record r { pc = place }) memory events

-- a run that begins with an instruction
pub runs_from_instruction :
    (script : List (List ℕ)) (k : ℕ) (i : Instr) (place : ℕ) (r : Registers) (memory : List ℕ)
    (events : List Event) (u : State)
    → InstructionStands memory place i
    → place + size_of_instruction i < MEMORY_SIZE
    → Comes script k (act script i (at (place + size_of_instruction i) r memory events)) u
    → Comes script (suc k) (at place r memory events) u
runs_from_instruction script k i place r memory events u stands small more =
    step_then script k (at place r memory events)
    (act script i (at (place + size_of_instruction i) r memory events)) u
    (step_is script i (at place r memory events) refl (omega arith) stands
    ∙ ap (λ n. act script i (at n r memory events))
    (wrap_of_place (place + size_of_instruction i) small)) more

-- a run that begins with a jump
pub runs_from_jump :
    (script : List (List ℕ)) (k : ℕ) (word : ℕ) (place target : ℕ) (r : Registers) (memory : List ℕ)
    (events : List Event) (u : State)
    → InstructionStands memory place (Jmp word)
    → place < MEMORY_SIZE
    → word ≡ target
    → Comes script k (at target r memory events) u
    → Comes script (suc k) (at place r memory events) u
runs_from_jump script k word place target r memory events u stands small same more =
    step_then script k (at place r memory events) (at target r memory events) u
    (step_is script (Jmp word) (at place r memory events) refl small stands
    ∙ ap (λ n. at n r memory events) same) more

-- a run that begins with a conditional jump whose condition holds
pub jumps_where :
    (script : List (List ℕ)) (k : ℕ) (c : Condition) (word : ℕ) (place target : ℕ) (r : Registers)
    (memory : List ℕ) (events : List Event) (u : State)
    → InstructionStands memory place (JumpIf c word)
    → place < MEMORY_SIZE
    → holds c r.flags ≡ true
    → word ≡ target
    → Comes script k (at target r memory events) u
    → Comes script (suc k) (at place r memory events) u
jumps_where script k c word place target r memory events u stands small true_here same more =
    step_then script k (at place r memory events) (at target r memory events) u
    (step_is script (JumpIf c word) (at place r memory events) refl small stands
    ∙ (ap (λ b. if b then at word r memory events else at (wrap (place + 3)) r memory events) true_here
    ∙ ap (λ n. at n r memory events) same)) more

-- a run that begins with a conditional jump whose condition does not hold
pub goes_past :
    (script : List (List ℕ)) (k : ℕ) (c : Condition) (word : ℕ) (place : ℕ) (r : Registers)
    (memory : List ℕ) (events : List Event) (u : State)
    → InstructionStands memory place (JumpIf c word)
    → place + 3 < MEMORY_SIZE
    → holds c r.flags ≡ false
    → Comes script k (at (place + 3) r memory events) u
    → Comes script (suc k) (at place r memory events) u
goes_past script k c word place r memory events u stands small false_here more =
    step_then script k (at place r memory events) (at (place + 3) r memory events) u
    (step_is script (JumpIf c word) (at place r memory events) refl (omega arith) stands
    ∙ (ap (λ b. if b then at word r memory events else at (wrap (place + 3)) r memory events) false_here
    ∙ ap (λ n. at n r memory events) (wrap_of_place (place + 3) small))) more

-- a run that begins with a conditional return whose condition does not hold
pub stays_here :
    (script : List (List ℕ)) (k : ℕ) (c : Condition) (place : ℕ) (r : Registers)
    (memory : List ℕ) (events : List Event) (u : State)
    → InstructionStands memory place (ReturnIf c)
    → place + 1 < MEMORY_SIZE
    → holds c r.flags ≡ false
    → Comes script k (at (place + 1) r memory events) u
    → Comes script (suc k) (at place r memory events) u
stays_here script k c place r memory events u stands small false_here more =
    step_then script k (at place r memory events) (at (place + 1) r memory events) u
    (step_is script (ReturnIf c) (at place r memory events) refl (omega arith) stands
    ∙ (ap (λ b. if b then return (at (wrap (place + 1)) r memory events) else at (wrap (place + 1)) r
    memory events) false_here
    ∙ ap (λ n. at n r memory events) (wrap_of_place (place + 1) small))) more

-- the machine after a return
abbrev pub returned : Registers → (memory : List ℕ) → List Event → State
returned r memory events = return (running r memory events)

-- a run that is a return
pub returns :
    (script : List (List ℕ)) (place : ℕ) (r : Registers) (memory : List ℕ) (events : List Event)
    → InstructionStands memory place Ret
    → place < MEMORY_SIZE
    → Comes script 1 (at place r memory events) (returned r memory events)
unfolding state_after
returns script place r memory events stands small =
    step_then script 0 (at place r memory events) (returned r memory events) (returned r memory events)
    (step_is script Ret (at place r memory events) refl small stands) refl

-- a run that is a conditional return whose condition holds
pub returns_where :
    (script : List (List ℕ)) (c : Condition) (place : ℕ) (r : Registers) (memory : List ℕ)
    (events : List Event)
    → InstructionStands memory place (ReturnIf c)
    → place < MEMORY_SIZE
    → holds c r.flags ≡ true
    → Comes script 1 (at place r memory events) (returned r memory events)
unfolding state_after
returns_where script c place r memory events stands small true_here =
    step_then script 0 (at place r memory events) (returned r memory events) (returned r memory events)
    (step_is script (ReturnIf c) (at place r memory events) refl small stands
    ∙ ap (λ b. if b then returned r memory events else at (wrap (place + 1)) r memory events) true_here) refl
