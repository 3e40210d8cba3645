-- The machine does with the stack pointer what the count of instructions says.
use Rattle.measure_laws.proofs.Prelude.{◌≡◌, ℕ, ◌+◌, true, List, refl, false≢true, Instr, Operand, M, Of, Sp, Register, A, StackPair, StackBc, act, with_operand, decrement_of, increment_of, Registers, State, register_of, two_less, wrap, WordForm, instruction_with, keeps_stack, keeps_stack_with}
use Rattle.isa8080.specs.declared.instr.Instr.TheVariants as instructions
use Rattle.isa8080.specs.State.{with_register}
use Rattle.asm8080.specs.declared.item.WordForm.TheVariants as forms

-- the stack pointer and the program counter are unchanged
abbrev pub Stays : Registers → Registers → Type 0
Stays r now = (now.sp ≡ r.sp) × (now.pc ≡ r.pc)

register_stays : (register : Register) (value : ℕ) (r : Registers) → Stays r (with_register register value r)
register_stays A value r = (refl, refl)
register_stays other value r = (refl, refl)

operand_stays :
    (operand : Operand) (value : ℕ) (s : State)
    → Stays s.registers (with_operand operand value s).registers
operand_stays (Of register) value s = register_stays register value s.registers
operand_stays M value s = (refl, refl)

-- an instruction that keeps the stack pointer does so on the machine, and continues with the next one
pub kept_stack_stays :
    (script : List (List ℕ)) (i : Instr) (s : State)
    → keeps_stack i ≡ true
    → Stays s.registers (act script i s).registers
kept_stack_stays script (instructions.Lxi Sp word) s kept = absurd (false≢true kept)
kept_stack_stays script (instructions.Inx Sp) s kept = absurd (false≢true kept)
kept_stack_stays script (instructions.Dcx Sp) s kept = absurd (false≢true kept)
kept_stack_stays script (instructions.Inr (Of register)) s kept =
    let t = increment_of (register_of register s.registers) s.registers.flags in
    register_stays register t.value (record s.registers { flags = t.flags })
kept_stack_stays script (instructions.Dcr (Of register)) s kept =
    let t = decrement_of (register_of register s.registers) s.registers.flags in
    register_stays register t.value (record s.registers { flags = t.flags })
kept_stack_stays script (instructions.Mvi operand value) s kept = operand_stays operand value s
kept_stack_stays script (instructions.Mov register operand) s kept = register_stays register _ s.registers
kept_stack_stays script instructions.Hlt s kept = absurd (false≢true kept)
kept_stack_stays script (instructions.ReturnIf condition) s kept = absurd (false≢true kept)
kept_stack_stays script (instructions.JumpIf condition word) s kept = absurd (false≢true kept)
kept_stack_stays script (instructions.CallIf condition word) s kept = absurd (false≢true kept)
kept_stack_stays script instructions.Ret s kept = absurd (false≢true kept)
kept_stack_stays script (instructions.Jmp word) s kept = absurd (false≢true kept)
kept_stack_stays script (instructions.Call word) s kept = absurd (false≢true kept)
kept_stack_stays script (instructions.Rst number) s kept = absurd (false≢true kept)
kept_stack_stays script (instructions.Pop pair) s kept = absurd (false≢true kept)
kept_stack_stays script (instructions.Push pair) s kept = absurd (false≢true kept)
kept_stack_stays script instructions.Pchl s kept = absurd (false≢true kept)
kept_stack_stays script instructions.Sphl s kept = absurd (false≢true kept)
kept_stack_stays script instruction s kept = (refl, refl)

-- PUSH takes two bytes, and so does a call for its return address; POP gives two back
pub push_takes_two :
    (script : List (List ℕ)) (pair : StackPair) (s : State)
    → (act script (instructions.Push pair) s).registers.sp ≡ two_less s.registers.sp
push_takes_two script pair s = refl

pub call_takes_two :
    (script : List (List ℕ)) (word : ℕ) (s : State)
    → (act script (instructions.Call word) s).registers.sp ≡ two_less s.registers.sp
call_takes_two script word s = refl

pub pop_gives_two :
    (script : List (List ℕ)) (pair : StackPair) (s : State)
    → (act script (instructions.Pop pair) s).registers.sp ≡ wrap (s.registers.sp + 2)
pop_gives_two script StackBc s = refl
pop_gives_two script other s = refl

-- INX SP gives one back
pub inx_gives_one :
    (script : List (List ℕ)) (s : State)
    → (act script (instructions.Inx Sp) s).registers.sp ≡ wrap (s.registers.sp + 1)
inx_gives_one script s = refl

-- the same for each instruction of a form that keeps the stack pointer with any word
pub word_keeps_stack :
    (form : WordForm) (word : ℕ) → keeps_stack_with form ≡ true
    → keeps_stack (instruction_with form word) ≡ true
word_keeps_stack (forms.LoadPair Sp) word kept = absurd (false≢true kept)
word_keeps_stack forms.Jump word kept = absurd (false≢true kept)
word_keeps_stack (forms.JumpWhere condition) word kept = absurd (false≢true kept)
word_keeps_stack forms.CallTo word kept = absurd (false≢true kept)
word_keeps_stack (forms.CallWhere condition) word kept = absurd (false≢true kept)
word_keeps_stack form word kept = refl
