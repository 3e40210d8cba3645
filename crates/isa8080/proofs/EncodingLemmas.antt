-- The first byte of an instruction has its form, and its bytes are read as the instruction again.
use Rattle.isa8080.proofs.Prelude.{◌≡◌, ℕ, Some, List, ◌++◌, length, slice_index, refl, ap, ◌∙◌, arith, Of, Bc, Add, AddWithCarry, Subtract, SubtractWithBorrow, And, ExclusiveOr, Or, Compare, Instr, Lxi, Stax, Ldax, Shld, Lhld, Sta, Lda, Inx, Dcx, Dad, Inr, Dcr, Mvi, Mov, MovToMemory, Accumulate, AccumulateImmediate, ReturnIf, JumpIf, CallIf, Jmp, Call, Rst, Pop, Push, Out, In, word, high_byte, low_byte, Form, One, Two, Three, form_of, bytes_of, instruction_of, first_instruction}
use Rattle.isa8080.specs.declared.instr.Register.TheVariants.{B, C, D, E, H, L, A}
use Rattle.isa8080.specs.declared.instr.IndexPair.TheVariants.{IndexBc}
use Rattle.isa8080.specs.declared.instr.StackPair.TheVariants.{StackBc}
use Rattle.isa8080.specs.declared.instr.Condition.TheVariants.{NotZero}
use Rattle.isa8080.specs.declared.instr.Restart.TheVariants.{N0}

-- the first byte of an instruction
abbrev pub code_of : Instr → ℕ
code_of i = slice_index (bytes_of i) 0

-- the form of the first byte of an instruction
abbrev pub form_for : Instr → Form
form_for (Lxi p w) = Three (Lxi p)
form_for (Shld w) = Three Shld
form_for (Lhld w) = Three Lhld
form_for (Sta w) = Three Sta
form_for (Lda w) = Three Lda
form_for (Mvi o v) = Two (Mvi o)
form_for (AccumulateImmediate k v) = Two (AccumulateImmediate k)
form_for (JumpIf c w) = Three (JumpIf c)
form_for (CallIf c w) = Three (CallIf c)
form_for (Jmp w) = Three Jmp
form_for (Call w) = Three Call
form_for (Out n) = Two Out
form_for (In n) = Two In
form_for i = One i

-- the form of the first byte of an instruction, computed for each of the 244 codes; the first lines name the
-- operands to go through
pub decodes : (i : Instr) → form_of (code_of i) ≡ form_for i
decodes (Lxi Bc w) = refl
decodes (Stax IndexBc) = refl
decodes (Ldax IndexBc) = refl
decodes (Inx Bc) = refl
decodes (Dcx Bc) = refl
decodes (Dad Bc) = refl
decodes (Inr (Of B)) = refl
decodes (Dcr (Of B)) = refl
decodes (Mvi (Of B) v) = refl
decodes (Mov B (Of B)) = refl
decodes (Mov C (Of B)) = refl
decodes (Mov D (Of B)) = refl
decodes (Mov E (Of B)) = refl
decodes (Mov H (Of B)) = refl
decodes (Mov L (Of B)) = refl
decodes (Mov A (Of B)) = refl
decodes (MovToMemory B) = refl
decodes (Accumulate Add (Of B)) = refl
decodes (Accumulate AddWithCarry (Of B)) = refl
decodes (Accumulate Subtract (Of B)) = refl
decodes (Accumulate SubtractWithBorrow (Of B)) = refl
decodes (Accumulate And (Of B)) = refl
decodes (Accumulate ExclusiveOr (Of B)) = refl
decodes (Accumulate Or (Of B)) = refl
decodes (Accumulate Compare (Of B)) = refl
decodes (AccumulateImmediate Add v) = refl
decodes (ReturnIf NotZero) = refl
decodes (JumpIf NotZero w) = refl
decodes (CallIf NotZero w) = refl
decodes (Rst N0) = refl
decodes (Pop StackBc) = refl
decodes (Push StackBc) = refl
decodes i = refl

-- a word is that of its bytes
pub word_of_bytes : (w : ℕ) → word (high_byte w) (low_byte w) ≡ w
word_of_bytes w = omega arith

-- the first byte of an instruction, whatever stands after it
pub first_byte : (i : Instr) (after : List ℕ) → slice_index (bytes_of i ++ after) 0 ≡ code_of i
first_byte (Lxi p w) after = refl
first_byte i after = refl

-- the operands that stand after the first byte are those of the instruction
pub operands_read :
    (i : Instr) (after : List ℕ)
    → instruction_of (form_for i) (slice_index (bytes_of i ++ after) 1) (slice_index (bytes_of i ++ after) 2)
    ≡ Some (i, length (bytes_of i))
operands_read (Lxi p w) after = ap (λ v. Some (Lxi p v, 3)) (word_of_bytes w)
operands_read (Shld w) after = ap (λ v. Some (Shld v, 3)) (word_of_bytes w)
operands_read (Lhld w) after = ap (λ v. Some (Lhld v, 3)) (word_of_bytes w)
operands_read (Sta w) after = ap (λ v. Some (Sta v, 3)) (word_of_bytes w)
operands_read (Lda w) after = ap (λ v. Some (Lda v, 3)) (word_of_bytes w)
operands_read (JumpIf c w) after = ap (λ v. Some (JumpIf c v, 3)) (word_of_bytes w)
operands_read (CallIf c w) after = ap (λ v. Some (CallIf c v, 3)) (word_of_bytes w)
operands_read (Jmp w) after = ap (λ v. Some (Jmp v, 3)) (word_of_bytes w)
operands_read (Call w) after = ap (λ v. Some (Call v, 3)) (word_of_bytes w)
operands_read i after = refl

-- the bytes of an instruction are read as the instruction, whatever stands after them
pub read_back :
    (i : Instr) (after : List ℕ)
    → first_instruction (bytes_of i ++ after) ≡ Some (i, length (bytes_of i))
read_back i after =
    let bytes = bytes_of i ++ after in
    ap (λ code. instruction_of (form_of code) (slice_index bytes 1) (slice_index bytes 2))
    (first_byte i after)
    ∙ (ap (λ form. instruction_of form (slice_index bytes 1) (slice_index bytes 2)) (decodes i) ∙ operands_read i after)
