-- The facts after an instruction are true after it.
use Rattle.code_meaning.proofs.Prelude.{◌≡◌, ℕ, ◌==◌, Bool, true, false, if◌then◌else◌, List, bit_and, bit_or, Option, refl, IsMemory, Instr, Nop, Lxi, Stax, Ldax, Shld, Lhld, Sta, Lda, Inx, Dcx, Dad, Inr, Dcr, Mvi, Rlc, Rrc, Ral, Rar, Daa, Cma, Stc, Cmc, Mov, MovToMemory, Hlt, Accumulate, AccumulateImmediate, ReturnIf, JumpIf, CallIf, Ret, Jmp, Call, Rst, Pop, Push, Out, In, Xthl, Xchg, Pchl, Sphl, Di, Ei, Operand, Of, M, Operation, Add, AddWithCarry, Subtract, SubtractWithBorrow, And, ExclusiveOr, Or, Compare, Bc, De, Hl, Sp, B, C, D, E, H, L, A, StackBc, StackDe, StackHl, Psw, HoldBytes, Registers, State, high_byte, holds, low_byte, pushed_of, act, jump, push, return, WordForm, LoadPair, StoreHl, LoadHl, StoreA, LoadA, Jump, JumpWhere, CallTo, CallWhere, instruction_with, Location, Place, Number, Facts, after, after_operation_with, after_word, without_hl, without_memory, Activation, Asks, WordAsks, AllHold, ByteHolds, Distances, FactsHold, place_at, word_of_halves}
use lib.Bits.{and_self, or_self}
use Rattle.code_meaning.proofs.Facts.Changes.{facts_stay, no_facts_hold, with_result_holds, without_a_holds, without_hl_holds, without_memory_holds, without_register_holds, without_zero_holds}
use Rattle.code_meaning.proofs.Facts.Stores.{high_holds, loaded_byte, loaded_word, low_holds, pushed_stays, put_byte, stored_byte, stored_word}

-- the state that a test chooses
either_holds :
    (activation : Activation) (distance : Distances) (facts : Facts) (test : Bool) (one other : State)
    → FactsHold activation distance facts one.registers one.memory
    → FactsHold activation distance facts other.registers other.memory
    → FactsHold activation distance facts (if test then one else other).registers
    (if test then one else other).memory
either_holds activation distance facts true one other first second = first
either_holds activation distance facts false one other first second = second

-- after an instruction with the word of a place
pub facts_after_word :
    (script : List (List ℕ)) (activation : Activation) (distance : Distances) (facts : Facts)
    (form : WordForm) (place : Place) (s : State)
    → IsMemory s.memory
    → HoldBytes s.registers
    → WordAsks activation form (place_at activation.layout place)
    → FactsHold activation distance facts s.registers s.memory
    → FactsHold activation distance (after_word facts form place)
    (act script (instruction_with form (place_at activation.layout place)) s).registers
    (act script (instruction_with form (place_at activation.layout place)) s).memory
facts_after_word script activation distance facts (LoadPair Bc) place s is bytes asks hold = hold
facts_after_word script activation distance facts (LoadPair De) place s is bytes asks hold = hold
facts_after_word script activation distance facts (LoadPair Sp) place s is bytes asks hold = no_facts_hold
facts_after_word script activation distance facts (LoadPair Hl) place s is bytes asks hold = record {
  byte_holds = hold.byte_holds;
  word_holds = tt;
  address_holds = word_of_halves (place_at activation.layout place);
  zero_holds = hold.zero_holds;
}
facts_after_word script activation distance facts StoreHl place s is bytes asks hold = record {
  byte_holds = tt;
  word_holds =
      stored_word activation s.memory (place_at activation.layout place) s.registers.h
      s.registers.l is bytes.l asks;
  address_holds = hold.address_holds;
  zero_holds = hold.zero_holds;
}
facts_after_word script activation distance facts LoadHl place s is bytes asks hold = record {
  byte_holds = hold.byte_holds;
  word_holds = loaded_word activation s.memory (place_at activation.layout place) is asks;
  address_holds = tt;
  zero_holds = hold.zero_holds;
}
facts_after_word script activation distance facts StoreA place s is bytes asks hold = record {
  byte_holds = stored_byte activation s.memory (place_at activation.layout place) s.registers.a is asks;
  word_holds = tt;
  address_holds = hold.address_holds;
  zero_holds = hold.zero_holds;
}
facts_after_word script activation distance facts LoadA place s is bytes asks hold = record {
  byte_holds = (refl, asks);
  word_holds = hold.word_holds;
  address_holds = hold.address_holds;
  zero_holds = tt;
}
facts_after_word script activation distance facts Jump place s is bytes asks hold = no_facts_hold
facts_after_word script activation distance facts (JumpWhere condition) place s is bytes asks hold =
    either_holds activation distance facts (holds condition s.registers.flags)
    (jump (place_at activation.layout place) s) s hold hold
facts_after_word script activation distance facts CallTo place s is bytes asks hold = no_facts_hold
facts_after_word script activation distance facts (CallWhere condition) place s is bytes asks hold =
    no_facts_hold

byte_of :
    (activation : Activation) (distance : Distances) (held : Option Location) (one other : ℕ)
    (memory : List ℕ)
    → one ≡ other
    → ByteHolds activation distance held other memory
    → ByteHolds activation distance held one memory
byte_of activation distance held one other memory same holds = rw same holds

-- A is unchanged, and the zero flag shows whether it is 0
same_a_holds :
    (activation : Activation) (distance : Distances) (facts : Facts) (r : Registers) (memory : List ℕ)
    (other : ℕ)
    → other ≡ r.a
    → FactsHold activation distance facts r memory
    → AllHold activation distance (record facts { zero_shows_a = true }) other r.h r.l (other == 0) memory
same_a_holds activation distance facts r memory other same hold = record {
  byte_holds = byte_of activation distance facts.byte_in_a other r.a memory same hold.byte_holds;
  word_holds = hold.word_holds;
  address_holds = hold.address_holds;
  zero_holds = refl;
}

facts_after_operation :
    (script : List (List ℕ)) (activation : Activation) (distance : Distances) (facts : Facts)
    (operation : Operation) (operand : Operand) (s : State)
    → FactsHold activation distance facts s.registers s.memory
    → FactsHold activation distance (after_operation_with facts operation operand)
    (act script (Accumulate operation operand) s).registers
    (act script (Accumulate operation operand) s).memory
facts_after_operation script activation distance facts And (Of A) s hold =
    same_a_holds activation distance facts s.registers s.memory (bit_and s.registers.a s.registers.a)
    (and_self s.registers.a) hold
facts_after_operation script activation distance facts And (Of B) s hold = with_result_holds facts refl hold
facts_after_operation script activation distance facts And (Of C) s hold = with_result_holds facts refl hold
facts_after_operation script activation distance facts And (Of D) s hold = with_result_holds facts refl hold
facts_after_operation script activation distance facts And (Of E) s hold = with_result_holds facts refl hold
facts_after_operation script activation distance facts And (Of H) s hold = with_result_holds facts refl hold
facts_after_operation script activation distance facts And (Of L) s hold = with_result_holds facts refl hold
facts_after_operation script activation distance facts And M s hold = with_result_holds facts refl hold
facts_after_operation script activation distance facts Or (Of A) s hold =
    same_a_holds activation distance facts s.registers s.memory (bit_or s.registers.a s.registers.a)
    (or_self s.registers.a) hold
facts_after_operation script activation distance facts Or (Of B) s hold = with_result_holds facts refl hold
facts_after_operation script activation distance facts Or (Of C) s hold = with_result_holds facts refl hold
facts_after_operation script activation distance facts Or (Of D) s hold = with_result_holds facts refl hold
facts_after_operation script activation distance facts Or (Of E) s hold = with_result_holds facts refl hold
facts_after_operation script activation distance facts Or (Of H) s hold = with_result_holds facts refl hold
facts_after_operation script activation distance facts Or (Of L) s hold = with_result_holds facts refl hold
facts_after_operation script activation distance facts Or M s hold = with_result_holds facts refl hold
facts_after_operation script activation distance facts Add operand s hold = with_result_holds facts refl hold
facts_after_operation script activation distance facts AddWithCarry operand s hold =
    with_result_holds facts refl hold
facts_after_operation script activation distance facts Subtract operand s hold =
    with_result_holds facts refl hold
facts_after_operation script activation distance facts SubtractWithBorrow operand s hold =
    with_result_holds facts refl hold
facts_after_operation script activation distance facts ExclusiveOr operand s hold =
    with_result_holds facts refl hold
facts_after_operation script activation distance facts Compare operand s hold = without_zero_holds facts hold

-- A holds the byte at a known location
with_byte_holds :
    {activation : Activation} {distance : Distances} {a h l other : ℕ} {zero_flag flag : Bool}
    {memory : List ℕ} {held : Option Location} (facts : Facts)
    → ByteHolds activation distance held other memory
    → AllHold activation distance facts a h l zero_flag memory
    → AllHold activation distance (record facts { byte_in_a = held; zero_shows_a = false })
    other h l flag memory
with_byte_holds facts holds hold = record {
  byte_holds = holds;
  word_holds = hold.word_holds;
  address_holds = hold.address_holds;
  zero_holds = tt;
}

-- after an instruction
pub facts_after :
    (script : List (List ℕ)) (activation : Activation) (distance : Distances) (facts : Facts) (i : Instr)
    (s : State)
    → IsMemory s.memory
    → HoldBytes s.registers
    → Asks activation distance facts i s.registers
    → FactsHold activation distance facts s.registers s.memory
    → FactsHold activation distance (after facts i) (act script i s).registers (act script i s).memory
facts_after script activation distance facts Nop s is bytes asks hold = hold
facts_after script activation distance facts (Lxi pair number) s is bytes asks hold =
    facts_after_word script activation distance facts (LoadPair pair) (Number number) s is bytes tt hold
facts_after script activation distance facts (Stax pair) s is bytes asks hold =
    without_memory_holds facts hold
facts_after script activation distance facts (Ldax pair) s is bytes asks hold = without_a_holds facts hold
facts_after script activation distance facts (Shld number) s is bytes asks hold =
    facts_after_word script activation distance facts StoreHl (Number number) s is bytes asks hold
facts_after script activation distance facts (Lhld number) s is bytes asks hold =
    facts_after_word script activation distance facts LoadHl (Number number) s is bytes asks hold
facts_after script activation distance facts (Sta number) s is bytes asks hold =
    facts_after_word script activation distance facts StoreA (Number number) s is bytes asks hold
facts_after script activation distance facts (Lda number) s is bytes asks hold =
    facts_after_word script activation distance facts LoadA (Number number) s is bytes asks hold
facts_after script activation distance facts (Inx Bc) s is bytes asks hold = hold
facts_after script activation distance facts (Inx De) s is bytes asks hold = hold
facts_after script activation distance facts (Inx Hl) s is bytes asks hold = without_hl_holds facts hold
facts_after script activation distance facts (Inx Sp) s is bytes asks hold = no_facts_hold
facts_after script activation distance facts (Dcx Bc) s is bytes asks hold = hold
facts_after script activation distance facts (Dcx De) s is bytes asks hold = hold
facts_after script activation distance facts (Dcx Hl) s is bytes asks hold = without_hl_holds facts hold
facts_after script activation distance facts (Dcx Sp) s is bytes asks hold = no_facts_hold
facts_after script activation distance facts (Dad pair) s is bytes asks hold = without_hl_holds facts hold
facts_after script activation distance facts (Inr (Of B)) s is bytes asks hold =
    without_zero_holds facts hold
facts_after script activation distance facts (Inr (Of C)) s is bytes asks hold =
    without_zero_holds facts hold
facts_after script activation distance facts (Inr (Of D)) s is bytes asks hold =
    without_zero_holds facts hold
facts_after script activation distance facts (Inr (Of E)) s is bytes asks hold =
    without_zero_holds facts hold
facts_after script activation distance facts (Inr (Of H)) s is bytes asks hold =
    without_zero_holds (without_hl facts) (without_hl_holds facts hold)
facts_after script activation distance facts (Inr (Of L)) s is bytes asks hold =
    without_zero_holds (without_hl facts) (without_hl_holds facts hold)
facts_after script activation distance facts (Inr (Of A)) s is bytes asks hold =
    with_result_holds facts refl hold
facts_after script activation distance facts (Inr M) s is bytes asks hold =
    without_zero_holds (without_memory facts) (without_memory_holds facts hold)
facts_after script activation distance facts (Dcr (Of B)) s is bytes asks hold =
    without_zero_holds facts hold
facts_after script activation distance facts (Dcr (Of C)) s is bytes asks hold =
    without_zero_holds facts hold
facts_after script activation distance facts (Dcr (Of D)) s is bytes asks hold =
    without_zero_holds facts hold
facts_after script activation distance facts (Dcr (Of E)) s is bytes asks hold =
    without_zero_holds facts hold
facts_after script activation distance facts (Dcr (Of H)) s is bytes asks hold =
    without_zero_holds (without_hl facts) (without_hl_holds facts hold)
facts_after script activation distance facts (Dcr (Of L)) s is bytes asks hold =
    without_zero_holds (without_hl facts) (without_hl_holds facts hold)
facts_after script activation distance facts (Dcr (Of A)) s is bytes asks hold =
    with_result_holds facts refl hold
facts_after script activation distance facts (Dcr M) s is bytes asks hold =
    without_zero_holds (without_memory facts) (without_memory_holds facts hold)
facts_after script activation distance facts (Mvi (Of register) value) s is bytes asks hold =
    without_register_holds facts register value s.registers hold
facts_after script activation distance facts (Mvi M value) s is bytes asks hold =
    without_memory_holds facts hold
facts_after script activation distance facts Rlc s is bytes asks hold = without_a_holds facts hold
facts_after script activation distance facts Rrc s is bytes asks hold = without_a_holds facts hold
facts_after script activation distance facts Ral s is bytes asks hold = without_a_holds facts hold
facts_after script activation distance facts Rar s is bytes asks hold = without_a_holds facts hold
facts_after script activation distance facts Daa s is bytes asks hold = without_a_holds facts hold
facts_after script activation distance facts Cma s is bytes asks hold = without_a_holds facts hold
facts_after script activation distance facts Stc s is bytes asks hold = hold
facts_after script activation distance facts Cmc s is bytes asks hold = hold
facts_after script activation distance facts (Mov B operand) s is bytes asks hold = hold
facts_after script activation distance facts (Mov C operand) s is bytes asks hold = hold
facts_after script activation distance facts (Mov D operand) s is bytes asks hold = hold
facts_after script activation distance facts (Mov E operand) s is bytes asks hold = hold
facts_after script activation distance facts (Mov H operand) s is bytes asks hold =
    without_hl_holds facts hold
facts_after script activation distance facts (Mov L operand) s is bytes asks hold =
    without_hl_holds facts hold
facts_after script activation distance facts (Mov A (Of B)) s is bytes asks hold =
    without_a_holds facts hold
facts_after script activation distance facts (Mov A (Of C)) s is bytes asks hold =
    without_a_holds facts hold
facts_after script activation distance facts (Mov A (Of D)) s is bytes asks hold =
    without_a_holds facts hold
facts_after script activation distance facts (Mov A (Of E)) s is bytes asks hold =
    without_a_holds facts hold
facts_after script activation distance facts (Mov A (Of H)) s is bytes asks hold = with_byte_holds facts
    (high_holds activation distance facts.word_in_hl s.registers.h s.registers.l s.memory hold.word_holds)
    hold
facts_after script activation distance facts (Mov A (Of L)) s is bytes asks hold = with_byte_holds facts
    (low_holds activation distance facts.word_in_hl s.registers.h s.registers.l s.memory hold.word_holds)
    hold
facts_after script activation distance facts (Mov A (Of A)) s is bytes asks hold =
    without_a_holds facts hold
facts_after script activation distance facts (Mov A M) s is bytes asks hold = with_byte_holds facts
    (loaded_byte activation distance facts.address_in_hl s.registers.h s.registers.l s.memory asks
    hold.address_holds)
    hold
facts_after script activation distance facts (MovToMemory B) s is bytes asks hold =
    without_memory_holds facts hold
facts_after script activation distance facts (MovToMemory C) s is bytes asks hold =
    without_memory_holds facts hold
facts_after script activation distance facts (MovToMemory D) s is bytes asks hold =
    without_memory_holds facts hold
facts_after script activation distance facts (MovToMemory E) s is bytes asks hold =
    without_memory_holds facts hold
facts_after script activation distance facts (MovToMemory H) s is bytes asks hold =
    without_memory_holds facts hold
facts_after script activation distance facts (MovToMemory L) s is bytes asks hold =
    without_memory_holds facts hold
facts_after script activation distance facts (MovToMemory A) s is bytes asks hold = record {
  byte_holds =
      put_byte activation distance facts.address_in_hl s.registers.a s.registers.h s.registers.l s.memory is
      bytes.h bytes.l asks hold.address_holds;
  word_holds = tt;
  address_holds = hold.address_holds;
  zero_holds = hold.zero_holds;
}
facts_after script activation distance facts Hlt s is bytes asks hold = no_facts_hold
facts_after script activation distance facts (Accumulate operation operand) s is bytes asks hold =
    facts_after_operation script activation distance facts operation operand s hold
facts_after script activation distance facts (AccumulateImmediate Add value) s is bytes asks hold =
    with_result_holds facts refl hold
facts_after script activation distance facts (AccumulateImmediate AddWithCarry value) s is bytes asks hold =
    with_result_holds facts refl hold
facts_after script activation distance facts (AccumulateImmediate Subtract value) s is bytes asks hold =
    with_result_holds facts refl hold
facts_after script activation distance facts (AccumulateImmediate SubtractWithBorrow value) s
    is bytes asks hold =
    with_result_holds facts refl hold
facts_after script activation distance facts (AccumulateImmediate And value) s is bytes asks hold =
    with_result_holds facts refl hold
facts_after script activation distance facts (AccumulateImmediate ExclusiveOr value) s is bytes asks hold =
    with_result_holds facts refl hold
facts_after script activation distance facts (AccumulateImmediate Or value) s is bytes asks hold =
    with_result_holds facts refl hold
facts_after script activation distance facts (AccumulateImmediate Compare value) s is bytes asks hold =
    without_zero_holds facts hold
facts_after script activation distance facts (ReturnIf condition) s is bytes asks hold =
    either_holds activation distance facts (holds condition s.registers.flags) (return s) s hold hold
facts_after script activation distance facts (JumpIf condition address) s is bytes asks hold =
    either_holds activation distance facts (holds condition s.registers.flags) (jump address s) s hold hold
facts_after script activation distance facts (CallIf condition address) s is bytes asks hold = no_facts_hold
facts_after script activation distance facts Ret s is bytes asks hold = no_facts_hold
facts_after script activation distance facts (Jmp address) s is bytes asks hold = no_facts_hold
facts_after script activation distance facts (Call address) s is bytes asks hold = no_facts_hold
facts_after script activation distance facts (Rst restart) s is bytes asks hold = no_facts_hold
facts_after script activation distance facts (Pop StackBc) s is bytes asks hold = hold
facts_after script activation distance facts (Pop StackDe) s is bytes asks hold = hold
facts_after script activation distance facts (Pop StackHl) s is bytes asks hold =
    without_hl_holds facts hold
facts_after script activation distance facts (Pop Psw) s is bytes asks hold = without_a_holds facts hold
facts_after script activation distance facts (Push pair) s is bytes asks hold =
    let word = pushed_of pair s.registers in
    facts_stay facts s.memory (push word s).memory
    (pushed_stays activation s.registers.sp (high_byte word) (low_byte word) s.memory asks) hold
facts_after script activation distance facts (Out port) s is bytes asks hold = hold
facts_after script activation distance facts (In port) s is bytes asks hold = without_a_holds facts hold
facts_after script activation distance facts Xthl s is bytes asks hold =
    without_memory_holds (without_hl facts) (without_hl_holds facts hold)
facts_after script activation distance facts Xchg s is bytes asks hold = without_hl_holds facts hold
facts_after script activation distance facts Pchl s is bytes asks hold = no_facts_hold
facts_after script activation distance facts Sphl s is bytes asks hold = no_facts_hold
facts_after script activation distance facts Di s is bytes asks hold = no_facts_hold
facts_after script activation distance facts Ei s is bytes asks hold = no_facts_hold
