-- Instructions as an assembler writes them (8080 Assembly Language Programming Manual, chapter 2): the mnemonic,
-- and after a space the operands, with a comma between two. Numbers are upper-case hexadecimal digits, with no H.
use Rattle.std.specs.Prelude.{ℕ, ◌+◌, ◌/◌, ◌%◌, List, [], ◌∷◌, ◌++◌, codes, nat_lt, if◌then◌else◌}
use Rattle.isa8080.specs.declared.instr.Register.{Register}
use Rattle.isa8080.specs.declared.instr.Register.TheVariants.{B, C, D, E, H, L, A}
use Rattle.isa8080.specs.declared.instr.Operand.{Operand}
use Rattle.isa8080.specs.declared.instr.Operand.TheVariants.{Of, M}
use Rattle.isa8080.specs.declared.instr.Pair.{Pair}
use Rattle.isa8080.specs.declared.instr.Pair.TheVariants.{Bc, De, Hl, Sp}
use Rattle.isa8080.specs.declared.instr.IndexPair.{IndexPair}
use Rattle.isa8080.specs.declared.instr.IndexPair.TheVariants.{IndexBc, IndexDe}
use Rattle.isa8080.specs.declared.instr.StackPair.{StackPair}
use Rattle.isa8080.specs.declared.instr.StackPair.TheVariants.{StackBc, StackDe, StackHl, Psw}
use Rattle.isa8080.specs.declared.instr.Condition.{Condition}
use Rattle.isa8080.specs.declared.instr.Condition.TheVariants.{NotZero, Zero, NoCarry, Carry, ParityOdd, ParityEven, Plus, Minus}
use Rattle.isa8080.specs.declared.instr.Operation.{Operation}
use Rattle.isa8080.specs.declared.instr.Operation.TheVariants.{Add, AddWithCarry, Subtract, SubtractWithBorrow, And, ExclusiveOr, Or, Compare}
use Rattle.isa8080.specs.declared.instr.Restart.{Restart}
use Rattle.isa8080.specs.declared.instr.Instr.{Instr}
use Rattle.isa8080.specs.declared.instr.Instr.TheVariants.{Nop, Lxi, Stax, Ldax, Shld, Lhld, Sta, Lda, Inx, Dcx, Dad, Inr, Dcr, Mvi, Rlc, Rrc, Ral, Rar, Daa, Cma, Stc, Cmc, Mov, MovToMemory, Hlt, Accumulate, AccumulateImmediate, ReturnIf, JumpIf, CallIf, Ret, Jmp, Call, Rst, Pop, Push, Out, In, Xthl, Xchg, Pchl, Sphl, Di, Ei}
use Rattle.isa8080.specs.State.{high_byte, low_byte}
use Rattle.isa8080.specs.Code.{restart_number}

-- the hexadecimal digit of a number below 16
abbrev pub digit_of : ℕ → ℕ
digit_of number = if nat_lt number 10 then 48 + number else 55 + number

-- a byte as two digits, the high one first
abbrev pub byte_digits : ℕ → List ℕ
byte_digits byte = digit_of (byte / 16) ∷ digit_of (byte % 16) ∷ []

-- a 16-bit value as four digits
abbrev pub word_digits : ℕ → List ℕ
word_digits word = byte_digits (high_byte word) ++ byte_digits (low_byte word)

-- the number of a restart as one digit
abbrev pub restart_digit : Restart → List ℕ
restart_digit n = digit_of (restart_number n) ∷ []

abbrev pub register_name : Register → List ℕ
register_name B = codes "B"
register_name C = codes "C"
register_name D = codes "D"
register_name E = codes "E"
register_name H = codes "H"
register_name L = codes "L"
register_name A = codes "A"

abbrev pub operand_name : Operand → List ℕ
operand_name (Of r) = register_name r
operand_name M = codes "M"

-- a pair has the name of its first register
abbrev pub pair_name : Pair → List ℕ
pair_name Bc = codes "B"
pair_name De = codes "D"
pair_name Hl = codes "H"
pair_name Sp = codes "SP"

-- of STAX and LDAX
abbrev pub index_name : IndexPair → List ℕ
index_name IndexBc = codes "B"
index_name IndexDe = codes "D"

-- of PUSH and POP
abbrev pub stack_name : StackPair → List ℕ
stack_name StackBc = codes "B"
stack_name StackDe = codes "D"
stack_name StackHl = codes "H"
stack_name Psw = codes "PSW"

-- the letters of a condition, after the R, J or C of a return, a jump or a call
abbrev pub condition_name : Condition → List ℕ
condition_name NotZero = codes "NZ"
condition_name Zero = codes "Z"
condition_name NoCarry = codes "NC"
condition_name Carry = codes "C"
condition_name ParityOdd = codes "PO"
condition_name ParityEven = codes "PE"
condition_name Plus = codes "P"
condition_name Minus = codes "M"

-- an operation of the accumulator with a register or with memory
abbrev pub operation_name : Operation → List ℕ
operation_name Add = codes "ADD"
operation_name AddWithCarry = codes "ADC"
operation_name Subtract = codes "SUB"
operation_name SubtractWithBorrow = codes "SBB"
operation_name And = codes "ANA"
operation_name ExclusiveOr = codes "XRA"
operation_name Or = codes "ORA"
operation_name Compare = codes "CMP"

-- with a byte of the instruction
abbrev pub immediate_name : Operation → List ℕ
immediate_name Add = codes "ADI"
immediate_name AddWithCarry = codes "ACI"
immediate_name Subtract = codes "SUI"
immediate_name SubtractWithBorrow = codes "SBI"
immediate_name And = codes "ANI"
immediate_name ExclusiveOr = codes "XRI"
immediate_name Or = codes "ORI"
immediate_name Compare = codes "CPI"

-- the text of an instruction
abbrev pub text_of : Instr → List ℕ
text_of Nop = codes "NOP"
text_of (Lxi p w) = codes "LXI " ++ pair_name p ++ codes "," ++ word_digits w
text_of (Stax p) = codes "STAX " ++ index_name p
text_of (Ldax p) = codes "LDAX " ++ index_name p
text_of (Shld w) = codes "SHLD " ++ word_digits w
text_of (Lhld w) = codes "LHLD " ++ word_digits w
text_of (Sta w) = codes "STA " ++ word_digits w
text_of (Lda w) = codes "LDA " ++ word_digits w
text_of (Inx p) = codes "INX " ++ pair_name p
text_of (Dcx p) = codes "DCX " ++ pair_name p
text_of (Dad p) = codes "DAD " ++ pair_name p
text_of (Inr o) = codes "INR " ++ operand_name o
text_of (Dcr o) = codes "DCR " ++ operand_name o
text_of (Mvi o v) = codes "MVI " ++ operand_name o ++ codes "," ++ byte_digits v
text_of Rlc = codes "RLC"
text_of Rrc = codes "RRC"
text_of Ral = codes "RAL"
text_of Rar = codes "RAR"
text_of Daa = codes "DAA"
text_of Cma = codes "CMA"
text_of Stc = codes "STC"
text_of Cmc = codes "CMC"
text_of (Mov r o) = codes "MOV " ++ register_name r ++ codes "," ++ operand_name o
text_of (MovToMemory r) = codes "MOV M," ++ register_name r
text_of Hlt = codes "HLT"
text_of (Accumulate k o) = operation_name k ++ codes " " ++ operand_name o
text_of (AccumulateImmediate k v) = immediate_name k ++ codes " " ++ byte_digits v
text_of (ReturnIf c) = codes "R" ++ condition_name c
text_of (JumpIf c w) = codes "J" ++ condition_name c ++ codes " " ++ word_digits w
text_of (CallIf c w) = codes "C" ++ condition_name c ++ codes " " ++ word_digits w
text_of Ret = codes "RET"
text_of (Jmp w) = codes "JMP " ++ word_digits w
text_of (Call w) = codes "CALL " ++ word_digits w
text_of (Rst n) = codes "RST " ++ restart_digit n
text_of (Pop p) = codes "POP " ++ stack_name p
text_of (Push p) = codes "PUSH " ++ stack_name p
text_of (Out n) = codes "OUT " ++ byte_digits n
text_of (In n) = codes "IN " ++ byte_digits n
text_of Xthl = codes "XTHL"
text_of Xchg = codes "XCHG"
text_of Pchl = codes "PCHL"
text_of Sphl = codes "SPHL"
text_of Di = codes "DI"
text_of Ei = codes "EI"
