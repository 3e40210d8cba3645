-- Instructions named by what they do, and the halves of a word.
use Rattle.std.specs.Prelude.{ℕ, ◌/◌, ◌%◌}
use Rattle.isa8080.specs.declared.instr.Instr.{Instr}
use Rattle.isa8080.specs.declared.instr.Instr.TheVariants.{Accumulate, Mov, Mvi}
use Rattle.isa8080.specs.declared.instr.Operand.TheVariants.{Of, M}
use Rattle.isa8080.specs.declared.instr.Operation.{Operation}
use Rattle.isa8080.specs.declared.instr.Operation.TheVariants.{ExclusiveOr}
use Rattle.isa8080.specs.declared.instr.Register.{Register}
use Rattle.isa8080.specs.declared.instr.Register.TheVariants.{A}

-- copies a register into another one
abbrev pub copy : (to from : Register) → Instr
copy to from = Mov to (Of from)

-- loads a register from the byte at the address in HL
abbrev pub load : (to : Register) → Instr
load to = Mov to M

-- sets a register to a number
abbrev pub set : Register → (number : ℕ) → Instr
set register number = Mvi (Of register) number

-- an operation on A with a register
abbrev pub with_register : Operation → Register → Instr
with_register operation register = Accumulate operation (Of register)

-- an operation on A with the byte at the address in HL
abbrev pub with_memory : Operation → Instr
with_memory operation = Accumulate operation M

-- sets A to 0
abbrev pub clear_a : Instr
clear_a = with_register ExclusiveOr A

-- the low byte of a word
abbrev pub low : ℕ → ℕ
low word = word % 256

-- the high byte of a word
abbrev pub high : ℕ → ℕ
high word = word / 256
