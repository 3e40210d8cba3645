-- Worked rows, computed on the definitions: what docs/machine.md says of them.
use Rattle.isa8080.proofs.Prelude.{◌≡◌, ℕ, true, false, List, [], refl, ones, Flags, flag_byte, Event, Hl, Dad, Subtract, State, Registers, act, initial_registers, running}
use Rattle.isa8080.specs.Arithmetic.{operate, increment_of, decimal_adjust_of}

abbrev pub no_flags : Flags
no_flags = record { s = false; z = false; ac = false; p = false; cy = false }

-- SUB A with A = 3EH gives 0 and the flag byte 56H
pub subtract_itself : (operate Subtract 0x3E 0x3E no_flags).value ≡ 0
subtract_itself = refl

pub subtract_itself_flags : flag_byte (operate Subtract 0x3E 0x3E no_flags).flags ≡ 0x56
unfolding ones
subtract_itself_flags = refl

-- DAA of 9BH without CY and AC gives 01 with both
pub adjust_9B : (decimal_adjust_of 0x9B no_flags).value ≡ 1
adjust_9B = refl

pub adjust_9B_carry : (decimal_adjust_of 0x9B no_flags).flags.cy ≡ true
adjust_9B_carry = refl

pub adjust_9B_auxiliary_carry : (decimal_adjust_of 0x9B no_flags).flags.ac ≡ true
adjust_9B_auxiliary_carry = refl

-- INR A of FFH with CY gives 0 and the flag byte 57H
pub increment_FF : flag_byte (increment_of 0xFF (record no_flags { cy = true })).flags ≡ 0x57
unfolding ones
increment_FF = refl

-- DAD H of 8000H gives 0 with CY, and Z stays
abbrev pub registers_at_8000 : Registers
registers_at_8000 = record (initial_registers 0) { h = 0x80 }

abbrev pub double_add_8000 : List ℕ → List Event → State
double_add_8000 memory events =
    act [] (Dad Hl) (running registers_at_8000 memory events)

pub double_add_8000_registers :
    (memory : List ℕ) (events : List Event)
    → (double_add_8000 memory events).registers
    ≡ record registers_at_8000 { h = 0; l = 0; flags = record no_flags { cy = true } }
double_add_8000_registers memory events = refl
