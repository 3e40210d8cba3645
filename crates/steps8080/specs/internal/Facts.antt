-- Facts about the registers at a point of the code: which byte or word, in memory or in the frame, a register
-- holds.
use Rattle.std.specs.Prelude.{◌==◌, Bool, true, false, ◌&&◌, ◌||◌, if◌then◌else◌, Option, Some, None, option_map}
use Rattle.std.specs.Option.{option_or}
use Rattle.isa8080.specs.declared.instr.Instr.{Instr}
use Rattle.isa8080.specs.declared.instr.Instr.TheVariants as instructions
use Rattle.isa8080.specs.declared.instr.Operand.{Operand}
use Rattle.isa8080.specs.declared.instr.Operand.TheVariants.{Of, M}
use Rattle.isa8080.specs.declared.instr.Operation.{Operation}
use Rattle.isa8080.specs.declared.instr.Operation.TheVariants.{And, Or, Compare}
use Rattle.isa8080.specs.declared.instr.Pair.{Pair}
use Rattle.isa8080.specs.declared.instr.Pair.TheVariants.{Hl, Sp}
use Rattle.isa8080.specs.declared.instr.Register.{Register}
use Rattle.isa8080.specs.declared.instr.Register.TheVariants.{A, H, L}
use Rattle.isa8080.specs.declared.instr.StackPair.{StackPair}
use Rattle.isa8080.specs.declared.instr.StackPair.TheVariants.{StackHl, Psw}
use Rattle.asm8080.specs.declared.item.WordForm.{WordForm}
use Rattle.asm8080.specs.declared.item.WordForm.TheVariants.{LoadPair, StoreHl, LoadHl, StoreA, LoadA, JumpWhere}
use Rattle.treecode.specs.declared.place.Place.{Place}
use Rattle.treecode.specs.declared.place.Place.TheVariants.{Number, Code, Data, External}
use Rattle.treecode.specs.declared.place.Location.{Location}
use Rattle.treecode.specs.declared.place.Location.TheVariants.{Static, Frame}
use Rattle.treecode.specs.internal.Homes.{location_after}
use Rattle.steps8080.specs.declared.facts.Facts.{Facts}
use Rattle.steps8080.specs.internal.Instructions.{copy, load}

abbrev pub same_place : (one other : Place) → Bool
same_place (Number one) (Number other) = one == other
same_place (Code one) (Code other) = one == other
same_place (Data one) (Data other) = one == other
same_place (External one name) (External other other_name) = (one == other) && (name == other_name)
same_place one other = false

abbrev pub same_location : (one other : Location) → Bool
same_location (Static one) (Static other) = same_place one other
same_location (Frame variable one) (Frame other_variable other) =
    (variable == other_variable) && (one == other)
same_location one other = false

-- whether a register holds what is at a location, where `held` is the location that it is known to hold, if
-- any
abbrev pub is_at : (held : Option Location) → Location → Bool
is_at None location = false
is_at (Some held) location = same_location held location

-- the location one byte before another one
abbrev pub before : Location → Location
before location = location_after location 65535

-- nothing is known
abbrev pub no_facts : Facts
no_facts = record { byte_in_a = None; word_in_hl = None; address_in_hl = None; zero_shows_a = false }

-- the facts, with others that hold too
abbrev pub with_facts : (facts others : Facts) → Facts
with_facts facts others = record {
  byte_in_a = option_or others.byte_in_a facts.byte_in_a;
  word_in_hl = option_or others.word_in_hl facts.word_in_hl;
  address_in_hl = option_or others.address_in_hl facts.address_in_hl;
  zero_shows_a = others.zero_shows_a || facts.zero_shows_a;
}

-- The facts after a change: of bytes in memory or in the frame, of A, of HL, of the zero flag,
abbrev pub without_memory : Facts → Facts
without_memory facts = record facts { byte_in_a = None; word_in_hl = None }

abbrev pub without_a : Facts → Facts
without_a facts = record facts { byte_in_a = None; zero_shows_a = false }

abbrev pub without_hl : Facts → Facts
without_hl facts = record facts { word_in_hl = None; address_in_hl = None }

abbrev pub without_zero : Facts → Facts
without_zero facts = record facts { zero_shows_a = false }

-- of a register, of a register or the byte at the address in HL, of a pair; none if the stack pointer has
-- changed
abbrev pub without_register : Facts → Register → Facts
without_register facts A = without_a facts
without_register facts H = without_hl facts
without_register facts L = without_hl facts
without_register facts register = facts

abbrev pub without_operand : Facts → Operand → Facts
without_operand facts (Of register) = without_register facts register
without_operand facts M = without_memory facts

abbrev pub without_pair : Facts → Pair → Facts
without_pair facts Hl = without_hl facts
without_pair facts Sp = no_facts
without_pair facts pair = facts

-- after POP
abbrev pub after_pop : Facts → StackPair → Facts
after_pop facts StackHl = without_hl facts
after_pop facts Psw = without_a facts
after_pop facts pair = facts

-- after INR or DCR
abbrev pub after_count : Facts → Operand → Facts
after_count facts (Of A) = record (without_a facts) { zero_shows_a = true }
after_count facts operand = without_zero (without_operand facts operand)

-- the location of the byte that MOV A copies to A, if known
abbrev pub origin : Facts → Operand → Option Location
origin facts M = facts.address_in_hl
origin facts (Of L) = facts.word_in_hl
origin facts (Of H) = option_map (λ location. location_after location 1) facts.word_in_hl
origin facts (Of register) = None

-- after MOV to a register
abbrev pub after_move : Facts → Register → Operand → Facts
after_move facts A operand = record (without_a facts) { byte_in_a = origin facts operand }
after_move facts register operand = without_register facts register

-- after MOV to memory
abbrev pub after_move_to_memory : Facts → Register → Facts
after_move_to_memory facts A = record (without_memory facts) { byte_in_a = facts.address_in_hl }
after_move_to_memory facts register = without_memory facts

-- after an operation on A
abbrev pub after_operation : Facts → Operation → Facts
after_operation facts Compare = without_zero facts
after_operation facts operation = record facts { byte_in_a = None; zero_shows_a = true }

-- after an operation on A with an operand; A AND A, and A OR A, leave A as it is
abbrev pub after_operation_with : Facts → Operation → Operand → Facts
after_operation_with facts And (Of A) = record facts { zero_shows_a = true }
after_operation_with facts Or (Of A) = record facts { zero_shows_a = true }
after_operation_with facts operation operand = after_operation facts operation

-- at the next instruction after a jump, or after another instruction with the place of a label
abbrev pub after_form : Facts → WordForm → Facts
after_form facts (JumpWhere condition) = facts
after_form facts (LoadPair pair) = without_pair facts pair
after_form facts form = no_facts

-- after an instruction with a word
abbrev pub after_word : Facts → WordForm → Place → Facts
after_word facts (LoadPair Hl) place =
    record (without_hl facts) { address_in_hl = Some (Static place) }
after_word facts LoadHl place = record (without_hl facts) { word_in_hl = Some (Static place) }
after_word facts LoadA place = record (without_a facts) { byte_in_a = Some (Static place) }
after_word facts StoreHl place = record (without_memory facts) { word_in_hl = Some (Static place) }
after_word facts StoreA place = record (without_memory facts) { byte_in_a = Some (Static place) }
after_word facts form place = after_form facts form

-- after an instruction that changes only A, only the carry, or nothing; none after any other, which jumps
-- elsewhere
abbrev pub after_other : Facts → Instr → Facts
after_other facts (instructions.Ldax pair) = without_a facts
after_other facts instructions.Rlc = without_a facts
after_other facts instructions.Rrc = without_a facts
after_other facts instructions.Ral = without_a facts
after_other facts instructions.Rar = without_a facts
after_other facts instructions.Daa = without_a facts
after_other facts instructions.Cma = without_a facts
after_other facts (instructions.In port) = without_a facts
after_other facts instructions.Nop = facts
after_other facts instructions.Stc = facts
after_other facts instructions.Cmc = facts
after_other facts (instructions.Push pair) = facts
after_other facts (instructions.Out port) = facts
after_other facts (instructions.ReturnIf condition) = facts
after_other facts (instructions.JumpIf condition address) = facts
after_other facts instruction = no_facts

-- after an instruction, from the facts before it
abbrev pub after : Facts → Instr → Facts
after facts (instructions.Lxi pair number) = after_word facts (LoadPair pair) (Number number)
after facts (instructions.Shld number) = after_word facts StoreHl (Number number)
after facts (instructions.Lhld number) = after_word facts LoadHl (Number number)
after facts (instructions.Sta number) = after_word facts StoreA (Number number)
after facts (instructions.Lda number) = after_word facts LoadA (Number number)
after facts (instructions.Stax pair) = without_memory facts
after facts (instructions.Inx pair) = without_pair facts pair
after facts (instructions.Dcx pair) = without_pair facts pair
after facts (instructions.Dad pair) = without_hl facts
after facts instructions.Xchg = without_hl facts
after facts instructions.Xthl = without_memory (without_hl facts)
after facts (instructions.Inr operand) = after_count facts operand
after facts (instructions.Dcr operand) = after_count facts operand
after facts (instructions.Mvi operand value) = without_operand facts operand
after facts (instructions.Mov register operand) = after_move facts register operand
after facts (instructions.MovToMemory register) = after_move_to_memory facts register
after facts (instructions.Accumulate operation operand) = after_operation_with facts operation operand
after facts (instructions.AccumulateImmediate operation value) = after_operation facts operation
after facts (instructions.Pop pair) = after_pop facts pair
after facts instruction = after_other facts instruction

-- whether A, H or L holds the byte at a location
abbrev pub holds_byte : Facts → Location → Bool
holds_byte facts location =
    is_at facts.byte_in_a location
    || is_at facts.word_in_hl location
    || is_at facts.word_in_hl (before location)

-- the instruction that puts the byte at a location into A, if the facts give one
abbrev pub byte_from_hl : Facts → Location → Option Instr
byte_from_hl facts location =
    if is_at facts.word_in_hl location then Some (copy A L)
    else if is_at facts.word_in_hl (before location) then Some (copy A H)
    else if is_at facts.address_in_hl location then Some (load A)
    else None

-- and into L
abbrev pub byte_for_l : Facts → Location → Option Instr
byte_for_l facts location =
    if is_at facts.byte_in_a location then Some (copy L A)
    else if is_at facts.word_in_hl (before location) then Some (copy L H)
    else if is_at facts.address_in_hl location then Some (load L)
    else None
