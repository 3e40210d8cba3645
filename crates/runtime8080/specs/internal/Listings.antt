-- The routines as items.
use Rattle.std.specs.Prelude.{ℕ, ◌+◌, List, [], ◌∷◌}
use Rattle.isa8080.specs.declared.instr.Register.TheVariants.{B, C, D, E, H, L, A}
use Rattle.isa8080.specs.declared.instr.Operand.TheVariants.{Of}
use Rattle.isa8080.specs.declared.instr.Pair.TheVariants.{Bc, De, Hl}
use Rattle.isa8080.specs.declared.instr.IndexPair.TheVariants.{IndexDe}
use Rattle.isa8080.specs.declared.instr.Condition.TheVariants.{NotZero, Zero, NoCarry, Carry, ParityOdd, Minus}
use Rattle.isa8080.specs.declared.instr.Operation.TheVariants.{Add, Subtract, SubtractWithBorrow, And, ExclusiveOr, Or, Compare}
use Rattle.isa8080.specs.declared.instr.Instr.TheVariants.{Lxi, Ldax, Inx, Dad, Inr, Dcr, Mvi, Rlc, Rrc, Ral, Rar, Mov, MovToMemory, Accumulate, AccumulateImmediate, ReturnIf, Ret, Xchg}
use Rattle.asm8080.specs.declared.item.WordForm.TheVariants.{Jump, JumpWhere}
use Rattle.asm8080.specs.declared.item.Reference.TheVariants.{AtLabel}
use Rattle.asm8080.specs.declared.item.Item.{Item}
use Rattle.asm8080.specs.declared.item.Item.TheVariants.{Plain, WithWord, Mark}
use Rattle.runtime8080.specs.declared.routine.Routine.{Routine}
use Rattle.runtime8080.specs.declared.routine.Routine.TheVariants as routines

abbrev pub multiply_with : (first second third fourth fifth : ℕ) → List Item
multiply_with first second third fourth fifth =
    Plain (Mov B (Of H))
    ∷ Plain (Mov C (Of L))
    ∷ Plain (Lxi Hl 0)
    ∷ Plain (Mov A (Of D))
    ∷ Plain (Accumulate Or (Of A))
    ∷ WithWord (JumpWhere Zero) (AtLabel second)
    ∷ Plain (Mvi (Of D) 8)
    ∷ Mark first
    ∷ Plain (Dad Hl)
    ∷ Plain (Accumulate Add (Of A))
    ∷ WithWord (JumpWhere NoCarry) (AtLabel third)
    ∷ Plain (Dad Bc)
    ∷ Mark third
    ∷ Plain (Dcr (Of D))
    ∷ WithWord (JumpWhere NotZero) (AtLabel first)
    ∷ Mark second
    ∷ Plain (Mov A (Of E))
    ∷ Plain (Mvi (Of D) 8)
    ∷ Mark fourth
    ∷ Plain (Dad Hl)
    ∷ Plain (Accumulate Add (Of A))
    ∷ WithWord (JumpWhere NoCarry) (AtLabel fifth)
    ∷ Plain (Dad Bc)
    ∷ Mark fifth
    ∷ Plain (Dcr (Of D))
    ∷ WithWord (JumpWhere NotZero) (AtLabel fourth)
    ∷ Plain Ret
    ∷ []

abbrev pub multiply : (first : ℕ) → List Item
multiply first = multiply_with first (first + 1) (first + 2) (first + 3) (first + 4)

abbrev pub divide_with : (first second third fourth fifth sixth seventh : ℕ) → List Item
divide_with first second third fourth fifth sixth seventh =
    Plain (Mov A (Of D))
    ∷ Plain (Accumulate Or (Of A))
    ∷ WithWord (JumpWhere NotZero) (AtLabel fourth)
    ∷ Plain (Mvi (Of D) 16)
    ∷ Mark first
    ∷ Plain (Dad Hl)
    ∷ Plain Ral
    ∷ WithWord (JumpWhere Carry) (AtLabel second)
    ∷ Plain (Accumulate Compare (Of E))
    ∷ WithWord (JumpWhere Carry) (AtLabel third)
    ∷ Mark second
    ∷ Plain (Accumulate Subtract (Of E))
    ∷ Plain (Inr (Of L))
    ∷ Mark third
    ∷ Plain (Dcr (Of D))
    ∷ WithWord (JumpWhere NotZero) (AtLabel first)
    ∷ Plain (Mov E (Of A))
    ∷ Plain Ret
    ∷ Mark fourth
    ∷ Plain (Mov B (Of L))
    ∷ Plain (Mov L (Of H))
    ∷ Plain (Mvi (Of H) 0)
    ∷ Plain (Mvi (Of C) 8)
    ∷ Mark fifth
    ∷ Plain (Dad Hl)
    ∷ Plain (Mov A (Of B))
    ∷ Plain (Accumulate Add (Of A))
    ∷ Plain (Mov B (Of A))
    ∷ WithWord (JumpWhere NoCarry) (AtLabel sixth)
    ∷ Plain (Inr (Of L))
    ∷ Mark sixth
    ∷ Plain (Mov A (Of L))
    ∷ Plain (Accumulate Subtract (Of E))
    ∷ Plain (Mov A (Of H))
    ∷ Plain (Accumulate SubtractWithBorrow (Of D))
    ∷ WithWord (JumpWhere Carry) (AtLabel seventh)
    ∷ Plain (Mov H (Of A))
    ∷ Plain (Mov A (Of L))
    ∷ Plain (Accumulate Subtract (Of E))
    ∷ Plain (Mov L (Of A))
    ∷ Plain (Inr (Of B))
    ∷ Mark seventh
    ∷ Plain (Dcr (Of C))
    ∷ WithWord (JumpWhere NotZero) (AtLabel fifth)
    ∷ Plain Xchg
    ∷ Plain (Mov L (Of B))
    ∷ Plain (Mvi (Of H) 0)
    ∷ Plain Ret
    ∷ []

abbrev pub divide : (first : ℕ) → List Item
divide first = divide_with first (first + 1) (first + 2) (first + 3) (first + 4) (first + 5) (first + 6)

abbrev pub shift_left_byte : (first : ℕ) → List Item
shift_left_byte first =
    Plain (Mov D (Of A))
    ∷ Plain (Mov A (Of E))
    ∷ Plain (AccumulateImmediate Compare 8)
    ∷ Plain (Mov A (Of D))
    ∷ WithWord (JumpWhere Carry) (AtLabel first)
    ∷ Plain (Mvi (Of A) 0)
    ∷ Plain Ret
    ∷ Mark first
    ∷ Plain (Dcr (Of E))
    ∷ Plain (ReturnIf Minus)
    ∷ Plain (Accumulate Add (Of A))
    ∷ WithWord Jump (AtLabel first)
    ∷ []

abbrev pub shift_right_byte : (first : ℕ) → List Item
shift_right_byte first =
    Plain (Mov D (Of A))
    ∷ Plain (Mov A (Of E))
    ∷ Plain (AccumulateImmediate Compare 8)
    ∷ Plain (Mov A (Of D))
    ∷ WithWord (JumpWhere Carry) (AtLabel first)
    ∷ Plain (Mvi (Of A) 0)
    ∷ Plain Ret
    ∷ Mark first
    ∷ Plain (Dcr (Of E))
    ∷ Plain (ReturnIf Minus)
    ∷ Plain (Accumulate Or (Of A))
    ∷ Plain Rar
    ∷ WithWord Jump (AtLabel first)
    ∷ []

abbrev pub shift_left_address : (first : ℕ) → List Item
shift_left_address first =
    Plain (Mov E (Of A))
    ∷ Plain (AccumulateImmediate Compare 16)
    ∷ WithWord (JumpWhere Carry) (AtLabel first)
    ∷ Plain (Lxi Hl 0)
    ∷ Plain Ret
    ∷ Mark first
    ∷ Plain (Dcr (Of E))
    ∷ Plain (ReturnIf Minus)
    ∷ Plain (Dad Hl)
    ∷ WithWord Jump (AtLabel first)
    ∷ []

abbrev pub shift_right_address_with : (first second third fourth fifth sixth seventh eighth : ℕ) → List Item
shift_right_address_with first second third fourth fifth sixth seventh eighth =
    Mark first
    ∷ Plain (AccumulateImmediate Add 254)
    ∷ WithWord (JumpWhere Zero) (AtLabel third)
    ∷ WithWord (JumpWhere NoCarry) (AtLabel second)
    ∷ Plain (Dcr (Of A))
    ∷ WithWord (JumpWhere Zero) (AtLabel fourth)
    ∷ Plain (Dcr (Of A))
    ∷ WithWord (JumpWhere Zero) (AtLabel fifth)
    ∷ Plain (Dcr (Of A))
    ∷ WithWord (JumpWhere Zero) (AtLabel sixth)
    ∷ Plain (Dcr (Of A))
    ∷ WithWord (JumpWhere Zero) (AtLabel seventh)
    ∷ Plain (Dcr (Of A))
    ∷ WithWord (JumpWhere Zero) (AtLabel eighth)
    ∷ Plain (Mov L (Of H))
    ∷ Plain (Mvi (Of H) 0)
    ∷ Plain (Dcr (Of A))
    ∷ Plain (ReturnIf Zero)
    ∷ Plain (AccumulateImmediate Compare 8)
    ∷ WithWord (JumpWhere Carry) (AtLabel first)
    ∷ Plain (Mvi (Of L) 0)
    ∷ Plain Ret
    ∷ Mark second
    ∷ Plain (ReturnIf ParityOdd)
    ∷ Plain (Mov A (Of H))
    ∷ Plain Rar
    ∷ Plain (Mov H (Of A))
    ∷ Plain (Mov A (Of L))
    ∷ Plain Rar
    ∷ Plain (Mov L (Of A))
    ∷ Plain Ret
    ∷ Mark third
    ∷ Plain (Mov A (Of L))
    ∷ Plain (Accumulate ExclusiveOr (Of H))
    ∷ Plain (AccumulateImmediate And 252)
    ∷ Plain (Accumulate ExclusiveOr (Of H))
    ∷ Plain Rrc
    ∷ Plain Rrc
    ∷ Plain (Mov L (Of A))
    ∷ Plain (Mov A (Of H))
    ∷ Plain (AccumulateImmediate And 252)
    ∷ Plain Rrc
    ∷ Plain Rrc
    ∷ Plain (Mov H (Of A))
    ∷ Plain Ret
    ∷ Mark fourth
    ∷ Plain (Dad Hl)
    ∷ Plain Ral
    ∷ Mark fifth
    ∷ Plain (Dad Hl)
    ∷ Plain Ral
    ∷ Mark sixth
    ∷ Plain (Dad Hl)
    ∷ Plain Ral
    ∷ Mark seventh
    ∷ Plain (Dad Hl)
    ∷ Plain Ral
    ∷ Mark eighth
    ∷ Plain (Dad Hl)
    ∷ Plain Ral
    ∷ Plain (Mov L (Of H))
    ∷ Plain (Mov H (Of A))
    ∷ Plain Ret
    ∷ []

abbrev pub shift_right_address : (first : ℕ) → List Item
shift_right_address first =
    shift_right_address_with first (first + 1) (first + 2) (first + 3) (first + 4) (first + 5) (first + 6) (first + 7)

abbrev pub rotate_left : (first : ℕ) → List Item
rotate_left first =
    Plain (Mov D (Of A))
    ∷ Plain (Mov A (Of E))
    ∷ Plain (AccumulateImmediate And 7)
    ∷ Plain (Mov E (Of A))
    ∷ Plain (Mov A (Of D))
    ∷ Plain (ReturnIf Zero)
    ∷ Mark first
    ∷ Plain Rlc
    ∷ Plain (Dcr (Of E))
    ∷ WithWord (JumpWhere NotZero) (AtLabel first)
    ∷ Plain Ret
    ∷ []

abbrev pub rotate_right : (first : ℕ) → List Item
rotate_right first =
    Plain (Mov D (Of A))
    ∷ Plain (Mov A (Of E))
    ∷ Plain (AccumulateImmediate And 7)
    ∷ Plain (Mov E (Of A))
    ∷ Plain (Mov A (Of D))
    ∷ Plain (ReturnIf Zero)
    ∷ Mark first
    ∷ Plain Rrc
    ∷ Plain (Dcr (Of E))
    ∷ WithWord (JumpWhere NotZero) (AtLabel first)
    ∷ Plain Ret
    ∷ []

abbrev pub move_bytes_with : (first second : ℕ) → List Item
move_bytes_with first second =
    Plain (Inr (Of C))
    ∷ Plain (Dcr (Of C))
    ∷ WithWord (JumpWhere Zero) (AtLabel second)
    ∷ Plain (Inr (Of B))
    ∷ Mark first
    ∷ Plain (Ldax IndexDe)
    ∷ Plain (MovToMemory A)
    ∷ Plain (Inx De)
    ∷ Plain (Inx Hl)
    ∷ Plain (Dcr (Of C))
    ∷ WithWord (JumpWhere NotZero) (AtLabel first)
    ∷ Plain (Dcr (Of B))
    ∷ WithWord (JumpWhere NotZero) (AtLabel first)
    ∷ Plain Ret
    ∷ Mark second
    ∷ Plain (Inr (Of B))
    ∷ Plain (Dcr (Of B))
    ∷ WithWord (JumpWhere NotZero) (AtLabel first)
    ∷ Plain Ret
    ∷ []

abbrev pub move_bytes : (first : ℕ) → List Item
move_bytes first = move_bytes_with first (first + 1)

-- the routines, whose labels are numbered from one on
abbrev pub listing : Routine → (first : ℕ) → List Item
listing routines.Multiply first = multiply first
listing routines.Divide first = divide first
listing routines.ShiftLeftByte first = shift_left_byte first
listing routines.ShiftRightByte first = shift_right_byte first
listing routines.ShiftLeftAddress first = shift_left_address first
listing routines.ShiftRightAddress first = shift_right_address first
listing routines.RotateLeft first = rotate_left first
listing routines.RotateRight first = rotate_right first
listing routines.Move first = move_bytes first

-- how many labels a routine has
abbrev pub labels_of : Routine → ℕ
labels_of routines.Multiply = 5
labels_of routines.Divide = 7
labels_of routines.ShiftLeftByte = 1
labels_of routines.ShiftRightByte = 1
labels_of routines.ShiftLeftAddress = 1
labels_of routines.ShiftRightAddress = 8
labels_of routines.RotateLeft = 1
labels_of routines.RotateRight = 1
labels_of routines.Move = 2
