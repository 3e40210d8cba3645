-- The code of shifts and rotations of bytes, in A.
use Rattle.std.specs.Prelude.{ℕ, ◌+◌, ◌-◌, ◌/◌, ◌%◌, ◌^◌, ◌==◌, nat_lt, nat_le, ◌&&◌, ◌||◌, List, [], ◌∷◌, ◌++◌, Some, None, is_some, if◌then◌else◌}
use Rattle.isa8080.specs.declared.instr.Instr.TheVariants.{AccumulateImmediate, Dad, Pop, Push, Rar, Rlc, Rrc}
use Rattle.isa8080.specs.declared.instr.Operation.TheVariants.{Add, And, Or}
use Rattle.isa8080.specs.declared.instr.Pair.TheVariants.{Hl}
use Rattle.isa8080.specs.declared.instr.Register.TheVariants.{A, E, H, L}
use Rattle.isa8080.specs.declared.instr.StackPair.TheVariants.{Psw}
use Rattle.runtime8080.specs.declared.routine.Routine.{Routine}
use Rattle.runtime8080.specs.declared.routine.Routine.TheVariants as routines
use Rattle.trees.specs.declared.declaration.ScalarType.TheVariants as scalars
use Rattle.typed_trees.specs.declared.parts.ShiftFunction.{ShiftFunction}
use Rattle.typed_trees.specs.declared.parts.ShiftFunction.TheVariants.{ShiftLeft, ShiftRight, RotateLeft, RotateRight}
use Rattle.treecode.specs.declared.expression.ExpressionNumber.{ExpressionNumber}
use Rattle.treecode.specs.declared.reference.Reference.{Reference}
use Rattle.steps8080.specs.declared.step.Step.{Step}
use Rattle.steps8080.specs.declared.step.Step.TheVariants.{CallRoutine, Plain}
use Rattle.steps8080.specs.declared.step.Task.TheVariants as tasks
use Rattle.steps8080.specs.internal.Instructions.{clear_a, copy, load, with_register}
use Rattle.steps8080.specs.internal.Step.{part, plain, repeat_steps}
use Rattle.steps8080.specs.declared.sites.site.Site.{Site}
use Rattle.steps8080.specs.internal.Site.{scalar}
use Rattle.steps8080.specs.internal.Queries.{is_free, known, may_exchange, number as number_of}
use Rattle.steps8080.specs.internal.Widths.{fits_byte, operand_in_memory}
use Rattle.exprgen8080.specs.declared.byte_shifts.Shifted.{Shifted}
use Rattle.exprgen8080.specs.internal.Halves.{high_byte_steps, low_of_word_steps}

-- the mask of the bits that a right shift of a byte by a count below 8 keeps
unfoldable pub kept_bits : (count : ℕ) → ℕ
kept_bits count = if nat_lt count 8 then 255 / 2 ^ count else 0

-- rotates A right by a count below 8, in the shorter direction
unfoldable pub turned_right_steps : (count : ℕ) → List Step
turned_right_steps count = if nat_le count 4 then repeat_steps Rrc count else repeat_steps Rlc (8 - count)

-- shifts A right by a count below 8: by 1 through the carry, by more with a rotation and a mask
unfoldable pub right_shift_steps : (count : ℕ) → List Step
right_shift_steps count =
    if count == 0 then []
    else if count == 1 then plain (with_register Or A ∷ Rar ∷ [])
    else turned_right_steps count ++ (Plain (AccumulateImmediate And (kept_bits count)) ∷ [])

-- rotates A left by a count below 8, in the shorter direction
unfoldable pub rotation_steps : (count : ℕ) → List Step
rotation_steps count = if nat_le count 4 then repeat_steps Rlc count else repeat_steps Rrc (8 - count)

-- evaluates an expression for its effects, and puts 0 into A
unfoldable pub zero_steps : ExpressionNumber → (pushed : ℕ) → List Step
zero_steps value pushed = part (tasks.Effects value) pushed ∷ Plain clear_a ∷ []

-- puts the low byte of a value shifted left by a count into A
unfoldable pub shifted_left_steps : ExpressionNumber → (count pushed : ℕ) → List Step
shifted_left_steps value count pushed =
    if nat_le 8 count then zero_steps value pushed
    else part (tasks.Byte value) pushed ∷ repeat_steps (with_register Add A) count

-- puts a value below 256 shifted right by a count into A
unfoldable pub byte_shifted_right_steps : ExpressionNumber → (count pushed : ℕ) → List Step
byte_shifted_right_steps value count pushed =
    if nat_le 8 count then zero_steps value pushed
    else part (tasks.Byte value) pushed ∷ right_shift_steps count

-- puts the low byte of a word shifted right by a count from 1 to 7 into A: it is the high byte of the word
-- shifted left by 8 minus the count
unfoldable pub middle_byte_steps : ExpressionNumber → (count pushed : ℕ) → List Step
middle_byte_steps value count pushed =
    if count == 1
    then part (tasks.Word value) pushed ∷ plain (with_register Or A ∷ copy A H ∷ Rar ∷ copy A L ∷ Rar ∷ [])
    else part (tasks.Word value) pushed ∷ repeat_steps (Dad Hl) (8 - count) ++ (Plain (copy A H) ∷ [])

-- puts the low byte of a value shifted right by a count into A
unfoldable pub low_byte_shifted_right_steps : Site → ExpressionNumber → (count pushed : ℕ) → List Step
low_byte_shifted_right_steps site value count pushed =
    if fits_byte site value then byte_shifted_right_steps value count pushed
    else if nat_le 16 count then zero_steps value pushed
    else if nat_le 8 count then high_byte_steps site value pushed ++ right_shift_steps (count - 8)
    else if count == 0 then part (tasks.Byte value) pushed ∷ []
    else middle_byte_steps value count pushed

-- puts the low byte of a value shifted or rotated by a number into A
unfoldable pub by_number_steps :
    Site → ShiftFunction → (value : ExpressionNumber) → (count pushed : ℕ) → List Step
by_number_steps site ShiftLeft value count pushed = shifted_left_steps value count pushed
by_number_steps site ShiftRight value count pushed = low_byte_shifted_right_steps site value count pushed
by_number_steps site RotateLeft value count pushed =
    part (tasks.Byte value) pushed ∷ rotation_steps (count % 8)
by_number_steps site RotateRight value count pushed =
    part (tasks.Byte value) pushed ∷ rotation_steps ((8 - count % 8) % 8)

-- the routine that shifts or rotates A by the count in E
unfoldable pub byte_routine : ShiftFunction → Routine
byte_routine ShiftLeft = routines.ShiftLeftByte
byte_routine ShiftRight = routines.ShiftRightByte
byte_routine RotateLeft = routines.RotateLeft
byte_routine RotateRight = routines.RotateRight

-- puts a BYTE into A, and a count in memory into E; the code for the address of the count keeps A
unfoldable pub count_in_memory_steps : ExpressionNumber → (count : Reference) → (pushed : ℕ) → List Step
count_in_memory_steps value count pushed =
    part (tasks.Byte value) pushed ∷ part (tasks.Address count) pushed ∷ Plain (load E) ∷ []

-- puts a BYTE into A, and a count into E: the count first if the code of the value keeps E and it may come
-- second; else the value is pushed
unfoldable pub operands_steps : Site → (value count : ExpressionNumber) → (pushed : ℕ) → List Step
operands_steps site value count pushed = elim (operand_in_memory site count) [
  | Some reference ↦ count_in_memory_steps value reference pushed
  | None ↦
      if (is_some (known site value) || is_free site value) && may_exchange site value count
      then part (tasks.Byte count) pushed ∷ Plain (copy E A) ∷ part (tasks.Byte value) pushed ∷ []
      else part (tasks.Byte value) pushed ∷ Plain (Push Psw) ∷ part (tasks.Byte count) ((pushed + 2) % 65536)
      ∷ Plain (copy E A) ∷ Plain (Pop Psw) ∷ []
]

-- puts the low byte of a shift or a rotation into A
unfoldable pub byte_shift_steps : Site → (number : ExpressionNumber) → Shifted → (pushed : ℕ) → List Step
byte_shift_steps site number shifted pushed = elim (number_of site shifted.count) [
  | Some count ↦ by_number_steps site shifted.function shifted.value count pushed
  | None ↦ elim (scalar site number) [
    | scalars.Byte ↦
        operands_steps site shifted.value shifted.count pushed
        ++ (CallRoutine (byte_routine shifted.function) ∷ [])
    | scalars.Address ↦ low_of_word_steps number pushed
  ]
]
