-- The code of shifts of words, in HL.
use Rattle.std.specs.Prelude.{ℕ, ◌+◌, ◌-◌, ◌%◌, ◌==◌, nat_le, List, [], ◌∷◌, ◌++◌, Some, None, if◌then◌else◌}
use Rattle.isa8080.specs.declared.instr.Instr.TheVariants.{AccumulateImmediate, Dad, Pop, Push, Rar, Rrc}
use Rattle.isa8080.specs.declared.instr.Operation.TheVariants.{And, ExclusiveOr, Or}
use Rattle.isa8080.specs.declared.instr.Pair.TheVariants.{Hl}
use Rattle.isa8080.specs.declared.instr.Register.TheVariants.{A, H, L}
use Rattle.isa8080.specs.declared.instr.StackPair.TheVariants.{StackHl}
use Rattle.asm8080.specs.declared.item.WordForm.TheVariants.{LoadPair}
use Rattle.runtime8080.specs.declared.routine.Routine.{Routine}
use Rattle.runtime8080.specs.declared.routine.Routine.TheVariants as routines
use Rattle.typed_trees.specs.declared.parts.ShiftFunction.{ShiftFunction}
use Rattle.typed_trees.specs.declared.parts.ShiftFunction.TheVariants.{ShiftLeft, ShiftRight, RotateLeft, RotateRight}
use Rattle.treecode.specs.declared.expression.ExpressionNumber.{ExpressionNumber}
use Rattle.treecode.specs.declared.place.Place.TheVariants.{Number}
use Rattle.steps8080.specs.declared.step.Step.{Step}
use Rattle.steps8080.specs.declared.step.Step.TheVariants.{CallRoutine, Plain, Word}
use Rattle.steps8080.specs.declared.step.Task.TheVariants as tasks
use Rattle.steps8080.specs.internal.Instructions.{copy, set, with_register}
use Rattle.steps8080.specs.internal.Step.{extension_steps, part, plain, repeat_steps}
use Rattle.steps8080.specs.declared.sites.site.Site.{Site}
use Rattle.steps8080.specs.internal.Queries.{is_free, number as number_of}
use Rattle.steps8080.specs.internal.Widths.{fits_byte}
use Rattle.exprgen8080.specs.declared.byte_shifts.Shifted.{Shifted}
use Rattle.exprgen8080.specs.internal.Halves.{high_byte_steps}
use Rattle.exprgen8080.specs.internal.ByteShifts.{byte_shifted_right_steps, right_shift_steps}

-- evaluates an expression for its effects, and puts 0 into HL
unfoldable pub zero_steps : ExpressionNumber → (pushed : ℕ) → List Step
zero_steps value pushed = part (tasks.Effects value) pushed ∷ Word (LoadPair Hl) (Number 0) ∷ []

-- puts a word shifted left by a number into HL: from 8 on, the low byte is moved to the high one first
unfoldable pub shifted_left_steps : ExpressionNumber → (count pushed : ℕ) → List Step
shifted_left_steps value count pushed =
    if nat_le 16 count then zero_steps value pushed
    else if nat_le 8 count
    then part (tasks.Byte value) pushed ∷ plain (copy H A ∷ set L 0 ∷ []) ++ repeat_steps (Dad Hl) (count - 8)
    else part (tasks.Word value) pushed ∷ repeat_steps (Dad Hl) count

-- shifts HL right by 1, through A
unfoldable pub half_steps : List Step
half_steps = plain (with_register Or A ∷ copy A H ∷ Rar ∷ copy H A ∷ copy A L ∷ Rar ∷ copy L A ∷ [])

-- shifts HL right by 2, through A: puts the two low bits of H beside the six high bits of L, and rotates them
-- to the top
unfoldable pub quarter_steps : List Step
quarter_steps = plain (
    copy A L ∷ with_register ExclusiveOr H ∷ AccumulateImmediate And 0xfc ∷ with_register ExclusiveOr H
    ∷ Rrc ∷ Rrc ∷ copy L A
    ∷ copy A H ∷ AccumulateImmediate And 0xfc
    ∷ Rrc ∷ Rrc ∷ copy H A ∷ [])

-- puts a word shifted right by a count below 8 into HL
unfoldable pub shifted_right_little_steps : ExpressionNumber → (count pushed : ℕ) → List Step
shifted_right_little_steps value count pushed =
    part (tasks.Word value) pushed
    ∷ (if count == 0 then []
    else if count == 1 then half_steps
    else if count == 2 then quarter_steps
    else Plain (set A (count % 256)) ∷ CallRoutine routines.ShiftRightAddress ∷ [])

-- puts the value of an expression, as an ADDRESS, shifted right by a number into HL
unfoldable pub word_shifted_right_steps : Site → ExpressionNumber → (count pushed : ℕ) → List Step
word_shifted_right_steps site value count pushed =
    if count == 0 then part (tasks.Word value) pushed ∷ []
    else if nat_le 16 count then zero_steps value pushed
    else if fits_byte site value then byte_shifted_right_steps value count pushed ++ extension_steps
    else if nat_le 8 count
    then high_byte_steps site value pushed ++ right_shift_steps (count - 8) ++ extension_steps
    else shifted_right_little_steps value count pushed

-- the routine that shifts HL by the count in A; only BYTE values are rotated
unfoldable pub word_routine : ShiftFunction → Routine
word_routine ShiftLeft = routines.ShiftLeftAddress
word_routine RotateLeft = routines.ShiftLeftAddress
word_routine ShiftRight = routines.ShiftRightAddress
word_routine RotateRight = routines.ShiftRightAddress

-- puts a count into A, while the word stays in HL or is pushed
unfoldable pub count_beside_word_steps : Site → (count : ExpressionNumber) → (pushed : ℕ) → List Step
count_beside_word_steps site count pushed =
    if is_free site count then part (tasks.Byte count) pushed ∷ []
    else Plain (Push StackHl) ∷ part (tasks.Byte count) ((pushed + 2) % 65536) ∷ Plain (Pop StackHl) ∷ []

-- puts a word shifted by a count that is not known into HL
unfoldable pub computed_count_steps : Site → Shifted → (pushed : ℕ) → List Step
computed_count_steps site shifted pushed =
    part (tasks.Word shifted.value) pushed ∷ count_beside_word_steps site shifted.count pushed
    ++ (CallRoutine (word_routine shifted.function) ∷ [])

-- puts a shift of an ADDRESS by a number into HL
unfoldable pub word_by_number_steps :
    Site → ShiftFunction → (value : ExpressionNumber) → (count pushed : ℕ) → List Step
word_by_number_steps site ShiftRight value count pushed = word_shifted_right_steps site value count pushed
word_by_number_steps site RotateRight value count pushed = word_shifted_right_steps site value count pushed
word_by_number_steps site ShiftLeft value count pushed = shifted_left_steps value count pushed
word_by_number_steps site RotateLeft value count pushed = shifted_left_steps value count pushed

-- puts a shift of an ADDRESS into HL
unfoldable pub word_shift_steps : Site → Shifted → (pushed : ℕ) → List Step
word_shift_steps site shifted pushed = elim (number_of site shifted.count) [
  | Some count ↦ word_by_number_steps site shifted.function shifted.value count pushed
  | None ↦ computed_count_steps site shifted pushed
]
