-- The code of products with a number.
use Rattle.std.specs.Prelude.{ℕ, zero, suc, ◌/◌, ◌%◌, ◌^◌, ◌==◌, Bool, true, false, ◌||◌, List, [], ◌∷◌, ◌++◌, Option, Some, None, if◌then◌else◌, nat_lt}
use Rattle.isa8080.specs.declared.instr.Instr.{Instr}
use Rattle.isa8080.specs.declared.instr.Instr.TheVariants.{Dad}
use Rattle.isa8080.specs.declared.instr.Operation.TheVariants.{Add}
use Rattle.isa8080.specs.declared.instr.Pair.TheVariants.{Bc, Hl}
use Rattle.isa8080.specs.declared.instr.Register.TheVariants.{A, B, C, H, L}
use Rattle.asm8080.specs.declared.item.WordForm.TheVariants.{LoadPair}
use Rattle.treecode.specs.declared.expression.ExpressionNumber.{ExpressionNumber}
use Rattle.treecode.specs.declared.place.Place.TheVariants.{Number}
use Rattle.steps8080.specs.declared.step.Step.{Step}
use Rattle.steps8080.specs.declared.step.Step.TheVariants.{Plain, Word}
use Rattle.steps8080.specs.declared.step.Task.TheVariants as tasks
use Rattle.steps8080.specs.internal.Step.{part, plain, repeat_steps}
use Rattle.steps8080.specs.internal.Instructions.{clear_a, copy, set, with_register}
use Rattle.steps8080.specs.internal.Widths.{power_of_two}

-- whether a bit of a number is 1
unfoldable pub has_bit : (number bit : ℕ) → Bool
has_bit number bit = if nat_lt bit 16 then number / 2 ^ bit % 2 == 1 else false

-- the steps for a bit: `twice` if it is below the highest one, and `once_more` if both it and a higher one
-- are 1
abbrev pub bit_steps : (twice once_more : Instr) → (is_below is_set : Bool) → List Step
bit_steps twice once_more false is_set = []
bit_steps twice once_more true false = Plain twice ∷ []
bit_steps twice once_more true true = Plain twice ∷ Plain once_more ∷ []

-- the steps for the lowest `bits` bits of a number, from high to low; `is_below` is whether a higher bit is 1
unfoldable pub chain_from : (bits number : ℕ) → (twice once_more : Instr) → (is_below : Bool) → List Step
chain_from zero number twice once_more is_below = []
chain_from (suc bit) number twice once_more is_below =
    bit_steps twice once_more is_below (has_bit number bit)
    ++ chain_from bit number twice once_more (is_below || has_bit number bit)

-- a number as a chain of sums: the steps for each bit below its highest one
abbrev pub chain_steps : (number : ℕ) → (twice once_more : Instr) → List Step
chain_steps number twice once_more = chain_from 16 number twice once_more false

-- multiplies HL by a number that is not 0: doubles HL, and adds the first value, which is in BC
abbrev pub small_multiple_steps : (number : ℕ) → List Step
small_multiple_steps number = elim (power_of_two number) [
  | Some power ↦ repeat_steps (Dad Hl) power
  | None ↦ plain (copy B H ∷ copy C L ∷ []) ++ chain_steps number (Dad Hl) (Dad Bc)
]

-- multiplies HL by a number with a low byte that may be 0: then L is moved to H first
abbrev pub multiple_steps : (number : ℕ) → List Step
multiple_steps number =
    if number % 256 == 0 then plain (copy H L ∷ set L 0 ∷ []) ++ small_multiple_steps (number / 256)
    else small_multiple_steps number

-- puts the product of an expression and a number into HL
abbrev pub product_steps : ExpressionNumber → (number pushed : ℕ) → List Step
product_steps expression number pushed =
    if number == 0 then part (tasks.Effects expression) pushed ∷ Word (LoadPair Hl) (Number 0) ∷ []
    else part (tasks.Word expression) pushed ∷ multiple_steps number

-- multiplies A by a number that is not 0, with the first value in B
abbrev pub byte_multiple_steps : (number : ℕ) → List Step
byte_multiple_steps number = elim (power_of_two number) [
  | Some power ↦ repeat_steps (with_register Add A) power
  | None ↦ Plain (copy B A) ∷ chain_steps number (with_register Add A) (with_register Add B)
]

-- puts the low byte of the product of an expression and a number into A
abbrev pub byte_product_steps : ExpressionNumber → (number pushed : ℕ) → List Step
byte_product_steps expression number pushed =
    if number == 0 then part (tasks.Effects expression) pushed ∷ Plain clear_a ∷ []
    else part (tasks.Byte expression) pushed ∷ byte_multiple_steps number
