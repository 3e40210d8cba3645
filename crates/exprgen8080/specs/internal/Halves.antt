-- Code that puts numbers, and halves of words, into A.
use Rattle.std.specs.Prelude.{ℕ, ◌==◌, List, [], ◌∷◌, Some, None, if◌then◌else◌}
use Rattle.isa8080.specs.declared.instr.Register.TheVariants.{A, H, L}
use Rattle.treecode.specs.declared.expression.ExpressionNumber.{ExpressionNumber}
use Rattle.steps8080.specs.declared.step.Step.{Step}
use Rattle.steps8080.specs.declared.step.Step.TheVariants.{Plain}
use Rattle.steps8080.specs.declared.step.Task.TheVariants as tasks
use Rattle.steps8080.specs.internal.Instructions.{clear_a, copy, high, set}
use Rattle.steps8080.specs.internal.Step.{part}
use Rattle.steps8080.specs.declared.sites.site.Site.{Site}
use Rattle.steps8080.specs.internal.Queries.{number as number_of}
use Rattle.steps8080.specs.internal.Widths.{fits_byte, high_byte_in_memory}
use Rattle.operands8080.specs.internal.Loads.{byte_in_memory_steps}

-- puts a number into A
unfoldable pub byte_number_steps : (number : ℕ) → List Step
byte_number_steps number = if number == 0 then Plain clear_a ∷ [] else Plain (set A number) ∷ []

-- puts the low byte of the value of an ADDRESS expression into A, through HL
unfoldable pub low_of_word_steps : ExpressionNumber → (pushed : ℕ) → List Step
low_of_word_steps expression pushed = part (tasks.Word expression) pushed ∷ Plain (copy A L) ∷ []

-- puts the high byte of the value of an expression into A; it is 0 for a BYTE
unfoldable pub high_byte_steps : Site → ExpressionNumber → (pushed : ℕ) → List Step
high_byte_steps site expression pushed = elim (number_of site expression) [
  | Some number ↦ byte_number_steps (high number)
  | None ↦
      if fits_byte site expression then part (tasks.Effects expression) pushed ∷ Plain clear_a ∷ []
      else elim (high_byte_in_memory site expression) [
        | Some reference ↦ byte_in_memory_steps site reference pushed
        | None ↦ part (tasks.Word expression) pushed ∷ Plain (copy A H) ∷ []
      ]
]
