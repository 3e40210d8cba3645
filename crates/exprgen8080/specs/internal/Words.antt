-- Code that puts values into HL.
use Rattle.std.specs.Prelude.{ℕ, true, List, [], ◌∷◌, Some, None}
use Rattle.isa8080.specs.declared.instr.Instr.TheVariants.{Cma}
use Rattle.isa8080.specs.declared.instr.Operation.TheVariants.{Subtract, SubtractWithBorrow}
use Rattle.isa8080.specs.declared.instr.Register.TheVariants.{A, H, L}
use Rattle.trees.specs.declared.declaration.ScalarType.TheVariants as scalars
use Rattle.trees.specs.declared.expression.UnaryOperator.{UnaryOperator}
use Rattle.trees.specs.declared.expression.UnaryOperator.TheVariants.{Not, Negate}
use Rattle.treecode.specs.declared.expression.Expression.{Expression}
use Rattle.treecode.specs.declared.expression.ExpressionForm.{ExpressionForm}
use Rattle.treecode.specs.declared.expression.ExpressionForm.TheVariants as forms
use Rattle.treecode.specs.declared.expression.ExpressionNumber.{ExpressionNumber}
use Rattle.treecode.specs.declared.place.Location.TheVariants.{Static}
use Rattle.steps8080.specs.declared.step.Step.{Step}
use Rattle.steps8080.specs.declared.step.Task.TheVariants as tasks
use Rattle.steps8080.specs.internal.Instructions.{clear_a, copy, set, with_register}
use Rattle.steps8080.specs.internal.Step.{extension_steps, part, plain}
use Rattle.steps8080.specs.declared.sites.site.Site.{Site}
use Rattle.steps8080.specs.internal.Site.{expression}
use Rattle.steps8080.specs.internal.Queries.{known, memory}
use Rattle.operands8080.specs.internal.Addresses.{location_address_steps}
use Rattle.operands8080.specs.internal.Loads.{extended_byte_in_memory_steps, word_in_memory_steps}
use Rattle.exprgen8080.specs.internal.Bytes.{embedded_steps}
use Rattle.exprgen8080.specs.internal.Calls.{call_steps}
use Rattle.exprgen8080.specs.internal.WordOperators.{word_binary_steps}
use Rattle.exprgen8080.specs.internal.WordShifts.{word_shift_steps}

-- replaces the word in HL by NOT or `-` of it
unfoldable pub word_unary_steps : UnaryOperator → List Step
word_unary_steps Not = plain (copy A L ∷ Cma ∷ copy L A ∷ copy A H ∷ Cma ∷ copy H A ∷ [])
word_unary_steps Negate = plain (
    clear_a ∷ with_register Subtract L ∷ copy L A
    ∷ set A 0 ∷ with_register SubtractWithBorrow H ∷ copy H A ∷ [])

-- puts the value of a BYTE expression into HL
unfoldable pub extended_byte_steps : Site → ExpressionNumber → (pushed : ℕ) → List Step
extended_byte_steps site number pushed = elim (memory site number) [
  | Some reference ↦ extended_byte_in_memory_steps site reference pushed
  | None ↦ part (tasks.Byte number) pushed ∷ extension_steps
]

-- puts the result of an operator with two ADDRESS operands, or of a shift of an ADDRESS, into HL
unfoldable pub word_of_two_steps : Site → ExpressionForm → (pushed : ℕ) → List Step
word_of_two_steps site (forms.Binary operands operator left right) pushed =
    word_binary_steps site operator (record { left = left; right = right }) pushed
word_of_two_steps site (forms.Shift function value count) pushed =
    word_shift_steps site (record { function = function; value = value; count = count }) pushed
word_of_two_steps site form pushed = []

-- puts the value of an ADDRESS expression that is not known into HL; a function that gives an ADDRESS gives its operand
unfoldable pub word_form_steps : Site → ExpressionForm → (pushed : ℕ) → List Step
word_form_steps site (forms.Value reference) pushed = word_in_memory_steps site reference pushed
word_form_steps site (forms.Location reference) pushed = part (tasks.Address reference) pushed ∷ []
word_form_steps site (forms.Conversion inner) pushed = part (tasks.Word inner) pushed ∷ []
word_form_steps site (forms.Function function operand) pushed = part (tasks.Word operand) pushed ∷ []
word_form_steps site (forms.Unary operator operand) pushed =
    part (tasks.Word operand) pushed ∷ word_unary_steps operator
word_form_steps site (forms.Binary operands operator left right) pushed =
    word_of_two_steps site (forms.Binary operands operator left right) pushed
word_form_steps site (forms.Shift function value count) pushed =
    word_of_two_steps site (forms.Shift function value count) pushed
word_form_steps site (forms.Assignment target value) pushed = embedded_steps target value true pushed
word_form_steps site (forms.Call procedure arguments) pushed = call_steps site procedure arguments pushed
word_form_steps site form pushed = []

-- puts the value of an expression that is not known into HL
unfoldable pub computed_word_steps :
    Site → (number : ExpressionNumber) → Expression → (pushed : ℕ) → List Step
computed_word_steps site number found pushed = elim found.traits.scalar [
  | scalars.Byte ↦ extended_byte_steps site number pushed
  | scalars.Address ↦ word_form_steps site found.form pushed
]

-- puts the value of an expression into HL; a BYTE is zero-extended
unfoldable pub word_steps : Site → (number : ExpressionNumber) → (pushed : ℕ) → List Step
word_steps site number pushed = elim (known site number) [
  | Some place ↦ location_address_steps site (Static place) pushed
  | None ↦ elim (expression site number) [
    | Some found ↦ computed_word_steps site number found pushed
    | None ↦ []
  ]
]
