-- Code that puts the low bytes of values into A.
use Rattle.std.specs.Prelude.{ℕ, Bool, true, List, [], ◌∷◌, ◌++◌, Some, None}
use Rattle.isa8080.specs.declared.instr.Instr.TheVariants.{Cma, In, Inr}
use Rattle.isa8080.specs.declared.instr.Operand.TheVariants.{Of}
use Rattle.isa8080.specs.declared.instr.Pair.TheVariants.{Hl}
use Rattle.isa8080.specs.declared.instr.Register.TheVariants.{A, L}
use Rattle.asm8080.specs.declared.item.WordForm.TheVariants.{LoadPair}
use Rattle.trees.specs.declared.declaration.ScalarType.{ScalarType}
use Rattle.trees.specs.declared.declaration.ScalarType.TheVariants as scalars
use Rattle.trees.specs.declared.expression.UnaryOperator.{UnaryOperator}
use Rattle.trees.specs.declared.expression.UnaryOperator.TheVariants.{Not, Negate}
use Rattle.trees.specs.declared.functions.UnaryFunction.{UnaryFunction}
use Rattle.trees.specs.internal.Functions.{byte_taken, for_byte}
use Rattle.treecode.specs.declared.expression.ExpressionForm.{ExpressionForm}
use Rattle.treecode.specs.declared.expression.ExpressionForm.TheVariants as forms
use Rattle.treecode.specs.declared.expression.ExpressionNumber.{ExpressionNumber}
use Rattle.treecode.specs.declared.lists.Range.{Range}
use Rattle.treecode.specs.declared.place.Place.{Place}
use Rattle.treecode.specs.declared.reference.Target.{Target}
use Rattle.treecode.specs.internal.Queries.{place_number, source}
use Rattle.steps8080.specs.declared.step.Step.{Step}
use Rattle.steps8080.specs.declared.step.Step.TheVariants.{Plain, Word}
use Rattle.steps8080.specs.declared.step.Task.TheVariants as tasks
use Rattle.steps8080.specs.internal.Instructions.{copy, low}
use Rattle.steps8080.specs.internal.Step.{part}
use Rattle.steps8080.specs.declared.sites.site.Site.{Site}
use Rattle.steps8080.specs.internal.Site.{expression, scalar}
use Rattle.steps8080.specs.internal.Queries.{known, memory}
use Rattle.operands8080.specs.internal.Loads.{byte_in_memory_steps}
use Rattle.exprgen8080.specs.internal.Halves.{byte_number_steps, high_byte_steps}
use Rattle.exprgen8080.specs.internal.ByteOperators.{byte_binary_steps}
use Rattle.exprgen8080.specs.internal.ByteShifts.{byte_shift_steps}
use Rattle.exprgen8080.specs.internal.Calls.{call_steps, value_task}

-- puts the low byte of a known value into A
unfoldable pub known_byte_steps : Place → List Step
known_byte_steps place = elim (place_number place) [
  | Some number ↦ byte_number_steps (low number)
  | None ↦ Word (LoadPair Hl) place ∷ Plain (copy A L) ∷ []
]

-- puts NOT or `-` of a byte into A
unfoldable pub byte_unary_steps : UnaryOperator → ExpressionNumber → (pushed : ℕ) → List Step
byte_unary_steps Not operand pushed = part (tasks.Byte operand) pushed ∷ Plain Cma ∷ []
byte_unary_steps Negate operand pushed =
    part (tasks.Byte operand) pushed ∷ Plain Cma ∷ Plain (Inr (Of A)) ∷ []

-- puts the value of an assignment into A or HL, by its type, and stores it in the target
unfoldable pub embedded_steps : Target → ExpressionNumber → (is_wanted : Bool) → (pushed : ℕ) → List Step
embedded_steps target value is_wanted pushed =
    part (value_task (source target) value) pushed ∷ part (tasks.Store target is_wanted) pushed ∷ []

-- puts the low byte of a value that is in A or HL, by its type, into A
unfoldable pub low_of_value_steps : ScalarType → List Step
low_of_value_steps scalars.Byte = []
low_of_value_steps scalars.Address = Plain (copy A L) ∷ []

-- puts the low byte of the result of a call into A
unfoldable pub called_byte_steps :
    Site → (number : ExpressionNumber) → (procedure : ℕ) → Range → (pushed : ℕ) → List Step
called_byte_steps site number procedure arguments pushed =
    call_steps site procedure arguments pushed ++ low_of_value_steps (scalar site number)

-- puts the low byte of a function of one value into A
unfoldable pub byte_function_steps : Site → UnaryFunction → ExpressionNumber → (pushed : ℕ) → List Step
byte_function_steps site function operand pushed =
    for_byte (byte_taken function) (part (tasks.Byte operand) pushed ∷ [])
    (high_byte_steps site operand pushed)

-- puts the low byte of the result of an operator with two operands, a shift or a rotation into A
unfoldable pub byte_of_two_steps :
    Site → (number : ExpressionNumber) → ExpressionForm → (pushed : ℕ) → List Step
byte_of_two_steps site number (forms.Binary operands operator left right) pushed =
    byte_binary_steps site number operator (record { left = left; right = right }) pushed
byte_of_two_steps site number (forms.Shift function value count) pushed =
    byte_shift_steps site number (record { function = function; value = value; count = count }) pushed
byte_of_two_steps site number form pushed = []

-- puts the low byte of an expression that is neither known nor in memory into A; numbers and constant lists are
-- known, and values are in memory
unfoldable pub byte_form_steps :
    Site → (number : ExpressionNumber) → ExpressionForm → (pushed : ℕ) → List Step
byte_form_steps site number (forms.Conversion inner) pushed = part (tasks.Byte inner) pushed ∷ []
byte_form_steps site number (forms.Function function operand) pushed =
    byte_function_steps site function operand pushed
byte_form_steps site number (forms.Unary operator operand) pushed = byte_unary_steps operator operand pushed
byte_form_steps site number (forms.Binary operands operator left right) pushed =
    byte_of_two_steps site number (forms.Binary operands operator left right) pushed
byte_form_steps site number (forms.Shift function value count) pushed =
    byte_of_two_steps site number (forms.Shift function value count) pushed
byte_form_steps site number (forms.Assignment target value) pushed =
    embedded_steps target value true pushed ++ low_of_value_steps (source target)
byte_form_steps site number (forms.Call procedure arguments) pushed =
    called_byte_steps site number procedure arguments pushed
byte_form_steps site number (forms.Input port) pushed = Plain (In port) ∷ []
byte_form_steps site number (forms.Location reference) pushed =
    part (tasks.Address reference) pushed ∷ Plain (copy A L) ∷ []
byte_form_steps site number form pushed = []

-- puts the low byte of the value of an expression into A, whatever its type
unfoldable pub byte_steps : Site → (number : ExpressionNumber) → (pushed : ℕ) → List Step
byte_steps site number pushed = elim (known site number) [
  | Some place ↦ known_byte_steps place
  | None ↦ elim (memory site number) [
    | Some reference ↦ byte_in_memory_steps site reference pushed
    | None ↦ elim (expression site number) [
      | Some found ↦ byte_form_steps site number found.form pushed
      | None ↦ []
    ]
  ]
]
