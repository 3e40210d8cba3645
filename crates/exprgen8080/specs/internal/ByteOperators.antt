-- The code of operators on low bytes, with the result in A.
use Rattle.std.specs.Prelude.{ℕ, ◌+◌, ◌-◌, ◌%◌, ◌==◌, Bool, true, false, ◌&&◌, List, [], ◌∷◌, ◌++◌, Option, Some, None, is_some, option_map, if◌then◌else◌}
use Rattle.isa8080.specs.declared.instr.Instr.TheVariants.{AccumulateImmediate, Cma, Dcr, Inr, Pop, Push}
use Rattle.isa8080.specs.declared.instr.Operand.TheVariants.{Of}
use Rattle.isa8080.specs.declared.instr.Operation.{Operation}
use Rattle.isa8080.specs.declared.instr.Operation.TheVariants.{Add, Subtract, And, ExclusiveOr, Or}
use Rattle.isa8080.specs.declared.instr.Register.TheVariants.{A, B, E, L}
use Rattle.isa8080.specs.declared.instr.StackPair.TheVariants.{Psw, StackBc}
use Rattle.runtime8080.specs.declared.routine.Routine.TheVariants as routines
use Rattle.trees.specs.declared.expression.BinaryOperator.{BinaryOperator}
use Rattle.trees.specs.declared.expression.BinaryOperator.TheVariants as operators
use Rattle.treecode.specs.declared.expression.ExpressionNumber.{ExpressionNumber}
use Rattle.treecode.specs.declared.reference.Reference.{Reference}
use Rattle.steps8080.specs.declared.step.Step.{Step}
use Rattle.steps8080.specs.declared.step.Step.TheVariants.{CallRoutine, Plain}
use Rattle.steps8080.specs.declared.step.Task.TheVariants as tasks
use Rattle.steps8080.specs.internal.Instructions.{clear_a, copy, low, with_memory, with_register}
use Rattle.steps8080.specs.internal.Step.{part}
use Rattle.steps8080.specs.declared.sites.site.Site.{Site}
use Rattle.steps8080.specs.internal.Queries.{is_free, may_exchange, number as number_of}
use Rattle.steps8080.specs.internal.Widths.{is_byte_in_register, low_number, operand_in_memory, power}
use Rattle.operands8080.specs.internal.Pairs.{pair_steps}
use Rattle.operands8080.specs.internal.Products.{byte_product_steps}
use Rattle.operands8080.specs.internal.Relations.{relation_value_steps}
use Rattle.exprgen8080.specs.declared.byte_operators.ByteForm.{ByteForm}
use Rattle.exprgen8080.specs.declared.byte_operators.ByteForm.TheVariants.{RightInMemory, LeftInMemory, LeftFree, RightFree, Pushed}
use Rattle.exprgen8080.specs.declared.byte_operators.Operands.{Operands}
use Rattle.exprgen8080.specs.internal.Halves.{byte_number_steps}
use Rattle.exprgen8080.specs.internal.ByteShifts.{low_byte_shifted_right_steps}
use Rattle.exprgen8080.specs.internal.Routines.{computed_product_steps, division_steps}

-- whether the operands of an operation may be exchanged
unfoldable pub commutes : Operation → Bool
commutes Add = true
commutes And = true
commutes ExclusiveOr = true
commutes Or = true
commutes operation = false

-- adds a number to A
unfoldable pub added_steps : (number : ℕ) → List Step
added_steps number =
    if number == 0 then []
    else if number == 1 then Plain (Inr (Of A)) ∷ []
    else if number == 255 then Plain (Dcr (Of A)) ∷ []
    else Plain (AccumulateImmediate Add number) ∷ []

-- an operation on A with a number, in the shortest form; a difference is a sum with 256 minus the number
unfoldable pub immediate_steps : Operation → (number : ℕ) → List Step
immediate_steps Add number = added_steps number
immediate_steps Subtract number = added_steps ((256 - number) % 256)
immediate_steps Or number = if number == 0 then [] else Plain (AccumulateImmediate Or number) ∷ []
immediate_steps ExclusiveOr number =
    if number == 0 then []
    else if number == 255 then Plain Cma ∷ []
    else Plain (AccumulateImmediate ExclusiveOr number) ∷ []
immediate_steps And number = if number == 255 then [] else Plain (AccumulateImmediate And number) ∷ []
immediate_steps operation number = Plain (AccumulateImmediate operation number) ∷ []

-- an operation with a byte on the left and a number on the right, into A; if the number alone gives the
-- result, the byte is evaluated for its effects
unfoldable pub with_number_steps : Operation → ExpressionNumber → (number pushed : ℕ) → List Step
with_number_steps And value number pushed =
    if number == 0 then part (tasks.Effects value) pushed ∷ Plain clear_a ∷ []
    else part (tasks.Byte value) pushed ∷ immediate_steps And number
with_number_steps Or value number pushed =
    if number == 255 then part (tasks.Effects value) pushed ∷ byte_number_steps 255
    else part (tasks.Byte value) pushed ∷ immediate_steps Or number
with_number_steps operation value number pushed =
    part (tasks.Byte value) pushed ∷ immediate_steps operation number

-- an operation with a number on the left and a byte on the right, into A; a difference is a sum with the
-- complement
unfoldable pub from_number_steps : Operation → (number : ℕ) → ExpressionNumber → (pushed : ℕ) → List Step
from_number_steps operation number value pushed =
    if commutes operation then with_number_steps operation value number pushed
    else part (tasks.Byte value) pushed ∷ Plain Cma ∷ added_steps ((number + 1) % 256)

-- the form that evaluates the right operand first, if the left one is in memory or free
unfoldable pub form_after_right : Site → Operation → Operands → Option ByteForm
form_after_right site operation operands =
    if commutes operation then option_map LeftInMemory (operand_in_memory site operands.left)
    else if is_free site operands.left then Some LeftFree
    else None

-- the form for a right operand that is in a register already, if that makes the code shorter
unfoldable pub form_from_register : Site → Operation → Operands → Option ByteForm
form_from_register site operation operands =
    if is_byte_in_register site operands.right && may_exchange site operands.left operands.right
    then form_after_right site operation operands
    else None

-- the form if no operand is in memory
unfoldable pub form_without_memory : Site → Operation → Operands → ByteForm
form_without_memory site operation operands =
    if may_exchange site operands.left operands.right && is_free site operands.left then LeftFree
    else if commutes operation && is_free site operands.right then RightFree
    else Pushed

-- the form if the right operand is not in memory
unfoldable pub form_with_left : Site → Operation → Operands → ByteForm
form_with_left site operation operands =
    if may_exchange site operands.left operands.right && commutes operation
    then elim (operand_in_memory site operands.left) [
      | Some reference ↦ LeftInMemory reference
      | None ↦ form_without_memory site operation operands
    ]
    else form_without_memory site operation operands

-- the form of an operation on two operands that are not numbers
unfoldable pub form_of : Site → Operation → Operands → ByteForm
form_of site operation operands = elim (form_from_register site operation operands) [
  | Some form ↦ form
  | None ↦ elim (operand_in_memory site operands.right) [
    | Some reference ↦ RightInMemory reference
    | None ↦ form_with_left site operation operands
  ]
]

-- puts one operand into A, and does the operation with the other one in memory
unfoldable pub with_memory_steps :
    Operation → ExpressionNumber → (other : Reference) → (pushed : ℕ) → List Step
with_memory_steps operation value other pushed =
    part (tasks.Byte value) pushed ∷ part (tasks.Address other) pushed ∷ Plain (with_memory operation) ∷ []

-- puts one operand into E, then the other one, with code that changes only A, into A; does the operation with
-- E
unfoldable pub with_e_steps : Operation → (first second : ExpressionNumber) → (pushed : ℕ) → List Step
with_e_steps operation first second pushed =
    part (tasks.Byte first) pushed ∷ Plain (copy E A) ∷ part (tasks.Byte second) pushed
    ∷ Plain (with_register operation E) ∷ []

-- pushes the left operand, evaluates the right one, and does the operation with both
unfoldable pub with_stack_steps : Operation → Operands → (pushed : ℕ) → List Step
with_stack_steps operation operands pushed =
    part (tasks.Byte operands.left) pushed ∷ Plain (Push Psw)
    ∷ part (tasks.Byte operands.right) ((pushed + 2) % 65536)
    ∷ (if commutes operation then Plain (Pop StackBc) ∷ [] else Plain (copy B A) ∷ Plain (Pop Psw) ∷ [])
    ++ (Plain (with_register operation B) ∷ [])

-- an operation with two operands that are not numbers, in a form
unfoldable pub in_form_steps : ByteForm → Operation → Operands → (pushed : ℕ) → List Step
in_form_steps (RightInMemory reference) operation operands pushed =
    with_memory_steps operation operands.left reference pushed
in_form_steps (LeftInMemory reference) operation operands pushed =
    with_memory_steps operation operands.right reference pushed
in_form_steps LeftFree operation operands pushed = with_e_steps operation operands.right operands.left pushed
in_form_steps RightFree operation operands pushed = with_e_steps operation operands.left operands.right pushed
in_form_steps Pushed operation operands pushed = with_stack_steps operation operands pushed

-- puts the result of an operation with the low bytes of two operands into A
unfoldable pub byte_operation_steps : Site → Operation → Operands → (pushed : ℕ) → List Step
byte_operation_steps site operation operands pushed = elim (low_number site operands.right) [
  | Some number ↦ with_number_steps operation operands.left number pushed
  | None ↦ elim (low_number site operands.left) [
    | Some number ↦ from_number_steps operation number operands.right pushed
    | None ↦ in_form_steps (form_of site operation operands) operation operands pushed
  ]
]

-- puts the low byte of a product into A
unfoldable pub product_byte_steps : Site → Operands → (pushed : ℕ) → List Step
product_byte_steps site operands pushed = elim (low_number site operands.right) [
  | Some factor ↦ byte_product_steps operands.left factor pushed
  | None ↦ elim (low_number site operands.left) [
    | Some factor ↦ byte_product_steps operands.right factor pushed
    | None ↦ computed_product_steps site operands pushed ++ (Plain (copy A L) ∷ [])
  ]
]

-- puts the low byte of a quotient into A
unfoldable pub quotient_byte_steps : Site → Operands → (pushed : ℕ) → List Step
quotient_byte_steps site operands pushed = elim (power site operands.right) [
  | Some count ↦ low_byte_shifted_right_steps site operands.left count pushed
  | None ↦ division_steps site operands pushed ++ (Plain (copy A L) ∷ [])
]

-- the value of an expression, if it is known as a power of 2
unfoldable pub number_of_two : Site → ExpressionNumber → Option ℕ
number_of_two site expression = elim (number_of site expression) [
  | Some number ↦ if is_some (power site expression) then Some number else None
  | None ↦ None
]

-- puts the low byte of a remainder into A; for a power of 2, masks the bits below it
unfoldable pub remainder_byte_steps : Site → Operands → (pushed : ℕ) → List Step
remainder_byte_steps site operands pushed = elim (number_of_two site operands.right) [
  | Some number ↦ with_number_steps And operands.left (low ((number + 65535) % 65536)) pushed
  | None ↦
      pair_steps site operands.left operands.right true pushed
      ++ (CallRoutine routines.Divide ∷ Plain (copy A E) ∷ [])
]

-- puts the low byte of the result of an operator with two operands into A
unfoldable pub byte_binary_steps :
    Site → (number : ExpressionNumber) → BinaryOperator → Operands → (pushed : ℕ) → List Step
byte_binary_steps site number operators.Add operands pushed = byte_operation_steps site Add operands pushed
byte_binary_steps site number operators.Subtract operands pushed =
    byte_operation_steps site Subtract operands pushed
byte_binary_steps site number operators.And operands pushed = byte_operation_steps site And operands pushed
byte_binary_steps site number operators.Or operands pushed = byte_operation_steps site Or operands pushed
byte_binary_steps site number operators.Xor operands pushed =
    byte_operation_steps site ExclusiveOr operands pushed
byte_binary_steps site number operators.Multiply operands pushed = product_byte_steps site operands pushed
byte_binary_steps site number operators.Divide operands pushed = quotient_byte_steps site operands pushed
byte_binary_steps site number operators.Modulo operands pushed = remainder_byte_steps site operands pushed
byte_binary_steps site number operator operands pushed = relation_value_steps site number pushed
