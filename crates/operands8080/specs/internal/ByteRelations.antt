-- The code of relations of BYTEs.
use Rattle.std.specs.Prelude.{ℕ, ◌+◌, ◌%◌, ◌==◌, Bool, true, false, ◌&&◌, ◌||◌, not, List, [], ◌∷◌, ◌++◌, Option, Some, None, is_some, if◌then◌else◌, nat_lt}
use Rattle.isa8080.specs.declared.instr.Instr.TheVariants.{AccumulateImmediate, Dcr, Inr, Pop, Push}
use Rattle.isa8080.specs.declared.instr.Operand.TheVariants.{Of}
use Rattle.isa8080.specs.declared.instr.Operation.{Operation}
use Rattle.isa8080.specs.declared.instr.Operation.TheVariants.{Compare, Subtract}
use Rattle.isa8080.specs.declared.instr.Register.TheVariants.{A, B, E}
use Rattle.isa8080.specs.declared.instr.StackPair.TheVariants.{StackBc, Psw}
use Rattle.treecode.specs.declared.expression.ExpressionNumber.{ExpressionNumber}
use Rattle.treecode.specs.declared.reference.Reference.{Reference}
use Rattle.steps8080.specs.declared.step.Step.{Step}
use Rattle.steps8080.specs.declared.step.Step.TheVariants.{Plain, TestA}
use Rattle.steps8080.specs.declared.step.Task.TheVariants.{Address, Byte}
use Rattle.steps8080.specs.internal.Instructions.{copy, with_memory, with_register}
use Rattle.steps8080.specs.internal.Step.{part, plain}
use Rattle.steps8080.specs.declared.sites.questions.Comparison.{Comparison}
use Rattle.steps8080.specs.declared.sites.questions.NumberQuestion.{NumberQuestion}
use Rattle.steps8080.specs.declared.sites.questions.NumberQuestion.TheVariants.{Never, Below, Is}
use Rattle.steps8080.specs.declared.sites.questions.Question.{Question}
use Rattle.steps8080.specs.declared.sites.questions.Question.TheVariants.{LeftBelow, RightBelow, Equal}
use Rattle.steps8080.specs.declared.sites.site.Site.{Site}
use Rattle.steps8080.specs.internal.Queries.{is_at_hl, is_free, may_exchange}
use Rattle.steps8080.specs.internal.Widths.{is_byte_in_register, operand_in_memory}
use Rattle.operands8080.specs.declared.answers.Answer.{Answer}
use Rattle.operands8080.specs.declared.answers.Answer.TheVariants.{Known, Carry, Zero}
use Rattle.operands8080.specs.declared.answers.Purpose.TheVariants.{Branch, Value}
use Rattle.operands8080.specs.declared.answers.Setting.{Setting}
use Rattle.operands8080.specs.declared.byte_relations.Form.{Form}
use Rattle.operands8080.specs.declared.byte_relations.Form.TheVariants.{WithMemory, WithE, Pushed}
use Rattle.operands8080.specs.declared.byte_relations.Sides.{Sides}
use Rattle.operands8080.specs.internal.Answers.{known_steps}

-- compares A with a number that is not 0; sets the zero flag, or leaves 0 in A, if both are equal
abbrev pub byte_is_steps : (number : ℕ) → Setting → List Step
byte_is_steps number setting = elim setting.purpose [
  | Branch ↦ Plain (AccumulateImmediate Compare number) ∷ []
  | Value ↦
      if number == 1 then Plain (Dcr (Of A)) ∷ []
      else if number == 255 then Plain (Inr (Of A)) ∷ []
      else Plain (AccumulateImmediate Subtract number) ∷ []
]

-- tests whether A is 0
abbrev pub is_zero_steps : Setting → List Step
is_zero_steps setting = elim setting.purpose [
  | Branch ↦ TestA ∷ []
  | Value ↦ []
]

-- answers a question about A and a number
abbrev pub number_in_a_steps : NumberQuestion → Setting → List Step
number_in_a_steps Never setting = []
number_in_a_steps (Below number) setting =
    if number == 1 then is_zero_steps setting
    else if nat_lt number 256 then Plain (AccumulateImmediate Compare number) ∷ []
    else []
number_in_a_steps (Is number) setting =
    if number == 0 then is_zero_steps setting
    else if nat_lt number 256 then byte_is_steps number setting
    else []

-- the place where that leaves the answer
abbrev pub number_in_a_answer : NumberQuestion → Answer
number_in_a_answer Never = Known false
number_in_a_answer (Below number) =
    if number == 1 then Zero
    else if nat_lt number 256 then Carry
    else Known true
number_in_a_answer (Is number) =
    if number == 0 then Zero
    else if nat_lt number 256 then Zero
    else Known false

-- the answer to a question about a BYTE, if it is the same for every BYTE
abbrev pub known_answer : NumberQuestion → Option Bool
known_answer Never = Some false
known_answer (Below number) = if nat_lt 255 number then Some true else None
known_answer (Is number) = if nat_lt 255 number then Some false else None

-- answers a question about a BYTE and a number
abbrev pub byte_number_steps : (operand : ExpressionNumber) → NumberQuestion → Setting → List Step
byte_number_steps operand question setting = elim (known_answer question) [
  | Some answer ↦ known_steps operand setting
  | None ↦ part (Byte operand) setting.pushed ∷ number_in_a_steps question setting
]

abbrev pub byte_number_answer : NumberQuestion → Answer
byte_number_answer question = elim (known_answer question) [
  | Some answer ↦ Known answer
  | None ↦ number_in_a_answer question
]

-- the operation that answers a question; for equality as a value it leaves 0 in A
abbrev pub comparing : Question → Setting → Operation
comparing LeftBelow setting = Compare
comparing RightBelow setting = Compare
comparing Equal setting = elim setting.purpose [
  | Branch ↦ Compare
  | Value ↦ Subtract
]

-- the place where the operation leaves the answer
abbrev pub answer_to : Question → Answer
answer_to LeftBelow = Carry
answer_to RightBelow = Carry
answer_to Equal = Zero

-- the left operand first, in A
abbrev pub in_order : Comparison → Sides
in_order comparison = record { first = comparison.left; second = comparison.right; is_in_order = true }

-- the right operand first, in A
abbrev pub exchanged : Comparison → Sides
exchanged comparison = record { first = comparison.right; second = comparison.left; is_in_order = false }

-- whether this operand can be evaluated first
abbrev pub may_begin_with : Site → Comparison → (is_left : Bool) → Bool
may_begin_with site comparison is_left = is_left || may_exchange site comparison.left comparison.right

-- the comparison of A with a byte in memory, if possible
abbrev pub memory_form : Site → Comparison → Sides → Option Form
memory_form site comparison sides = elim (operand_in_memory site sides.second) [
  | Some reference ↦
      if may_begin_with site comparison sides.is_in_order then Some (WithMemory sides reference) else None
  | None ↦ None
]

-- the comparison of A with E, if possible
abbrev pub register_form : Site → Comparison → Sides → Option Form
register_form site comparison sides =
    if is_free site sides.first && may_begin_with site comparison (not sides.is_in_order)
    then Some (WithE sides)
    else None

-- the better one of the two comparisons without a push, if any is possible
unfoldable pub without_push : Site → Comparison → Sides → Option Form
without_push site comparison sides =
    if is_some (register_form site comparison sides) && is_byte_in_register site sides.second
    then register_form site comparison sides
    else elim (memory_form site comparison sides) [
      | Some form ↦ Some form
      | None ↦ register_form site comparison sides
    ]

-- whether the comparison with the right operand in A is better: a register holds it, or HL holds the address
-- of the left one and the code of the right one changes only A
unfoldable pub is_better_exchanged : Site → Comparison → Bool
is_better_exchanged site comparison =
    if is_byte_in_register site comparison.left then false
    else is_byte_in_register site comparison.right
    || is_at_hl site comparison.left && is_free site comparison.right

-- the better one of the comparisons with the left one in A and with the right one in A; else the one with a
-- push
abbrev pub better_form : (one other : Option Form) → (is_other_better : Bool) → Form
better_form (Some form) (Some other) true = other
better_form (Some (WithE sides)) (Some (WithMemory others reference)) false = WithMemory others reference
better_form (Some form) other is_other_better = form
better_form None (Some other) is_other_better = other
better_form None None is_other_better = Pushed

-- the form of a test for equality: either operand may be in A
abbrev pub form_of_equality : Site → Comparison → Form
form_of_equality site comparison =
    better_form (without_push site comparison (in_order comparison))
    (without_push site comparison (exchanged comparison))
    (is_better_exchanged site comparison)

-- the given form, or the one with a push
abbrev pub form_or_push : Option Form → Form
form_or_push (Some form) = form
form_or_push None = Pushed

-- the form of a comparison of two operands
unfoldable pub form_of : Site → Comparison → Form
form_of site comparison = elim comparison.question [
  | LeftBelow ↦ form_or_push (without_push site comparison (in_order comparison))
  | RightBelow ↦ form_or_push (without_push site comparison (exchanged comparison))
  | Equal ↦ form_of_equality site comparison
]

-- compares the first operand with the second one in memory
abbrev pub with_memory_steps : Sides → Reference → Operation → (pushed : ℕ) → List Step
with_memory_steps sides reference operation pushed =
    part (Byte sides.first) pushed ∷ part (Address reference) pushed ∷ Plain (with_memory operation) ∷ []

-- compares the first operand with the second one in E
abbrev pub with_e_steps : Sides → Operation → (pushed : ℕ) → List Step
with_e_steps sides operation pushed =
    part (Byte sides.second) pushed
    ∷ Plain (copy E A)
    ∷ part (Byte sides.first) pushed
    ∷ Plain (with_register operation E)
    ∷ []

-- pops the left operand: into A if it is tested to be below the right one, which is moved to B
abbrev pub left_back_steps : Question → List Step
left_back_steps LeftBelow = plain (copy B A ∷ Pop Psw ∷ [])
left_back_steps RightBelow = Plain (Pop StackBc) ∷ []
left_back_steps Equal = Plain (Pop StackBc) ∷ []

-- compares two operands, and pushes the left one
abbrev pub pushed_steps : Comparison → Operation → (pushed : ℕ) → List Step
pushed_steps comparison operation pushed =
    part (Byte comparison.left) pushed
    ∷ Plain (Push Psw)
    ∷ part (Byte comparison.right) ((pushed + 2) % 65536)
    ∷ left_back_steps comparison.question
    ++ (Plain (with_register operation B) ∷ [])

-- answers a question about two BYTEs; `answer_to` is the place of the answer
abbrev pub byte_relation_steps : Site → Comparison → Setting → List Step
byte_relation_steps site comparison setting =
    let operation = comparing comparison.question setting in
    elim (form_of site comparison) [
      | WithMemory sides reference ↦ with_memory_steps sides reference operation setting.pushed
      | WithE sides ↦ with_e_steps sides operation setting.pushed
      | Pushed ↦ pushed_steps comparison operation setting.pushed
    ]
