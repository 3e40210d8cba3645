-- The code of IF and of loops.
use Rattle.std.specs.Prelude.{ℕ, zero, suc, ◌%◌, Bool, true, false, not, if◌then◌else◌, nat_eq, nat_lt, List, [], ◌∷◌, ◌++◌, Option, Some, None}
use Rattle.isa8080.specs.declared.instr.Instr.TheVariants.{Nop}
use Rattle.asm8080.specs.declared.item.WordForm.TheVariants.{Jump}
use Rattle.trees.specs.declared.expression.BinaryOperator.{BinaryOperator}
use Rattle.trees.specs.declared.expression.BinaryOperator.TheVariants.{And, Or}
use Rattle.trees.specs.declared.expression.UnaryOperator.TheVariants.{Not}
use Rattle.treecode.specs.declared.expression.ExpressionForm.{ExpressionForm}
use Rattle.treecode.specs.declared.expression.ExpressionForm.TheVariants.{Binary, Conversion, Function, Unary}
use Rattle.treecode.specs.declared.expression.ExpressionNumber.{ExpressionNumber}
use Rattle.treecode.specs.declared.lists.Range.{Range}
use Rattle.treecode.specs.declared.statement.LoopHead.{LoopHead}
use Rattle.treecode.specs.declared.statement.StatementNumber.{StatementNumber}
use Rattle.treecode.specs.declared.statement.Statement.{Statement as TreeStatement}
use Rattle.treecode.specs.declared.statement.Statement.TheVariants.{Goto}
use Rattle.treecode.specs.internal.Lowered.{for_head}
use Rattle.treecode.specs.internal.Queries.{statement}
use Rattle.steps8080.specs.declared.step.LabelNumber.{LabelNumber}
use Rattle.steps8080.specs.declared.step.Task.TheVariants as tasks
use Rattle.steps8080.specs.internal.Step.{label_of}
use Rattle.steps8080.specs.declared.sites.site.Site.{Site}
use Rattle.steps8080.specs.internal.Site.{expression}
use Rattle.steps8080.specs.internal.Queries.{number}
use Rattle.statements8080.specs.declared.body.Body.{Body}
use Rattle.statements8080.specs.declared.branching.TheConstants.{LOOKED_THROUGH}
use Rattle.statements8080.specs.declared.plan.Planned.{Planned}
use Rattle.statements8080.specs.declared.plan.Planned.TheVariants.{Jumped, JumpOn, List as ListOf, Meet, Reaches, Statement, Turn}
use Rattle.statements8080.specs.internal.Plans.{jump, mark, nth_label, part, plain}
use Rattle.statements8080.specs.internal.Bodies.{body_label}
use Rattle.statements8080.specs.internal.Iterations.{iteration_labels, iteration_steps}

-- the expression inside NOT or a conversion of this form
abbrev pub inner_of_form : ExpressionForm → Option ExpressionNumber
inner_of_form (Conversion inside) = Some inside
inner_of_form (Unary Not operand) = Some operand
inner_of_form form = None

-- the expression inside NOT or a conversion; its lowest bit is the same or the opposite
abbrev pub inner : Site → ExpressionNumber → Option ExpressionNumber
inner site value = elim (expression site value) [ Some found ↦ inner_of_form found.form | None ↦ None ]

-- whether an operator is AND or OR
abbrev pub is_and_or_or : BinaryOperator → Bool
is_and_or_or And = true
is_and_or_or Or = true
is_and_or_or operator = false

-- whether the code of a condition of this form may be that of AND or OR
abbrev pub may_jump_twice_by : ExpressionForm → Bool
may_jump_twice_by (Binary operands operator left right) = is_and_or_or operator
may_jump_twice_by (Unary operator operand) = true
may_jump_twice_by (Conversion inside) = true
may_jump_twice_by (Function function operand) = true
may_jump_twice_by form = false

-- whether the code of a condition may be that of AND or OR, which may jump for each operand
abbrev pub may_jump_twice : Site → ExpressionNumber → Bool
may_jump_twice site value = elim (expression site value) [
  | Some found ↦ may_jump_twice_by found.form
  | None ↦ true
]

-- whether the code of a condition has at most one jump to its label, looking through `left` negations and
-- conversions around it
unfoldable pub has_one_jump_within : (left : ℕ) → Site → (condition : ExpressionNumber) → Bool
has_one_jump_within zero site condition = false
has_one_jump_within (suc left) site condition = elim (inner site condition) [
  | Some inside ↦ has_one_jump_within left site inside
  | None ↦ not (may_jump_twice site condition)
]

-- whether the code of a condition has at most one jump to its label
abbrev pub has_one_jump : Site → (condition : ExpressionNumber) → Bool
has_one_jump site condition = has_one_jump_within LOOKED_THROUGH site condition

-- the label of a GOTO
abbrev pub goto_label_of : Body → TreeStatement → Option LabelNumber
goto_label_of body (Goto label) = Some (body_label body label)
goto_label_of body other = None

-- the label of a statement that is a GOTO
abbrev pub goto_label : Body → StatementNumber → Option LabelNumber
goto_label body entry = elim (statement body.tree.now entry) [
  | Some found ↦ goto_label_of body found
  | None ↦ None
]

-- a jump to a label on a condition
abbrev pub branch : (condition : ExpressionNumber) → LabelNumber → (sense : Bool) → Planned
branch condition label sense = part (tasks.Branch condition label sense) 0

-- a statement that is carried out if a condition holds
abbrev pub then_steps :
    Site → (condition : ExpressionNumber) → (then_part : StatementNumber) → (first : ℕ) → List Planned
then_steps site condition then_part first =
    branch condition (label_of first) false
    ∷ Jumped (has_one_jump site condition)
    ∷ Statement then_part
    ∷ Meet (label_of first)
    ∷ []

-- one of two statements, chosen by a condition; the second is not a GOTO
abbrev pub both_steps :
    Site → (condition : ExpressionNumber) → (then_part else_part : StatementNumber) → (first : ℕ)
    → List Planned
both_steps site condition then_part else_part first =
    branch condition (label_of first) false
    ∷ Jumped (has_one_jump site condition)
    ∷ Statement then_part
    ∷ Turn (label_of first) (nth_label first 1)
    ∷ Statement else_part
    ∷ Meet (nth_label first 1)
    ∷ []

-- one of two statements, chosen by a condition; a second one that is a GOTO is a jump on the condition
abbrev pub either_steps :
    Body → Site → (condition : ExpressionNumber) → (then_part else_part : StatementNumber) → (first : ℕ)
    → List Planned
either_steps body site condition then_part else_part first = elim (goto_label body else_part) [
  | Some label ↦ branch condition label false ∷ Statement then_part ∷ []
  | None ↦ both_steps site condition then_part else_part first
]

-- the number of labels that it takes
abbrev pub either_labels : Body → (else_part : StatementNumber) → ℕ
either_labels body else_part = elim (goto_label body else_part) [ Some label ↦ 0 | None ↦ 2 ]

-- a statement, if there is one
abbrev pub statement_if_any : Option StatementNumber → List Planned
statement_if_any (Some there) = Statement there ∷ []
statement_if_any None = []

-- IF with a condition that is not known and a first statement that is not a GOTO
abbrev pub computed_if_steps :
    Body → Site → (condition : ExpressionNumber) → (then_part : StatementNumber)
    → (else_part : Option StatementNumber) → (first : ℕ) → List Planned
computed_if_steps body site condition then_part (Some else_part) first =
    either_steps body site condition then_part else_part first
computed_if_steps body site condition then_part None first = then_steps site condition then_part first

-- the number of labels that it takes
abbrev pub computed_if_labels : Body → (else_part : Option StatementNumber) → ℕ
computed_if_labels body (Some else_part) = either_labels body else_part
computed_if_labels body None = 1

-- IF with a condition that is not known; a first statement that is a GOTO is a jump on the condition
abbrev pub tested_if_steps :
    Body → Site → (condition : ExpressionNumber) → (then_part : StatementNumber)
    → (else_part : Option StatementNumber) → (first : ℕ) → List Planned
tested_if_steps body site condition then_part else_part first = elim (goto_label body then_part) [
  | Some label ↦ branch condition label true ∷ statement_if_any else_part
  | None ↦ computed_if_steps body site condition then_part else_part first
]

-- the number of labels that it takes
abbrev pub tested_if_labels :
    Body → (then_part : StatementNumber) → (else_part : Option StatementNumber) → ℕ
tested_if_labels body then_part else_part = elim (goto_label body then_part) [
  | Some label ↦ 0
  | None ↦ computed_if_labels body else_part
]

-- IF; if the condition is known, one statement is left out: no code outside it jumps to its labels
abbrev pub if_steps :
    Body → Site → (condition : ExpressionNumber) → (then_part : StatementNumber)
    → (else_part : Option StatementNumber) → (first : ℕ) → List Planned
if_steps body site condition then_part else_part first = elim (number site condition) [
  | Some known ↦ if nat_eq (known % 2) 1 then Statement then_part ∷ [] else statement_if_any else_part
  | None ↦ tested_if_steps body site condition then_part else_part first
]

-- the number of labels that it takes
abbrev pub if_labels :
    Body → Site → (condition : ExpressionNumber) → (then_part : StatementNumber)
    → (else_part : Option StatementNumber) → ℕ
if_labels body site condition then_part else_part = elim (number site condition) [
  | Some known ↦ 0
  | None ↦ tested_if_labels body then_part else_part
]

-- a list that is repeated forever, after an instruction that counts the first turn
abbrev pub forever_steps : Range → (first : ℕ) → List Planned
forever_steps list first =
    plain Nop ∷ mark (label_of first) ∷ ListOf list ∷ JumpOn (label_of first) ∷ Reaches false ∷ []

-- DO WHILE with a condition that is not known: it is tested at the end; the code before the loop jumps to the
-- test unless the list is empty
abbrev pub tested_while_steps : (condition : ExpressionNumber) → Range → (first : ℕ) → List Planned
tested_while_steps condition list first =
    (if nat_lt 0 list.count then jump Jump (nth_label first 1) ∷ [] else [])
    ++ (mark (label_of first)
    ∷ ListOf list
    ∷ mark (nth_label first 1)
    ∷ branch condition (label_of first) true
    ∷ Reaches true
    ∷ [])

-- DO WHILE; nothing if the condition is known to be false
abbrev pub while_steps : Site → (condition : ExpressionNumber) → Range → (first : ℕ) → List Planned
while_steps site condition list first = elim (number site condition) [
  | Some known ↦ if nat_eq (known % 2) 1 then forever_steps list first else []
  | None ↦ tested_while_steps condition list first
]

-- the number of labels that it takes
abbrev pub while_labels : Site → (condition : ExpressionNumber) → ℕ
while_labels site condition = elim (number site condition) [
  | Some known ↦ if nat_eq (known % 2) 1 then 1 else 0
  | None ↦ 2
]

-- The steps of a loop. DO WHILE: a test by which the code goes around the statements, and a jump back.
-- Iterative DO: a counter, a test of it, the statements, a step, and a jump back.
abbrev pub head_steps : Body → Site → LoopHead → Range → (first : ℕ) → List Planned
head_steps body site head list first =
    for_head (λ condition. while_steps site condition list first)
    (λ iteration. iteration_steps body site iteration list first) head

-- the number of labels that they take
abbrev pub head_labels : Site → LoopHead → ℕ
head_labels site head =
    for_head (λ condition. while_labels site condition) (λ iteration. iteration_labels site iteration) head
