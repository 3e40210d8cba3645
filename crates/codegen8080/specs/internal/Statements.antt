-- The steps of each statement. Those that are not given here are in Assignments, Branches, Cases and Moves of
-- statements8080.
use Rattle.std.specs.Prelude.{ℕ, false, List, [], ◌∷◌, ◌++◌, Option, Some}
use Rattle.isa8080.specs.declared.instr.Instr.TheVariants.{Hlt}
use Rattle.asm8080.specs.declared.item.WordForm.TheVariants.{Jump}
use Rattle.trees.specs.declared.declaration.ScalarType.{ScalarType}
use Rattle.trees.specs.declared.declaration.ScalarType.TheVariants as scalars
use Rattle.treecode.specs.declared.expression.ExpressionNumber.{ExpressionNumber}
use Rattle.treecode.specs.declared.lists.Range.{Range}
use Rattle.treecode.specs.declared.statement.Statement.{Statement}
use Rattle.treecode.specs.declared.statement.Statement.TheVariants.{Label, Null, Assignment, Call, Move, Return, Halt, Goto, If, Do, Loop, Case}
use Rattle.steps8080.specs.declared.step.LabelNumber.{LabelNumber}
use Rattle.steps8080.specs.declared.step.Task.TheVariants as tasks
use Rattle.steps8080.specs.declared.sites.site.Site.{Site}
use Rattle.statements8080.specs.declared.body.Body.{Body}
use Rattle.statements8080.specs.declared.plan.Planned.{Planned}
use Rattle.statements8080.specs.declared.plan.Planned.TheVariants.{List as ListOf, Reaches}
use Rattle.statements8080.specs.internal.Assignments.{assignment_steps}
use Rattle.statements8080.specs.internal.Bodies.{body_label}
use Rattle.statements8080.specs.internal.Branches.{head_labels, head_steps, if_labels, if_steps}
use Rattle.statements8080.specs.internal.Cases.{case_labels, case_steps}
use Rattle.statements8080.specs.internal.Moves.{move_steps}
use Rattle.statements8080.specs.internal.Plans.{jump, mark, part, plain}
use Rattle.codegen8080.specs.internal.Procedures.{return_steps}

-- halts the machine
abbrev pub halt_steps : List Planned
halt_steps = plain Hlt ∷ Reaches false ∷ []

-- a jump to a label
abbrev pub goto_steps : LabelNumber → List Planned
goto_steps label = jump Jump label ∷ Reaches false ∷ []

-- puts the value of a RETURN into A or HL, by the type of the procedure
abbrev pub returned_value_steps : Option ExpressionNumber → (result : Option ScalarType) → List Planned
returned_value_steps (Some value) (Some scalars.Byte) = part (tasks.Byte value) 0 ∷ []
returned_value_steps (Some value) (Some scalars.Address) = part (tasks.Word value) 0 ∷ []
returned_value_steps value result = []

-- a return, with a value if there is one
unfoldable pub return_of_steps : Body → Option ExpressionNumber → List Planned
return_of_steps body value =
    returned_value_steps value body.procedure.now.result ++ (return_steps body ++ (Reaches false ∷ []))

-- the steps of a statement, with consecutive labels from `first` on
unfoldable pub statement_steps : Body → Site → Statement → (first : ℕ) → List Planned
-- the place of a label of the source
statement_steps body site (Label label) first = mark (body_label body label) ∷ []
-- nothing
statement_steps body site Null first = []
-- puts the value into A or HL, and stores it in each target
statement_steps body site (Assignment targets value) first = assignment_steps body site targets value
-- passes the arguments, and calls the procedure
statement_steps body site (Call procedure arguments) first = part (tasks.Call procedure arguments) 0 ∷ []
-- copies bytes, by the routine for that
statement_steps body site (Move count source destination) first = move_steps site count source destination
-- puts the value into A or HL, and returns
statement_steps body site (Return value) first = return_of_steps body value
-- halts the machine
statement_steps body site Halt first = halt_steps
-- a jump to the place of a label
statement_steps body site (Goto label) first = goto_steps (body_label body label)
-- a jump by the condition over the first part, and one over the other
statement_steps body site (If condition then_part else_part) first =
    if_steps body site condition then_part else_part first
-- the statements one after another
statement_steps body site (Do list) first = ListOf list ∷ []
-- a test, the statements, and a jump back
statement_steps body site (Loop head list) first = head_steps body site head list first
-- a jump through a table of jumps to the chosen statement
statement_steps body site (Case choice list) first = case_steps body site choice list first

-- the number of labels that they take
unfoldable pub statement_labels : Body → Site → Statement → ℕ
statement_labels body site (If condition then_part else_part) = if_labels body site condition then_part else_part
statement_labels body site (Loop head list) = head_labels site head
statement_labels body site (Case choice list) = case_labels site choice list
statement_labels body site other = 0
