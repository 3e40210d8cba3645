-- What it means that code does what a statement or a list says, and planned steps whose code stands in memory.
use Rattle.std.specs.Prelude.{◌≡◌, ℕ, ◌+◌, ◌*◌, true, List, [], ◌∷◌, Option, None, Some, slice_get}
use Rattle.typed_trees.specs.Charge.{height_of_list, height_of_statement}
use Rattle.typed_trees.specs.Jumps.{ListStands, ListsStand}
use Rattle.typed_trees.specs.TypedTrees.{TypedList, TypedStatement}
use Rattle.typed_trees.specs.WellTyped.{TypesHoldIn, TypesHoldInList}
use Rattle.meaning.specs.Meaning.{done, done_list}
use Rattle.treecode.specs.declared.lists.Range.{Range}
use Rattle.treecode.specs.declared.statement.Statement.{Statement}
use Rattle.treecode.specs.declared.statement.StatementNumber.{StatementNumber}
use Rattle.treecode.specs.internal.Lowered.{IsList, IsStatement}
use Rattle.steps8080.specs.declared.facts.Facts.{Facts}
use Rattle.exprgen8080.specs.internal.Emission.{knowing}
use Rattle.statements8080.specs.declared.plan.Planned.{Planned}
use Rattle.statements8080.specs.declared.plan.Planned.TheVariants as planned
use Rattle.codegen8080.specs.declared.meeting.Here.{Here}
use Rattle.codegen8080.specs.internal.Generated.{HoldsNoStatement, carried_steps, here_after, site_of, waiting_after}
use Rattle.codegen8080.specs.internal.Statements.{statement_steps}
use Rattle.task_laws.specs.internal.Contexts.{nodes_in}
use Rattle.task_laws.specs.internal.Steps.{StepsStand}
use Rattle.task_laws.specs.internal.Tasks.{PartDoes}
use Rattle.statement_laws.specs.internal.Bodies.{Behaves, BodyContext}

-- The code of a statement does what it says: two bytes are needed for each level of its height, and two more.
abbrev pub StatementDoes :
    BodyContext → (before : Facts) → StatementNumber → (from : ℕ) → (after : Here) → (to : ℕ) → Type 0
StatementDoes at before number from after to =
    (bound : ℕ) (tree : TypedStatement)
    → IsStatement (nodes_in at.context) at.context.storage at.labels bound number.index tree
    → TypesHoldIn at.context.typed at.context.within tree
    → ListsStand tree
    → Behaves at before (2 + 2 * height_of_statement tree) from after to
    (done at.context.later at.context.activation.around tree)

-- and so does that of a list
abbrev pub ListDoes : BodyContext → (before : Facts) → Range → (from : ℕ) → (after : Here) → (to : ℕ) → Type 0
ListDoes at before range from after to =
    (bound : ℕ) (tree : TypedList)
    → IsList (nodes_in at.context) at.context.storage at.labels bound range tree
    → TypesHoldInList at.context.typed at.context.within tree
    → ListStands tree
    → Behaves at before (2 + 2 * height_of_list tree) from after to
    (done_list at.context.later at.context.activation.around tree)

-- Planned steps stand from a place on, where the code is here and this waits, up to another place, where it is there.
-- What is true of the statements and lists in them is given.
pub data PlannedStand
    (at : BodyContext)
    (StatementIs : (before : Facts) → StatementNumber → (from : ℕ) → (after : Here) → (to : ℕ) → Type 0)
    (ListIs : (before : Facts) → Range → (from : ℕ) → (after : Here) → (to : ℕ) → Type 0) :
    Here → (waiting : Option Facts) → (from : ℕ) → List Planned → Here → (to : ℕ) → Type 0 where
  NonePlanned : {here : Here} {waiting : Option Facts} {place : ℕ}
      → PlannedStand at StatementIs ListIs here waiting place [] here place
  StepPlanned : {here last : Here} {waiting : Option Facts} {known : Facts} {step : Planned}
      {others : List Planned} {from middle to : ℕ}
      → HoldsNoStatement step
      → StepsStand at.context (PartDoes at.context) here.facts from
      (carried_steps (site_of at.body) here step) known middle
      → PlannedStand at StatementIs ListIs (here_after here waiting known step) (waiting_after here waiting step)
      middle others last to
      → PlannedStand at StatementIs ListIs here waiting from (step ∷ others) last to
  StatementPlanned : {here after last : Here} {waiting : Option Facts} {number : StatementNumber}
      {others : List Planned} {from middle to : ℕ}
      → StatementIs here.facts number from after middle
      → PlannedStand at StatementIs ListIs after waiting middle others last to
      → PlannedStand at StatementIs ListIs here waiting from (planned.Statement number ∷ others) last to
  ListPlanned : {here after last : Here} {waiting : Option Facts} {list : Range}
      {others : List Planned} {from middle to : ℕ}
      → ListIs here.facts list from after middle
      → PlannedStand at StatementIs ListIs after waiting middle others last to
      → PlannedStand at StatementIs ListIs here waiting from (planned.List list ∷ others) last to

-- the steps of a statement stand, where those of the statements and lists in it do what they say
abbrev pub StatementStands :
    BodyContext → (before : Facts) → Statement → (label from : ℕ) → (after : Here) → (to : ℕ) → Type 0
StatementStands at before statement label from after to =
    PlannedStand at (StatementDoes at) (ListDoes at) (record { facts = before; goes_on = true }) None from
    (statement_steps at.body (knowing (site_of at.body) before) statement label) after to

-- where the steps of each statement stand, its code does what it says
abbrev pub StatementsDo : BodyContext → Type 0
StatementsDo at =
    (before : Facts) (number : StatementNumber) (statement : Statement) (label from : ℕ) (after : Here) (to : ℕ)
    → slice_get (nodes_in at.context).statements number.index ≡ Some statement
    → StatementStands at before statement label from after to
    → StatementDoes at before number from after to
