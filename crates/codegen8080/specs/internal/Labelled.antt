-- The labels of the code of statements: they are counted in the order of the code.
use Rattle.std.specs.Prelude.{◌≡◌, ℕ, Bool, List, Option}
use Rattle.asm8080.specs.declared.item.Item.{Item}
use Rattle.treecode.specs.declared.lists.Range.{Range}
use Rattle.treecode.specs.declared.statement.StatementNumber.{StatementNumber}
use Rattle.steps8080.specs.declared.facts.Facts.{Facts}
use Rattle.steps8080.specs.internal.Step.{label_after}
use Rattle.exprgen8080.specs.internal.Emission.{knowing}
use Rattle.exprgen8080.specs.internal.Labelled.{AreLabelled}
use Rattle.statements8080.specs.declared.body.Body.{Body}
use Rattle.statements8080.specs.declared.plan.Planned.{Planned}
use Rattle.codegen8080.specs.declared.meeting.Here.{Here}
use Rattle.codegen8080.specs.internal.Generated.{AreAllCarriedOut, AreCarriedOut, IsCarriedOut, IsListCarriedOut, ListCarriedOut, ListPlanned, MoreStatements, NoneCarriedOut, NoStatements, StatementCarriedOut, StatementPlanned, StepCarriedOut, site_of}
use Rattle.codegen8080.specs.internal.Statements.{statement_labels}

abbrev mutual
  -- The labels of planned steps are consecutive from `label` on, up to the next one that is not taken. A
  -- statement takes its own labels first, and then those of its parts.
  pub AreStepsLabelled :
      {body : Body} {called : List Bool} {here last : Here} {waiting : Option Facts} {list : List Planned}
      {items : List Item}
      → AreCarriedOut body called here waiting list items last → (label next : ℕ) → Type 0
  AreStepsLabelled NoneCarriedOut label next = next ≡ label
  AreStepsLabelled (StepCarriedOut alone written others) label next =
      (middle : ℕ) × AreLabelled written label middle × AreStepsLabelled others middle next
  AreStepsLabelled (StatementCarriedOut first others) label next =
      (middle : ℕ) × IsStatementLabelled first label middle × AreStepsLabelled others middle next
  AreStepsLabelled (ListCarriedOut first others) label next =
      (middle : ℕ) × IsListLabelled first label middle × AreStepsLabelled others middle next

  -- the labels of a statement
  pub IsStatementLabelled :
      {body : Body} {called : List Bool} {facts : Facts} {number : StatementNumber} {items : List Item} {last : Here}
      → IsCarriedOut body called facts number items last → (label next : ℕ) → Type 0
  IsStatementLabelled {body = body} {facts = facts} (StatementPlanned {statement = statement} at found steps) label next =
      (at ≡ label)
      × AreStepsLabelled steps (label_after label (statement_labels body (knowing (site_of body) facts) statement)) next

  -- the labels of the statements of a list
  pub IsListLabelled :
      {body : Body} {called : List Bool} {facts : Facts} {range : Range} {items : List Item} {last : Here}
      → IsListCarriedOut body called facts range items last → (label next : ℕ) → Type 0
  IsListLabelled (ListPlanned all) label next = AreAllLabelled all label next

  -- the labels of consecutive statements
  pub AreAllLabelled :
      {body : Body} {called : List Bool} {here last : Here} {first count : ℕ} {items : List Item}
      → AreAllCarriedOut body called here first count items last → (label next : ℕ) → Type 0
  AreAllLabelled NoStatements label next = next ≡ label
  AreAllLabelled (MoreStatements found first others) label next =
      (middle : ℕ) × IsStatementLabelled first label middle × AreAllLabelled others middle next

-- planned steps, a statement, a list and consecutive statements, with these labels
abbrev pub LabelledSteps :
    (body : Body) (called : List Bool) (here : Here) (waiting : Option Facts) (list : List Planned)
    (items : List Item) (last : Here) (label next : ℕ)
    → Type 0
LabelledSteps body called here waiting list items last label next =
    (code : AreCarriedOut body called here waiting list items last) × AreStepsLabelled code label next

abbrev pub LabelledStatement :
    (body : Body) (called : List Bool) (facts : Facts) (number : StatementNumber) (items : List Item) (last : Here)
    (label next : ℕ)
    → Type 0
LabelledStatement body called facts number items last label next =
    (code : IsCarriedOut body called facts number items last) × IsStatementLabelled code label next

abbrev pub LabelledList :
    (body : Body) (called : List Bool) (facts : Facts) (range : Range) (items : List Item) (last : Here)
    (label next : ℕ)
    → Type 0
LabelledList body called facts range items last label next =
    (code : IsListCarriedOut body called facts range items last) × IsListLabelled code label next

abbrev pub LabelledStatements :
    (body : Body) (called : List Bool) (here : Here) (first count : ℕ) (items : List Item) (last : Here)
    (label next : ℕ)
    → Type 0
LabelledStatements body called here first count items last label next =
    (code : AreAllCarriedOut body called here first count items last) × AreAllLabelled code label next
