-- Relations for the code that the generator of statements adds.
use Rattle.std.specs.Prelude.{◌≡◌, ℕ, Bool, List, Option, None}
use Rattle.asm8080.specs.declared.item.Item.{Item}
use Rattle.treecode.specs.declared.lists.Range.{Range}
use Rattle.treecode.specs.declared.module.TreeModule.{TreeModule}
use Rattle.treecode.specs.declared.statement.StatementNumber.{StatementNumber}
use Rattle.steps8080.specs.declared.facts.Facts.{Facts}
use Rattle.steps8080.specs.internal.Writer.{Writes}
use Rattle.exprgen8080.specs.declared.emission.Emission.{Emission}
use Rattle.exprgen8080.specs.internal.Emitted.{EmitsSteps, HasAll, NotesCalled}
use Rattle.statements8080.specs.declared.body.Body.{Body}
use Rattle.statements8080.specs.declared.plan.Planned.{Planned}
use Rattle.codegen8080.specs.declared.generator.Generator.{Generator}
use Rattle.codegen8080.specs.declared.meeting.Here.{Here}
use Rattle.codegen8080.specs.internal.Generated.{carried_steps, here_after, site_of, waiting_after}
use Rattle.codegen8080.specs.internal.Labelled.{LabelledList, LabelledStatement, LabelledSteps}

-- the end of the code of a generator
abbrev pub here_of : Generator → Here
here_of generator = record { facts = generator.emission.facts; goes_on = generator.goes_on }

-- Items of a module are added. They are code of some kind, with the routines that are called and the labels
-- that it takes.
pub record AddsCode
    (tree : TreeModule) (IsCode : (called : List Bool) → List Item → (label next : ℕ) → Type 0)
    (before after : Generator) : Type 0 where
  pub list : List Item
  pub writes : Writes before.emission.writer after.emission.writer list
  pub written :
      IsCode after.emission.is_called.items list before.emission.steps.labels after.emission.steps.labels
  pub called : HasAll before.emission.is_called.items after.emission.is_called.items
  pub notes : NotesCalled tree before.emission.is_called.items after.emission.is_called.items list

-- the code of a statement is added
abbrev pub AddsStatement : Body → StatementNumber → (before after : Generator) → Type 0
AddsStatement body number before after =
    AddsCode body.tree.now
    (λ called list label next.
    LabelledStatement body called before.emission.facts number list (here_of after) label next)
    before after

-- the code of a list is added
abbrev pub AddsList : Body → Range → (before after : Generator) → Type 0
AddsList body range before after =
    AddsCode body.tree.now
    (λ called list label next.
    LabelledList body called before.emission.facts range list (here_of after) label next)
    before after

-- the code of planned steps is added
abbrev pub AddsPlanned : Body → List Planned → (before after : Generator) → Type 0
AddsPlanned body planned before after =
    AddsCode body.tree.now
    (λ called list label next.
    LabelledSteps body called (here_of before) None planned list (here_of after) label next)
    before after

-- the code of a step that holds no statement is added; `waits` are the waiting facts after it
pub record AddsStep
    (body : Body) (step : Planned) (waiting : Option Facts) (before after : Generator)
    (waits : Option Facts) : Type 0 where
  pub written : Emission
  pub emits : EmitsSteps (site_of body) (carried_steps (site_of body) (here_of before) step)
      before.emission written
  pub emission : after.emission ≡ record written { facts = after.emission.facts }
  pub here : here_of after ≡ here_after (here_of before) waiting written.facts step
  pub waiting_is : waits ≡ waiting_after (here_of before) waiting step
  pub plan : after.plan ≡ before.plan
