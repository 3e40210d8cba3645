-- The code of planned steps, with the steps after them.
use Rattle.std.specs.Prelude.{◌≡◌, ℕ, Bool, List, ◌∷◌, ◌++◌, Option}
use Rattle.asm8080.specs.declared.item.Item.{Item}
use Rattle.steps8080.specs.declared.facts.Facts.{Facts}
use Rattle.steps8080.specs.internal.Writer.{Writes}
use Rattle.exprgen8080.specs.internal.Emitted.{HasAll, NotesCalled}
use Rattle.statements8080.specs.declared.body.Body.{Body}
use Rattle.statements8080.specs.declared.plan.Planned.{Planned}
use Rattle.codegen8080.specs.declared.generator.Generator.{Generator}
use Rattle.codegen8080.specs.declared.meeting.Here.{Here}
use Rattle.codegen8080.specs.internal.Driven.{here_of}
use Rattle.codegen8080.specs.internal.Labelled.{LabelledSteps}

-- the code of a step is added: with the code of the steps after it, it is that of all steps
pub record CarriesOut
    (body : Body) (step : Planned) (waiting : Option Facts) (before after : Generator)
    (waits : Option Facts) : Type 0 where
  pub list : List Item
  pub writes : Writes before.emission.writer after.emission.writer list
  pub followed :
      (called : List Bool) (others : List Planned) (more : List Item) (last : Here) (next : ℕ)
      → HasAll after.emission.is_called.items called
      → LabelledSteps body called (here_of after) waits others more last after.emission.steps.labels next
      → LabelledSteps body called (here_of before) waiting (step ∷ others) (list ++ more) last
      before.emission.steps.labels next
  pub called : HasAll before.emission.is_called.items after.emission.is_called.items
  pub notes : NotesCalled body.tree.now before.emission.is_called.items after.emission.is_called.items list
  pub plan : after.plan.list.items ≡ before.plan.list.items
