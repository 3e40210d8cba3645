-- Steps with code in memory.
use Rattle.std.specs.Prelude.{◌≡◌, ℕ, ◌+◌, true, List, [], ◌∷◌}
use Rattle.isa8080.specs.declared.instr.Instr.{Instr}
use Rattle.asm8080.specs.declared.item.Item.TheVariants as items
use Rattle.asm8080.specs.declared.item.WordForm.{WordForm}
use Rattle.asm8080.specs.declared.item.WordForm.TheVariants.{CallTo}
use Rattle.asm8080.specs.Standing.{size_of_instruction}
use Rattle.runtime8080.specs.declared.routine.Routine.{Routine}
use Rattle.treecode.specs.declared.place.Place.{Place}
use Rattle.code_meaning.specs.internal.Activations.{IsThere}
use Rattle.steps8080.specs.declared.facts.Facts.{Facts}
use Rattle.steps8080.specs.declared.step.LabelNumber.{LabelNumber}
use Rattle.steps8080.specs.declared.step.Part.{Part}
use Rattle.steps8080.specs.declared.step.Step.{Step}
use Rattle.steps8080.specs.declared.step.Step.TheVariants as steps
use Rattle.steps8080.specs.internal.Facts.{after, after_form, after_word, no_facts, with_facts, without_memory}
use Rattle.steps8080.specs.internal.Writer.{jump_item, word_item}
use Rattle.exprgen8080.specs.internal.Emission.{after_test, call_items, has_routine, label_of_routine, test_items}
use Rattle.task_laws.specs.internal.Contexts.{Context}

-- The code of steps is from one place to another, with facts before and after it. `PartIs` holds for each of
-- their parts.
pub data StepsStand
    (context : Context)
    (PartIs : (before : Facts) → Part → (from : ℕ) → (after : Facts) → (to : ℕ) → Type 0) :
    Facts → (from : ℕ) → List Step → Facts → (to : ℕ) → Type 0 where
  NoneThere : {facts : Facts} {place : ℕ} → StepsStand context PartIs facts place [] facts place
  PlainThere : {facts last : Facts} {from to : ℕ} {i : Instr} {others : List Step}
      → IsThere context.activation (items.Plain i ∷ []) from (from + size_of_instruction i)
      → StepsStand context PartIs (after facts i) (from + size_of_instruction i) others last to
      → StepsStand context PartIs facts from (steps.Plain i ∷ others) last to
  WordThere : {facts last : Facts} {from to : ℕ} {form : WordForm} {place : Place} {others : List Step}
      → IsThere context.activation (word_item form place ∷ []) from (from + 3)
      → StepsStand context PartIs (after_word facts form place) (from + 3) others last to
      → StepsStand context PartIs facts from (steps.Word form place ∷ others) last to
  JumpThere : {facts last : Facts} {from to : ℕ} {form : WordForm} {label : LabelNumber} {others : List Step}
      → IsThere context.activation (jump_item form label ∷ []) from (from + 3)
      → StepsStand context PartIs (after_form facts form) (from + 3) others last to
      → StepsStand context PartIs facts from (steps.Jump form label ∷ others) last to
  MarkThere : {facts last : Facts} {from to : ℕ} {label : LabelNumber} {others : List Step}
      → context.activation.layout.place_of label.index ≡ from
      → StepsStand context PartIs no_facts from others last to
      → StepsStand context PartIs facts from (steps.Mark label ∷ others) last to
  RoutineThere : {facts last : Facts} {from to : ℕ} {routine : Routine} {others : List Step}
      → has_routine context.called routine ≡ true
      → IsThere context.activation (jump_item CallTo (label_of_routine context.site routine) ∷ []) from
      (from + 3)
      → StepsStand context PartIs no_facts (from + 3) others last to
      → StepsStand context PartIs facts from (steps.CallRoutine routine ∷ others) last to
  CallThere : {facts last : Facts} {from middle to : ℕ} {procedure : ℕ} {others : List Step}
      → IsThere context.activation (call_items context.site procedure) from middle
      → StepsStand context PartIs no_facts middle others last to
      → StepsStand context PartIs facts from (steps.CallProcedure procedure ∷ others) last to
  TestThere : {facts last : Facts} {from middle to : ℕ} {others : List Step}
      → IsThere context.activation (test_items facts) from middle
      → StepsStand context PartIs (after_test facts) middle others last to
      → StepsStand context PartIs facts from (steps.TestA ∷ others) last to
  HoldsThere : {facts held last : Facts} {from to : ℕ} {others : List Step}
      → StepsStand context PartIs (with_facts facts held) from others last to
      → StepsStand context PartIs facts from (steps.Holds held ∷ others) last to
  ChangeThere : {facts last : Facts} {from to : ℕ} {others : List Step}
      → StepsStand context PartIs (without_memory facts) from others last to
      → StepsStand context PartIs facts from (steps.MemoryChanged ∷ others) last to
  PartThere : {facts found last : Facts} {from middle to : ℕ} {part : Part} {others : List Step}
      → PartIs facts part from found middle
      → StepsStand context PartIs found middle others last to
      → StepsStand context PartIs facts from (steps.Part part ∷ others) last to
