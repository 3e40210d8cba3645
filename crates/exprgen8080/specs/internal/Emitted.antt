-- The code that emission adds.
use Rattle.std.specs.Prelude.{◌≡◌, ◌⊎◌, ℕ, Bool, true, false, List, [], ◌∷◌, replicate, slice_index_or}
use Rattle.asm8080.specs.declared.item.Item.{Item}
use Rattle.asm8080.specs.declared.item.Item.TheVariants as items
use Rattle.asm8080.specs.declared.item.WordForm.TheVariants.{CallTo}
use Rattle.runtime8080.specs.declared.routine.Routine.{Routine}
use Rattle.treecode.specs.declared.module.TreeModule.{TreeModule}
use Rattle.steps8080.specs.declared.facts.Facts.{Facts}
use Rattle.steps8080.specs.declared.step.Part.{Part}
use Rattle.steps8080.specs.declared.step.Step.{Step}
use Rattle.steps8080.specs.declared.step.Step.TheVariants as steps
use Rattle.steps8080.specs.internal.Facts.{after, after_form, after_word, no_facts, with_facts, without_memory}
use Rattle.steps8080.specs.internal.Writer.{Writes, jump_item, word_item}
use Rattle.steps8080.specs.declared.sites.site.Site.{Site}
use Rattle.exprgen8080.specs.declared.emission.Emission.{Emission}
use Rattle.exprgen8080.specs.internal.Emission.{AreWritten, IsWritten, after_test, call_routine, first_label, has_routine, module_call_items, module_label_of_routine, test_items}
use Rattle.exprgen8080.specs.internal.Labelled.{AreLabelled, IsLabelled}

-- the second table of routines marks all that the first marks
abbrev pub HasAll : (called wider : List Bool) → Type 0
HasAll called wider = (routine : Routine) → has_routine called routine ≡ true → has_routine wider routine ≡ true

-- a routine is marked only if items call it
abbrev pub NotesCalled : TreeModule → (before after : List Bool) → List Item → Type 0
NotesCalled tree before after list =
    (routine : Routine)
    → has_routine after routine ≡ true
    → (has_routine before routine ≡ true) ⊎ (call_routine tree routine list ≡ true)

-- only one routine is marked, by its index
abbrev pub NotesOnly : (index : ℕ) → (before after : List Bool) → Type 0
NotesOnly index before after =
    (other : ℕ)
    → slice_index_or after other false ≡ true
    → (slice_index_or before other false ≡ true) ⊎ (other ≡ index)

-- the items of a step that is not a part, from the facts before it
abbrev pub step_items : TreeModule → Facts → Step → List Item
step_items tree facts (steps.Plain i) = items.Plain i ∷ []
step_items tree facts (steps.Word form place) = word_item form place ∷ []
step_items tree facts (steps.Jump form label) = jump_item form label ∷ []
step_items tree facts (steps.Mark label) = items.Mark label.index ∷ []
step_items tree facts (steps.CallRoutine routine) =
    jump_item CallTo (module_label_of_routine tree routine) ∷ []
step_items tree facts (steps.CallProcedure procedure) = module_call_items tree procedure
step_items tree facts steps.TestA = test_items facts
step_items tree facts (steps.Holds held) = []
step_items tree facts steps.MemoryChanged = []
step_items tree facts (steps.Part part) = []

-- the facts after it
abbrev pub after_step : Facts → Step → Facts
after_step facts (steps.Plain i) = after facts i
after_step facts (steps.Word form place) = after_word facts form place
after_step facts (steps.Jump form label) = after_form facts form
after_step facts (steps.Mark label) = no_facts
after_step facts (steps.CallRoutine routine) = no_facts
after_step facts (steps.CallProcedure procedure) = no_facts
after_step facts steps.TestA = after_test facts
after_step facts (steps.Holds held) = with_facts facts held
after_step facts steps.MemoryChanged = without_memory facts
after_step facts (steps.Part part) = facts

-- a step is not a part
abbrev pub IsNoPart : Step → Type 0
IsNoPart (steps.Part part) = ⊥
IsNoPart step = Unit {0}

-- a step is not a part, and a table marks the routine that it calls
abbrev pub IsAlone : (called : List Bool) → Step → Type 0
IsAlone called (steps.CallRoutine routine) = has_routine called routine ≡ true
IsAlone called (steps.Part part) = ⊥
IsAlone called step = Unit {0}

-- items are added to code, with these facts after them; no step is planned and no label taken
pub record AddsItems (before after : Emission) (list : List Item) (known : Facts) : Type 0 where
  pub writes : Writes before.writer after.writer list
  pub facts : after.facts ≡ known
  pub called : HasAll before.is_called.items after.is_called.items
  pub steps : after.steps ≡ before.steps

-- The code of steps, and that of a part, is added. No planned step remains, and their labels are the first
-- ones that are not taken.
pub record EmitsSteps (site : Site) (planned : List Step) (before after : Emission) : Type 0 where
  pub list : List Item
  pub writes : Writes before.writer after.writer list
  pub written : AreWritten site after.is_called.items before.facts planned list after.facts
  pub called : HasAll before.is_called.items after.is_called.items
  pub notes : NotesCalled site.tree.now before.is_called.items after.is_called.items list
  pub steps : after.steps.list.items ≡ before.steps.list.items
  pub labels : AreLabelled written before.steps.labels after.steps.labels

pub record Emits (site : Site) (part : Part) (before after : Emission) : Type 0 where
  pub list : List Item
  pub writes : Writes before.writer after.writer list
  pub written : IsWritten site after.is_called.items before.facts part list after.facts
  pub called : HasAll before.is_called.items after.is_called.items
  pub notes : NotesCalled site.tree.now before.is_called.items after.is_called.items list
  pub steps : after.steps.list.items ≡ before.steps.list.items
  pub labels : IsLabelled written before.steps.labels after.steps.labels

-- no code of a module yet: the first labels are those of its procedures and of the routines
pub record IsEmpty (tree : TreeModule) (emission : Emission) : Type 0 where
  pub items : emission.writer ≡ record {
    code = record { items = []; labels = 0 };
    labels = [];
    marked = [];
    externals = [];
  }
  pub steps : emission.steps.list.items ≡ []
  pub labels : emission.steps.labels ≡ first_label tree
  pub facts : emission.facts ≡ no_facts
  pub called : emission.is_called.items ≡ replicate 9 false
