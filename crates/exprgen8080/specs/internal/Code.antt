-- Code as a function of the site, of the facts about the registers before it, and of its first label.
use Rattle.std.specs.Prelude.{◌≡◌, ℕ, zero, suc, ◌+◌, List, [], ◌∷◌, ◌++◌, Option, Some, None, option_and_then, option_map}
use Rattle.asm8080.specs.declared.item.Item.{Item}
use Rattle.treecode.specs.declared.module.TreeModule.{TreeModule}
use Rattle.steps8080.specs.declared.facts.Facts.{Facts}
use Rattle.steps8080.specs.declared.step.Part.{Part}
use Rattle.steps8080.specs.declared.step.Step.{Step}
use Rattle.steps8080.specs.declared.step.Step.TheVariants as steps
use Rattle.steps8080.specs.internal.Step.{label_after}
use Rattle.steps8080.specs.declared.sites.site.Site.{Site}
use Rattle.exprgen8080.specs.declared.emission.Emission.{Emission}
use Rattle.exprgen8080.specs.internal.Emission.{knowing}
use Rattle.exprgen8080.specs.internal.Emitted.{Emits, after_step, step_items}
use Rattle.exprgen8080.specs.internal.Forms.{task_labels, task_steps}

-- items, the facts about the registers after them, and the first label that is free after them
pub record Code : Type 0 where
  pub items : List Item
  pub facts : Facts
  pub label : ℕ

-- items, then those of code
abbrev pub in_front : List Item → Code → Code
in_front items code = record code { items = items ++ code.items }

-- The code of steps, from the code of their parts: the items of a step, or the code of a part.
unfoldable pub code_of_steps :
    TreeModule → (code_of : Facts → Part → (label : ℕ) → Option Code)
    → Facts → List Step → (label : ℕ) → Option Code
code_of_steps tree code_of facts [] label = Some (record { items = []; facts = facts; label = label })
code_of_steps tree code_of facts (steps.Part part ∷ others) label =
    option_and_then
    (λ (first : Code).
    option_map (in_front first.items) (code_of_steps tree code_of first.facts others first.label))
    (code_of facts part label)
code_of_steps tree code_of facts (step ∷ others) label =
    option_map (in_front (step_items tree facts step))
    (code_of_steps tree code_of (after_step facts step) others label)

-- The code of a part with parts nested at most `depth` deep: that of its steps, with their labels first.
unfoldable pub code_of_part : Site → (depth : ℕ) → Facts → Part → (label : ℕ) → Option Code
code_of_part site zero facts part label = None
code_of_part site (suc depth) facts part label =
    code_of_steps site.tree.now (code_of_part site depth) facts
    (task_steps (knowing site facts) part label) (label_after label (task_labels (knowing site facts) part))

-- the value of a function at some depth and at every greater one
abbrev pub IsFoundDeep : {A : Type 0} → (found_at : (depth : ℕ) → Option A) → A → Type 0
IsFoundDeep found_at found = (depth : ℕ) × ((extra : ℕ) → found_at (depth + extra) ≡ Some found)

-- the code of a part, and of steps
abbrev pub IsCodeOfPart : Site → Facts → Part → (label : ℕ) → Code → Type 0
IsCodeOfPart site facts part label code = IsFoundDeep (λ depth. code_of_part site depth facts part label) code

abbrev pub IsCodeOfSteps : Site → Facts → List Step → (label : ℕ) → Code → Type 0
IsCodeOfSteps site facts list label code =
    IsFoundDeep (λ depth. code_of_steps site.tree.now (code_of_part site depth) facts list label) code

-- The items that are added to code for a part are its code, with the first labels that are not taken.
pub record AddsCodeOfPart (site : Site) (part : Part) (before after : Emission) : Type 0 where
  pub emits : Emits site part before after
  pub is_code :
      IsCodeOfPart site before.facts part before.steps.labels
      (record { items = emits.list; facts = after.facts; label = after.steps.labels })
