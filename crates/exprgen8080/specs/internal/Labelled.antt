-- The labels of code: they are counted through its parts, one after another.
use Rattle.std.specs.Prelude.{◌≡◌, ℕ, Bool, List}
use Rattle.asm8080.specs.declared.item.Item.{Item}
use Rattle.steps8080.specs.declared.facts.Facts.{Facts}
use Rattle.steps8080.specs.declared.step.Part.{Part}
use Rattle.steps8080.specs.declared.step.Step.{Step}
use Rattle.steps8080.specs.internal.Step.{label_after}
use Rattle.steps8080.specs.declared.sites.site.Site.{Site}
use Rattle.exprgen8080.specs.internal.Emission.{AreWritten, IsWritten, NoneWritten, PlainWritten, WordWritten, JumpWritten, MarkWritten, RoutineWritten, CallWritten, TestWritten, HoldsWritten, ChangeWritten, PartWritten, Planned, knowing}
use Rattle.exprgen8080.specs.internal.Forms.{task_labels}

abbrev mutual
  -- The labels of steps are consecutive from `label` on, up to the next one that is not taken. A part takes
  -- its own labels first, and then those of its parts.
  pub AreLabelled :
      {site : Site} {called : List Bool} {facts last : Facts} {list : List Step} {items : List Item}
      → AreWritten site called facts list items last → (label next : ℕ) → Type 0
  AreLabelled NoneWritten label next = next ≡ label
  AreLabelled (PlainWritten others) label next = AreLabelled others label next
  AreLabelled (WordWritten others) label next = AreLabelled others label next
  AreLabelled (JumpWritten others) label next = AreLabelled others label next
  AreLabelled (MarkWritten others) label next = AreLabelled others label next
  AreLabelled (RoutineWritten is_called others) label next = AreLabelled others label next
  AreLabelled (CallWritten others) label next = AreLabelled others label next
  AreLabelled (TestWritten others) label next = AreLabelled others label next
  AreLabelled (HoldsWritten others) label next = AreLabelled others label next
  AreLabelled (ChangeWritten others) label next = AreLabelled others label next
  AreLabelled (PartWritten first others) label next =
      (middle : ℕ) × IsLabelled first label middle × AreLabelled others middle next

  -- the same for a part
  pub IsLabelled :
      {site : Site} {called : List Bool} {facts last : Facts} {part : Part} {items : List Item}
      → IsWritten site called facts part items last → (label next : ℕ) → Type 0
  IsLabelled {site = site} {facts = facts} {part = part} (Planned at steps) label next =
      (at ≡ label) × AreLabelled steps (label_after label (task_labels (knowing site facts) part)) next
