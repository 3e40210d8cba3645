-- The code of CALL MOVE.
use Rattle.std.specs.Prelude.{ℕ, ◌+◌, min, if◌then◌else◌, List, [], ◌∷◌, ◌++◌, Some, None}
use Rattle.isa8080.specs.declared.instr.Instr.TheVariants.{Pop, Push, Xchg}
use Rattle.isa8080.specs.declared.instr.Pair.TheVariants.{Bc, De}
use Rattle.isa8080.specs.declared.instr.StackPair.TheVariants.{StackBc, StackDe, StackHl}
use Rattle.asm8080.specs.declared.item.WordForm.TheVariants.{LoadPair}
use Rattle.runtime8080.specs.declared.routine.Routine.TheVariants.{Move}
use Rattle.treecode.specs.declared.expression.ExpressionNumber.{ExpressionNumber}
use Rattle.treecode.specs.declared.place.Place.{Place}
use Rattle.steps8080.specs.declared.step.Step.TheVariants.{CallRoutine}
use Rattle.steps8080.specs.declared.step.Task.TheVariants as tasks
use Rattle.steps8080.specs.declared.sites.site.Site.{Site}
use Rattle.steps8080.specs.internal.Queries.{keeps, known}
use Rattle.statements8080.specs.declared.plan.Planned.{Planned}
use Rattle.statements8080.specs.declared.plan.Planned.TheVariants.{Code}
use Rattle.statements8080.specs.internal.Plans.{part, plain, word}

-- puts a source that is not known into DE and the destination into HL, when `pushed` bytes are pushed: the
-- source is in DE meanwhile, or pushed if the code of the destination does not keep DE
abbrev pub computed_ends_steps : Site → (source destination : ExpressionNumber) → (pushed : ℕ) → List Planned
computed_ends_steps site source destination pushed =
    if (keeps site destination).de
    then part (tasks.Word source) pushed ∷ plain Xchg ∷ part (tasks.Word destination) pushed ∷ []
    else part (tasks.Word source) pushed
    ∷ plain (Push StackHl)
    ∷ part (tasks.Word destination) (min (pushed + 2) 65535)
    ∷ plain (Pop StackDe)
    ∷ []

-- puts the source into DE and the destination into HL, when `pushed` bytes are pushed
abbrev pub ends_steps : Site → (source destination : ExpressionNumber) → (pushed : ℕ) → List Planned
ends_steps site source destination pushed = elim (known site source) [
  | Some place ↦ part (tasks.Word destination) pushed ∷ word (LoadPair De) place ∷ []
  | None ↦ computed_ends_steps site source destination pushed
]

-- copies a known number of bytes
abbrev pub known_move_steps : Site → (count : Place) → (source destination : ExpressionNumber) → List Planned
known_move_steps site count source destination =
    ends_steps site source destination 0 ++ (word (LoadPair Bc) count ∷ Code (CallRoutine Move) ∷ [])

-- CALL MOVE: puts the count into BC, the source into DE and the destination into HL
abbrev pub move_steps : Site → (count source destination : ExpressionNumber) → List Planned
move_steps site count source destination = elim (known site count) [
  | Some place ↦ known_move_steps site place source destination
  | None ↦
      part (tasks.Word count) 0
      ∷ plain (Push StackHl)
      ∷ (ends_steps site source destination 2 ++ (plain (Pop StackBc) ∷ Code (CallRoutine Move) ∷ []))
]
