-- Planned code of statements: steps that are appended, and labels that are taken.
use Rattle.std.specs.Prelude.{◌≡◌, ℕ, zero, suc, ◌+◌, min, List, [], ◌++◌, map}
use Rattle.isa8080.specs.declared.instr.Instr.{Instr}
use Rattle.asm8080.specs.declared.item.WordForm.{WordForm}
use Rattle.treecode.specs.declared.place.Place.{Place}
use Rattle.steps8080.specs.declared.facts.Facts.{Facts}
use Rattle.steps8080.specs.declared.step.LabelNumber.{LabelNumber}
use Rattle.steps8080.specs.declared.step.Step.TheVariants as steps
use Rattle.steps8080.specs.declared.step.Task.{Task}
use Rattle.statements8080.specs.declared.plan.Plan.{Plan}
use Rattle.statements8080.specs.declared.plan.Planned.{Planned}
use Rattle.statements8080.specs.declared.plan.Planned.TheVariants.{Code}

-- the label at an index among consecutive labels, from the number of the first one; numbers are at most 2^32
-- - 1
abbrev pub nth_label : (first index : ℕ) → LabelNumber
nth_label first index = record { index = min (first + index) 4294967295 }

-- the same, from the first label
abbrev pub label_at : (first : LabelNumber) → (index : ℕ) → LabelNumber
label_at first index = nth_label first.index index

-- the number of the first label that is not taken
abbrev pub free_label : Plan → ℕ
free_label plan = min (plan.first_label + plan.taken) 4294967295

-- `count` labels are taken
pub record TakesLabels (before after : Plan) (count : ℕ) : Type 0 where
  pub added : after.list.items ≡ before.list.items
  pub first : after.first_label ≡ before.first_label
  pub taken : min after.taken 4294967295 ≡ min (before.taken + count) 4294967295

-- `list` is appended, and no label is taken
pub record PlanAdds (before after : Plan) (list : List Planned) : Type 0 where
  pub added : after.list.items ≡ before.list.items ++ list
  pub first : after.first_label ≡ before.first_label
  pub taken : after.taken ≡ before.taken

-- `count` labels are taken, and `list` of the first of them is appended
pub record PlanAddsWithLabels
    (before after : Plan) (count : ℕ) (list : (first : ℕ) → List Planned) : Type 0 where
  pub added : after.list.items ≡ before.list.items ++ list (free_label before)
  pub first : after.first_label ≡ before.first_label
  pub taken : min after.taken 4294967295 ≡ min (before.taken + count) 4294967295

-- an instruction
abbrev pub plain : Instr → Planned
plain instruction = Code (steps.Plain instruction)

-- instructions
abbrev pub all : List Instr → List Planned
all instructions = map plain instructions

-- an instruction with the word of a place
abbrev pub word : WordForm → Place → Planned
word form place = Code (steps.Word form place)

-- a jump, or another instruction with the place of a label
abbrev pub jump : WordForm → LabelNumber → Planned
jump form label = Code (steps.Jump form label)

-- the place of a label
abbrev pub mark : LabelNumber → Planned
mark label = Code (steps.Mark label)

-- the code of a task when `pushed` bytes are pushed
abbrev pub part : Task → (pushed : ℕ) → Planned
part task pushed = Code (steps.Part (record { task = task; pushed = pushed }))

-- facts that hold here, beside those that the instructions show
abbrev pub holds : Facts → Planned
holds facts = Code (steps.Holds facts)

-- the steps of `left` consecutive indices, from an index on
abbrev pub steps_from : (steps_at : (index : ℕ) → List Planned) → (index left : ℕ) → List Planned
steps_from steps_at index zero = []
steps_from steps_at index (suc left) = steps_at index ++ steps_from steps_at (suc index) left
