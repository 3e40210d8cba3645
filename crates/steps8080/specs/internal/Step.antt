-- Planned code: steps that are appended, and labels that are taken.
use Rattle.std.specs.Prelude.{◌≡◌, ℕ, ◌+◌, min, List, [], ◌∷◌, ◌++◌, map, replicate}
use Rattle.isa8080.specs.declared.instr.Instr.{Instr}
use Rattle.isa8080.specs.declared.instr.Register.TheVariants.{A, H, L}
use Rattle.steps8080.specs.declared.step.LabelNumber.{LabelNumber}
use Rattle.steps8080.specs.declared.step.Step.{Step}
use Rattle.steps8080.specs.declared.step.Step.TheVariants.{Plain, Part}
use Rattle.steps8080.specs.declared.step.Steps.{Steps}
use Rattle.steps8080.specs.declared.step.Task.{Task}
use Rattle.steps8080.specs.internal.Instructions.{copy, set}

-- the number of the label `count` further on, at most 2^32 - 1
abbrev pub label_after : (label count : ℕ) → ℕ
label_after label count = min (label + count) 4294967295

-- the label with this number
abbrev pub label_of : (number : ℕ) → LabelNumber
label_of number = record { index = number }

-- `list` is appended, and no label is taken
pub record Adds (before after : Steps) (list : List Step) : Type 0 where
  pub added : after.list.items ≡ before.list.items ++ list
  pub labels : after.labels ≡ before.labels

-- `count` labels are taken, and `list` of the first of them is appended
pub record AddsWithLabels
    (before after : Steps) (count : ℕ) (list : (first : ℕ) → List Step) : Type 0 where
  pub added : after.list.items ≡ before.list.items ++ list before.labels
  pub labels : label_after after.labels 0 ≡ label_after before.labels count

-- the code of a task at a point where `pushed` bytes are pushed
abbrev pub part : Task → (pushed : ℕ) → Step
part task pushed = Part (record { task = task; pushed = pushed })

-- instructions
abbrev pub plain : List Instr → List Step
plain instructions = map Plain instructions

-- an instruction `count` times
abbrev pub repeat_steps : Instr → (count : ℕ) → List Step
repeat_steps instruction count = replicate count (Plain instruction)

-- puts the byte in A into HL, zero-extended
abbrev pub extension_steps : List Step
extension_steps = Plain (copy L A) ∷ Plain (set H 0) ∷ []
