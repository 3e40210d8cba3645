-- What planned steps mark and hold.
use Rattle.std.specs.Prelude.{ℕ, Bool, true, false, if◌then◌else◌, List, [], ◌∷◌, ◌++◌}
use Rattle.steps8080.specs.declared.step.Step.TheVariants as steps
use Rattle.statements8080.specs.declared.plan.Planned.{Planned}
use Rattle.statements8080.specs.declared.plan.Planned.TheVariants as planned

-- whether a planned step marks a label, or holds statements
abbrev pub is_outlined : Planned → Bool
is_outlined (planned.Code (steps.Mark label)) = true
is_outlined (planned.Turn other end) = true
is_outlined (planned.Meet label) = true
is_outlined (planned.Again label facts is_entered) = true
is_outlined (planned.Statement number) = true
is_outlined (planned.List list) = true
is_outlined step = false

-- those of planned steps
abbrev pub outline : List Planned → List Planned
outline [] = []
outline (step ∷ others) = if is_outlined step then step ∷ outline others else outline others

-- the numbers of the labels that a planned step marks, and planned steps
abbrev pub marks_of_step : Planned → List ℕ
marks_of_step (planned.Code (steps.Mark label)) = label.index ∷ []
marks_of_step (planned.Turn other end) = other.index ∷ []
marks_of_step (planned.Meet label) = label.index ∷ []
marks_of_step (planned.Again label facts is_entered) = label.index ∷ []
marks_of_step step = []

abbrev pub marks_of_plan : List Planned → List ℕ
marks_of_plan [] = []
marks_of_plan (step ∷ others) = marks_of_step step ++ marks_of_plan others
