-- The labels that steps mark.
use Rattle.std.specs.Prelude.{◌≡◌, ◌⊎◌, ℕ, zero, suc, List, [], ◌∷◌}
use Rattle.steps8080.specs.declared.step.Step.{Step}
use Rattle.steps8080.specs.declared.step.Step.TheVariants as steps

-- the numbers of the labels that steps mark, but for those that their parts mark
abbrev pub marks_of : List Step → List ℕ
marks_of [] = []
marks_of (steps.Mark label ∷ others) = label.index ∷ marks_of others
marks_of (step ∷ others) = marks_of others

-- `count` consecutive labels
abbrev pub labels_from : (first count : ℕ) → List ℕ
labels_from first zero = []
labels_from first (suc count) = first ∷ labels_from (suc first) count

-- a number is in a list
abbrev pub IsIn : (number : ℕ) → List ℕ → Type 0
IsIn number [] = ⊥
IsIn number (first ∷ others) = (number ≡ first) ⊎ IsIn number others

-- no number is in a list twice
abbrev pub Differ : List ℕ → Type 0
Differ [] = Unit {0}
Differ (first ∷ others) = (IsIn first others → ⊥) × Differ others
