-- The labels that expression steps bind.
use Rattle.std.specs.Prelude.{◌≡◌, ◌⊎◌, ℕ, List, [], ◌∷◌}
use Rattle.steps8080.specs.declared.step.Step.{Step}
use Rattle.steps8080.specs.declared.step.Step.TheVariants as steps

abbrev pub StepsBind : (label : ℕ) → List Step → Type 0
StepsBind label [] = ⊥
StepsBind label (steps.Mark other ∷ others) = (label ≡ other.index) ⊎ StepsBind label others
StepsBind label (step ∷ others) = StepsBind label others
