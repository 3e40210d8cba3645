-- Answers of questions that are known.
use Rattle.std.specs.Prelude.{List, [], ◌∷◌}
use Rattle.treecode.specs.declared.expression.ExpressionNumber.{ExpressionNumber}
use Rattle.steps8080.specs.declared.step.Step.{Step}
use Rattle.steps8080.specs.declared.step.Task.TheVariants.{Effects}
use Rattle.steps8080.specs.internal.Step.{part}
use Rattle.operands8080.specs.declared.answers.Setting.{Setting}

-- evaluates an operand for its effects, when the answer is known
abbrev pub known_steps : ExpressionNumber → Setting → List Step
known_steps operand setting = part (Effects operand) setting.pushed ∷ []
