-- The code of relations, as flags and as values.
use Rattle.std.specs.Prelude.{ℕ, Bool, true, false, List, [], ◌∷◌, ◌++◌, Option, Some, None, if◌then◌else◌}
use Rattle.isa8080.specs.declared.instr.Condition.{Condition}
use Rattle.isa8080.specs.declared.instr.Condition.TheVariants as conditions
use Rattle.isa8080.specs.declared.instr.Instr.TheVariants.{AccumulateImmediate, Cmc}
use Rattle.isa8080.specs.declared.instr.Operation.TheVariants.{Add, Subtract, SubtractWithBorrow}
use Rattle.isa8080.specs.declared.instr.Register.TheVariants.{A}
use Rattle.trees.specs.declared.declaration.ScalarType.{ScalarType}
use Rattle.trees.specs.declared.declaration.ScalarType.TheVariants.{Byte, Address}
use Rattle.treecode.specs.declared.expression.ExpressionNumber.{ExpressionNumber}
use Rattle.steps8080.specs.declared.step.Step.{Step}
use Rattle.steps8080.specs.declared.step.Step.TheVariants.{Plain}
use Rattle.steps8080.specs.internal.Instructions.{clear_a, set, with_register}
use Rattle.steps8080.specs.declared.sites.questions.Comparison.{Comparison}
use Rattle.steps8080.specs.declared.sites.questions.Inquiry.{Inquiry}
use Rattle.steps8080.specs.declared.sites.questions.Inquiry.TheVariants.{Between, WithNumber}
use Rattle.steps8080.specs.declared.sites.questions.NumberQuestion.{NumberQuestion}
use Rattle.steps8080.specs.declared.sites.questions.Relation.{Relation}
use Rattle.steps8080.specs.declared.sites.site.Site.{Site}
use Rattle.steps8080.specs.internal.Questions.{agree, relation_of}
use Rattle.operands8080.specs.declared.answers.Answer.{Answer}
use Rattle.operands8080.specs.declared.answers.Answer.TheVariants as answers
use Rattle.operands8080.specs.declared.answers.Purpose.TheVariants.{Value}
use Rattle.operands8080.specs.declared.answers.Setting.{Setting}
use Rattle.operands8080.specs.declared.relations.Outcome.{Outcome}
use Rattle.operands8080.specs.declared.relations.Outcome.TheVariants.{Known, Where}
use Rattle.operands8080.specs.internal.ByteRelations.{answer_to, byte_number_answer, byte_number_steps, byte_relation_steps}
use Rattle.operands8080.specs.internal.WordRelations.{word_number_answer, word_number_steps, word_relation_steps}

-- the outcome of a relation from the answer to its question
abbrev pub outcome_of : Answer → (holds_if : Bool) → Outcome
outcome_of (answers.Known answer) holds_if = Known (agree answer holds_if)
outcome_of answers.Carry true = Where conditions.Carry
outcome_of answers.Carry false = Where conditions.NoCarry
outcome_of answers.Zero true = Where conditions.Zero
outcome_of answers.Zero false = Where conditions.NotZero

-- answers a question about an operand and a number
abbrev pub number_steps : Site → ExpressionNumber → ScalarType → NumberQuestion → Setting → List Step
number_steps site operand Byte question setting = byte_number_steps operand question setting
number_steps site operand Address question setting = word_number_steps site operand question setting

abbrev pub number_answer : Site → ExpressionNumber → ScalarType → NumberQuestion → Answer
number_answer site operand Byte question = byte_number_answer question
number_answer site operand Address question = word_number_answer site operand question

-- answers a question about two operands
abbrev pub comparison_steps : Site → Comparison → Setting → List Step
comparison_steps site comparison setting = elim comparison.operands [
  | Byte ↦ byte_relation_steps site comparison setting
  | Address ↦ word_relation_steps site comparison setting
]

-- answers the question of a relation
abbrev pub inquiry_steps : Site → Inquiry → Setting → List Step
inquiry_steps site (Between comparison) setting = comparison_steps site comparison setting
inquiry_steps site (WithNumber operand scalar question) setting =
    number_steps site operand scalar question setting

abbrev pub inquiry_answer : Site → Inquiry → Answer
inquiry_answer site (Between comparison) = answer_to comparison.question
inquiry_answer site (WithNumber operand scalar question) = number_answer site operand scalar question

abbrev pub relation_steps : Site → Relation → Setting → List Step
relation_steps site relation setting = inquiry_steps site relation.inquiry setting

-- the outcome of the relation then
abbrev pub relation_outcome : Site → Relation → Outcome
relation_outcome site relation = outcome_of (inquiry_answer site relation.inquiry) relation.holds_if

-- sets the carry if the outcome is true, and clears it otherwise
abbrev pub carry_steps : Condition → List Step
carry_steps conditions.NoCarry = Plain Cmc ∷ []
carry_steps conditions.Zero = Plain (AccumulateImmediate Subtract 1) ∷ []
carry_steps conditions.NotZero = Plain (AccumulateImmediate Add 255) ∷ []
carry_steps condition = []

-- puts 0FFH into A if an outcome is true, else 0
abbrev pub outcome_value_steps : Outcome → List Step
outcome_value_steps (Known true) = Plain (set A 255) ∷ []
outcome_value_steps (Known false) = Plain clear_a ∷ []
outcome_value_steps (Where condition) =
    carry_steps condition ++ (Plain (with_register SubtractWithBorrow A) ∷ [])

-- the setting of a relation that is asked for a value
abbrev pub value_setting : (pushed : ℕ) → Setting
value_setting pushed = record { purpose = Value; pushed = pushed }

-- puts 0FFH into A if a relation holds, else 0; no steps if the expression is not a relation
abbrev pub relation_value_steps : Site → ExpressionNumber → (pushed : ℕ) → List Step
relation_value_steps site operand pushed = elim (relation_of site operand) [
  | Some relation ↦
      relation_steps site relation (value_setting pushed)
      ++ outcome_value_steps (relation_outcome site relation)
  | None ↦ []
]
