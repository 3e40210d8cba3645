-- The questions that relations ask.
use Rattle.std.specs.Prelude.{ℕ, ◌+◌, ◌==◌, min, nat_le, Bool, true, false, not, if◌then◌else◌, Option, Some, None, option_map, option_and_then}
use Rattle.trees.specs.declared.declaration.ScalarType.{ScalarType}
use Rattle.trees.specs.declared.declaration.ScalarType.TheVariants as scalars
use Rattle.trees.specs.declared.expression.BinaryOperator.{BinaryOperator}
use Rattle.trees.specs.declared.expression.BinaryOperator.TheVariants as operators
use Rattle.treecode.specs.declared.expression.Expression.{Expression}
use Rattle.treecode.specs.declared.expression.ExpressionForm.{ExpressionForm}
use Rattle.treecode.specs.declared.expression.ExpressionForm.TheVariants.{Binary}
use Rattle.treecode.specs.declared.expression.ExpressionNumber.{ExpressionNumber}
use Rattle.steps8080.specs.declared.sites.questions.Comparison.{Comparison}
use Rattle.steps8080.specs.declared.sites.questions.Inquiry.TheVariants.{Between, WithNumber}
use Rattle.steps8080.specs.declared.sites.questions.NumberQuestion.{NumberQuestion}
use Rattle.steps8080.specs.declared.sites.questions.NumberQuestion.TheVariants.{Never, Below, Is}
use Rattle.steps8080.specs.declared.sites.questions.Question.{Question}
use Rattle.steps8080.specs.declared.sites.questions.Question.TheVariants.{LeftBelow, RightBelow, Equal}
use Rattle.steps8080.specs.declared.sites.questions.Relation.{Relation}
use Rattle.steps8080.specs.declared.sites.site.Site.{Site}
use Rattle.steps8080.specs.internal.Site.{expression}
use Rattle.steps8080.specs.internal.Queries.{number}

-- the question of a relational operator, and whether the relation holds if the answer is yes
abbrev pub question_of : BinaryOperator → Option (Question × Bool)
question_of operators.Less = Some (LeftBelow, true)
question_of operators.GreaterOrEqual = Some (LeftBelow, false)
question_of operators.Greater = Some (RightBelow, true)
question_of operators.LessOrEqual = Some (RightBelow, false)
question_of operators.Equal = Some (Equal, true)
question_of operators.Unequal = Some (Equal, false)
question_of operator = None

-- the question with its operands exchanged
abbrev pub mirrored : Question → Question
mirrored LeftBelow = RightBelow
mirrored RightBelow = LeftBelow
mirrored Equal = Equal

-- the greatest number of a type
abbrev pub greatest : ScalarType → ℕ
greatest scalars.Byte = 255
greatest scalars.Address = 65535

-- the question about an operand and a number on its right, and whether its answer is the same; an operand is
-- above the number if it is not below the number plus 1
abbrev pub number_question : Question → (number : ℕ) → ScalarType → NumberQuestion × Bool
number_question Equal number scalar = (Is number, true)
number_question LeftBelow number scalar =
    if number == 0 then (Never, true) else (Below number, true)
number_question RightBelow number scalar =
    if nat_le (greatest scalar) number then (Never, true) else (Below (min (number + 1) 65535), false)

-- whether two answers are the same
abbrev pub agree : (one other : Bool) → Bool
agree true other = other
agree false other = not other

-- the relation of an operand and a number on its right
abbrev pub relation_with_number :
    (operand : ExpressionNumber) → (number : ℕ) → Comparison → Question → (holds_if : Bool) → Relation
relation_with_number operand number comparison question holds_if = record {
  inquiry = WithNumber operand comparison.operands (number_question question number comparison.operands).0;
  holds_if = agree holds_if (number_question question number comparison.operands).1;
}

-- the relation of two operands, which holds if the answer is `holds_if`
unfoldable pub relation_between : Site → Comparison → (holds_if : Bool) → Relation
relation_between site comparison holds_if = elim (number site comparison.right) [
  | Some value ↦ relation_with_number comparison.left value comparison comparison.question holds_if
  | None ↦ elim (number site comparison.left) [
    | Some value ↦
        relation_with_number comparison.right value comparison (mirrored comparison.question) holds_if
    | None ↦ record { inquiry = Between comparison; holds_if = holds_if }
  ]
]

-- the relation of an operator and its operands, if any
abbrev pub relation_by :
    Site → ScalarType → BinaryOperator → (left right : ExpressionNumber) → Option Relation
relation_by site operands operator left right =
    option_map
    (λ (asked : Question × Bool). relation_between site
    (record { operands = operands; left = left; right = right; question = asked.0 })
    asked.1)
    (question_of operator)

abbrev pub relation_of_form : Site → ExpressionForm → Option Relation
relation_of_form site (Binary operands operator left right) = relation_by site operands operator left right
relation_of_form site form = None

-- the relation that an expression stands for, if any
unfoldable pub relation_of : Site → ExpressionNumber → Option Relation
relation_of site number =
    option_and_then (λ (found : Expression). relation_of_form site found.form) (expression site number)
