-- The code of jumps on a condition.
use Rattle.std.specs.Prelude.{ℕ, ◌%◌, ◌==◌, Bool, true, false, not, List, [], ◌∷◌, ◌++◌, Option, Some, None, if◌then◌else◌}
use Rattle.isa8080.specs.declared.instr.Condition.{Condition}
use Rattle.isa8080.specs.declared.instr.Condition.TheVariants.{NotZero, Zero, NoCarry, Carry, ParityOdd, ParityEven, Plus, Minus}
use Rattle.isa8080.specs.declared.instr.Instr.TheVariants.{Rrc}
use Rattle.asm8080.specs.declared.item.WordForm.TheVariants as forms
use Rattle.trees.specs.declared.expression.BinaryOperator.{BinaryOperator}
use Rattle.trees.specs.declared.expression.BinaryOperator.TheVariants as operators
use Rattle.trees.specs.declared.expression.UnaryOperator.TheVariants.{Not, Negate}
use Rattle.trees.specs.internal.Functions.{byte_taken, for_byte}
use Rattle.treecode.specs.declared.expression.ExpressionForm.{ExpressionForm}
use Rattle.treecode.specs.declared.expression.ExpressionForm.TheVariants.{Conversion, Function, Unary, Binary}
use Rattle.treecode.specs.declared.expression.ExpressionNumber.{ExpressionNumber}
use Rattle.steps8080.specs.declared.step.LabelNumber.{LabelNumber}
use Rattle.steps8080.specs.declared.step.Step.{Step}
use Rattle.steps8080.specs.declared.step.Step.TheVariants.{Jump, Mark, Plain}
use Rattle.steps8080.specs.declared.step.Task.TheVariants as tasks
use Rattle.steps8080.specs.internal.Step.{label_of, part}
use Rattle.steps8080.specs.declared.sites.questions.Comparison.{Comparison}
use Rattle.steps8080.specs.declared.sites.questions.Relation.{Relation}
use Rattle.steps8080.specs.declared.sites.site.Site.{Site}
use Rattle.steps8080.specs.internal.Site.{expression}
use Rattle.steps8080.specs.internal.Queries as queries
use Rattle.steps8080.specs.internal.Queries.{is_quiet}
use Rattle.steps8080.specs.internal.Questions.{agree, relation_of}
use Rattle.operands8080.specs.declared.answers.Purpose.TheVariants as purposes
use Rattle.operands8080.specs.declared.answers.Setting.{Setting}
use Rattle.operands8080.specs.declared.branches.Branch.{Branch}
use Rattle.operands8080.specs.declared.branches.Junction.{Junction}
use Rattle.operands8080.specs.declared.branches.Shape.{Shape}
use Rattle.operands8080.specs.declared.branches.Shape.TheVariants.{Known, SameAs, Opposite, Whatever, Joined, Other}
use Rattle.operands8080.specs.declared.relations.Outcome.{Outcome}
use Rattle.operands8080.specs.declared.relations.Outcome.TheVariants as outcomes
use Rattle.operands8080.specs.internal.WordRelations.{equality_of_words, high_difference_steps, low_difference_steps, words_of, words_steps}
use Rattle.operands8080.specs.internal.Relations.{relation_outcome, relation_steps}

-- the jump on the opposite condition
abbrev pub opposite : Branch → Branch
opposite branch = record branch { sense = not branch.sense }

-- the jump on a condition with this sense
abbrev pub branch_part : Branch → (condition : ExpressionNumber) → Step
branch_part branch condition = part (tasks.Branch condition branch.label branch.sense) branch.pushed

-- the jump for a known answer
abbrev pub known_branch_steps : Branch → (answer : Bool) → List Step
known_branch_steps branch answer =
    if agree answer branch.sense then Jump forms.Jump branch.label ∷ [] else []

-- the condition that holds if the given one does not
abbrev pub opposite_condition : Condition → Condition
opposite_condition NotZero = Zero
opposite_condition Zero = NotZero
opposite_condition NoCarry = Carry
opposite_condition Carry = NoCarry
opposite_condition ParityOdd = ParityEven
opposite_condition ParityEven = ParityOdd
opposite_condition Plus = Minus
opposite_condition Minus = Plus

-- the jump for an answer that is yes if a condition of the flags holds
abbrev pub where_flags_steps : Branch → Condition → List Step
where_flags_steps branch condition =
    let wanted = if branch.sense then condition else opposite_condition condition in
    Jump (forms.JumpWhere wanted) branch.label ∷ []

-- whether the lowest bit of a number is 1
abbrev pub is_odd : (number : ℕ) → Bool
is_odd number = number % 2 == 1

-- the lowest bit of AND or OR of a value and a number
abbrev pub shape_with_number : ExpressionNumber → (number : ℕ) → (deciding : Bool) → Shape
shape_with_number operand number deciding =
    if agree (is_odd number) deciding then Whatever operand deciding else SameAs operand

-- the lowest bit of AND or OR
abbrev pub shape_of_junction : Site → Junction → Shape
shape_of_junction site junction = elim (queries.number site junction.right) [
  | Some value ↦ shape_with_number junction.left value junction.deciding
  | None ↦ elim (queries.number site junction.left) [
    | Some value ↦ shape_with_number junction.right value junction.deciding
    | None ↦ if is_quiet site junction.right then Joined junction else Other
  ]
]

-- the lowest bit of an operator with two operands
abbrev pub shape_of_binary : Site → BinaryOperator → (left right : ExpressionNumber) → Shape
shape_of_binary site operators.And left right =
    shape_of_junction site (record { deciding = false; left = left; right = right })
shape_of_binary site operators.Or left right =
    shape_of_junction site (record { deciding = true; left = left; right = right })
shape_of_binary site operator left right = Other

-- the lowest bit of an expression of this form
abbrev pub shape_of_form : Site → ExpressionForm → Shape
shape_of_form site (Conversion inner) = SameAs inner
shape_of_form site (Function function operand) = for_byte (byte_taken function) (SameAs operand) Other
shape_of_form site (Unary Not operand) = Opposite operand
shape_of_form site (Unary Negate operand) = SameAs operand
shape_of_form site (Binary operands operator left right) = shape_of_binary site operator left right
shape_of_form site form = Other

-- the lowest bit of an expression
unfoldable pub shape_of : Site → ExpressionNumber → Shape
shape_of site condition = elim (queries.number site condition) [
  | Some value ↦ Known (is_odd value)
  | None ↦ elim (expression site condition) [
    | Some found ↦ shape_of_form site found.form
    | None ↦ Other
  ]
]

-- a jump by two operands: if the left one decides, the right one is skipped
abbrev pub joined_steps : Junction → Branch → (first : ℕ) → List Step
joined_steps junction branch first =
    if agree branch.sense junction.deciding
    then branch_part branch junction.left ∷ branch_part branch junction.right ∷ []
    else
    branch_part (record branch { label = label_of first; sense = junction.deciding }) junction.left
    ∷ branch_part branch junction.right
    ∷ Mark (label_of first)
    ∷ []

abbrev pub joined_labels : Junction → Branch → ℕ
joined_labels junction branch = if agree branch.sense junction.deciding then 0 else 1

-- a jump by the lowest bit of a value
abbrev pub by_bit_steps : (condition : ExpressionNumber) → Branch → List Step
by_bit_steps condition branch =
    part (tasks.Byte condition) branch.pushed ∷ Plain Rrc ∷ where_flags_steps branch Carry

-- a jump if two ADDRESSes are equal, or if they are not; if the low bytes differ, the high ones are skipped
abbrev pub equality_steps : Site → Comparison → (is_equal : Bool) → Branch → (first : ℕ) → List Step
equality_steps site comparison is_equal branch first =
    let words = words_of site comparison in
    words_steps site comparison branch.pushed ++ low_difference_steps words
    ++ (if is_equal then
    Jump (forms.JumpWhere NotZero) (label_of first)
    ∷ high_difference_steps words
    ++ (Jump (forms.JumpWhere Zero) branch.label ∷ Mark (label_of first) ∷ [])
    else
    Jump (forms.JumpWhere NotZero) branch.label
    ∷ high_difference_steps words
    ++ (Jump (forms.JumpWhere NotZero) branch.label ∷ []))

abbrev pub equality_labels : (is_equal : Bool) → ℕ
equality_labels is_equal = if is_equal then 1 else 0

-- a jump by the outcome of a relation
abbrev pub outcome_branch_steps : Branch → Outcome → List Step
outcome_branch_steps branch (outcomes.Known answer) = known_branch_steps branch answer
outcome_branch_steps branch (outcomes.Where condition) = where_flags_steps branch condition

-- the setting of a relation that is asked for a jump
abbrev pub branch_setting : (pushed : ℕ) → Setting
branch_setting pushed = record { purpose = purposes.Branch; pushed = pushed }

-- a jump by a relation
abbrev pub relation_branch_steps : Site → Relation → Branch → (first : ℕ) → List Step
relation_branch_steps site relation branch first = elim (equality_of_words site relation) [
  | Some comparison ↦ equality_steps site comparison (agree branch.sense relation.holds_if) branch first
  | None ↦
      relation_steps site relation (branch_setting branch.pushed)
      ++ outcome_branch_steps branch (relation_outcome site relation)
]

abbrev pub relation_branch_labels : Site → Relation → Branch → ℕ
relation_branch_labels site relation branch = elim (equality_of_words site relation) [
  | Some comparison ↦ equality_labels (agree branch.sense relation.holds_if)
  | None ↦ 0
]

-- a jump by a relation, or by the lowest bit of a value that is not a relation
abbrev pub other_steps : Site → (condition : ExpressionNumber) → Branch → (first : ℕ) → List Step
other_steps site condition branch first = elim (relation_of site condition) [
  | Some relation ↦ relation_branch_steps site relation branch first
  | None ↦ by_bit_steps condition branch
]

abbrev pub other_labels : Site → (condition : ExpressionNumber) → Branch → ℕ
other_labels site condition branch = elim (relation_of site condition) [
  | Some relation ↦ relation_branch_labels site relation branch
  | None ↦ 0
]

-- a jump by a condition with this source of its lowest bit
abbrev pub shape_steps : Site → Shape → (condition : ExpressionNumber) → Branch → (first : ℕ) → List Step
shape_steps site (Known answer) condition branch first = known_branch_steps branch answer
shape_steps site (SameAs inner) condition branch first = branch_part branch inner ∷ []
shape_steps site (Opposite inner) condition branch first = branch_part (opposite branch) inner ∷ []
shape_steps site (Whatever operand answer) condition branch first =
    part (tasks.Effects operand) branch.pushed ∷ known_branch_steps branch answer
shape_steps site (Joined junction) condition branch first = joined_steps junction branch first
shape_steps site Other condition branch first = other_steps site condition branch first

abbrev pub shape_labels : Site → Shape → (condition : ExpressionNumber) → Branch → ℕ
shape_labels site (Joined junction) condition branch = joined_labels junction branch
shape_labels site Other condition branch = other_labels site condition branch
shape_labels site shape condition branch = 0

-- a jump to a label if the lowest bit of a value is 1 (`sense`) or 0 (not `sense`)
abbrev pub branch_steps :
    Site → (condition : ExpressionNumber) → (label : LabelNumber) → (sense : Bool) → (pushed first : ℕ)
    → List Step
branch_steps site condition label sense pushed first =
    shape_steps site (shape_of site condition) condition
    (record { label = label; sense = sense; pushed = pushed })
    first

-- the number of labels that it takes
abbrev pub branch_labels :
    Site → (condition : ExpressionNumber) → (label : LabelNumber) → (sense : Bool) → (pushed : ℕ) → ℕ
branch_labels site condition label sense pushed =
    shape_labels site (shape_of site condition) condition
    (record { label = label; sense = sense; pushed = pushed })
