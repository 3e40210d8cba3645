-- Relations as values and as jumps, and jumps on conditions.
use Rattle.measure_laws.proofs.Prelude.{Bool, IfSome, List, None, Option, Some, [], arith, false, if◌then◌else◌, inl, inr, option_and_then, option_map, refl, true, ℕ, ◌&&◌, ◌*◌, ◌++◌, ◌+◌, ◌∷◌, ◌≡◌, ◌≤◌, ScalarType, BinaryOperator, Negate, Not, Condition, Expression, ExpressionForm, ExpressionNumber, agree, mirrored, question_of, relation_by, relation_of_form, relation_with_number, label_of, Comparison, Inquiry, Between, WithNumber, Question, Equal, LeftBelow, RightBelow, Relation, LabelNumber, Step, is_quiet, relation_between, relation_of, expression, fits_byte, branch_part, branch_setting, branch_steps, by_bit_steps, equality_steps, is_odd, known_branch_steps, outcome_branch_steps, relation_branch_steps, shape_of_binary, shape_of_form, shape_of_junction, shape_steps, shape_with_number, byte_relation_steps, carry_steps, inquiry_steps, outcome_value_steps, relation_outcome, relation_steps, relation_value_steps, value_setting, high_difference_steps, low_difference_steps, word_relation_steps, words_asked, words_compared, words_of, words_steps, Setting, Junction, Shape, Joined, Known, Opposite, Other, SameAs, Whatever, Outcome, Words, DeAndHl, PlaceAndHl, shape_of, equality_of_words, beside, StepsBind, byte_taken}
use Rattle.trees.proofs.TakenBytes.{by_byte}
use Rattle.trees.specs.declared.declaration.ScalarType.TheVariants as scalars
use Rattle.trees.specs.declared.expression.BinaryOperator.TheVariants as operators
use Rattle.treecode.specs.declared.expression.ExpressionForm.TheVariants as forms
use Rattle.asm8080.specs.declared.item.WordForm.TheVariants as word_forms
use Rattle.isa8080.specs.declared.instr.Condition.TheVariants as conditions
use Rattle.steps8080.specs.declared.step.Step.TheVariants as steps
use Rattle.steps8080.specs.internal.Queries as queries
use Rattle.operands8080.specs.declared.branches.Branch.{Branch}
use Rattle.operands8080.specs.declared.relations.Outcome.TheVariants as outcomes
use Rattle.measure_laws.specs.internal.Footprints.{Footprint, Ground, HasParts, HasTwo, IsBelow, IsOperand}
use Rattle.measure_laws.proofs.{Footprints.ByteRelations.{byte_number_footprint, byte_relation_footprint}, Footprints.Found.{of_found}, Footprints.Joining.{after_part, by_finding, by_test, counted, joined, operand_from_below, within}, Footprints.Trees.{has_parts}, Footprints.WordRelations.{word_number_footprint, word_relation_footprint, words_footprint}}

-- a question about operands with at most this weight
abbrev pub IsAsked : (at : Ground) (free limit : ℕ) → Inquiry → Type 0
IsAsked at free limit (Between comparison) =
    IsBelow at free comparison.left × IsBelow at free comparison.right
    × (beside at.site comparison.left + beside at.site comparison.right ≤ limit)
IsAsked at free limit (WithNumber operand scalar question) =
    IsBelow at free operand × (beside at.site operand ≤ limit)

abbrev pub IsRelation : (at : Ground) (free limit : ℕ) → Relation → Type 0
IsRelation at free limit relation = IsAsked at free limit relation.inquiry

relation_between_is :
    (at : Ground) (free : ℕ) (comparison : Comparison) (holds_if : Bool)
    → IsBelow at free comparison.left → IsBelow at free comparison.right
    → IsRelation at free (beside at.site comparison.left + beside at.site comparison.right)
    (relation_between at.site comparison holds_if)
unfolding relation_between
relation_between_is at free comparison holds_if one two =
    by (queries.number at.site comparison.right) (queries.number at.site comparison.left)
  where
    by : (first second : Option ℕ)
        → IsRelation at free (beside at.site comparison.left + beside at.site comparison.right)
        (elim first [
          | Some value ↦ relation_with_number comparison.left value comparison comparison.question holds_if
          | None ↦ elim second [
            | Some value ↦
                relation_with_number comparison.right value comparison (mirrored comparison.question) holds_if
            | None ↦ record { inquiry = Between comparison; holds_if = holds_if }
          ]
        ])
    by (Some value) second = (one, omega arith)
    by None (Some value) = (two, omega arith)
    by None None = (one, two, omega arith)

relation_by_is :
    (at : Ground) (free : ℕ) (operands : ScalarType) (operator : BinaryOperator)
    (left right : ExpressionNumber)
    → IsBelow at free left → IsBelow at free right
    → IfSome (relation_by at.site operands operator left right)
    (IsRelation at free (beside at.site left + beside at.site right))
relation_by_is at free operands operator left right one two = by (question_of operator)
  where
    by :
        (found : Option (Question × Bool))
        → IfSome
        (option_map
        (λ (asked : Question × Bool). relation_between at.site
        (record { operands = operands; left = left; right = right; question = asked.0 }) asked.1) found)
        (IsRelation at free (beside at.site left + beside at.site right))
    by (Some asked) =
        relation_between_is at free
        (record { operands = operands; left = left; right = right; question = asked.0 }) asked.1 one two
    by None = tt

-- a relation of parts of the tree of a number
pub record IsRelationIn (at : Ground) (free : ℕ) (number : ExpressionNumber) (relation : Relation) :
    Type 0 where
  pub limit : ℕ
  pub asked : IsRelation at free limit relation
  pub small : 2 + limit ≤ beside at.site number

relation_of_form_is :
    (at : Ground) (free : ℕ) (number : ExpressionNumber) (form : ExpressionForm)
    → HasParts at free number form
    → IfSome (relation_of_form at.site form) (IsRelationIn at free number)
relation_of_form_is at free number (forms.Binary operands operator left right) has =
    by (relation_by at.site operands operator left right)
    (relation_by_is at free operands operator left right has.one has.two)
  where
    by : (found : Option Relation)
        → IfSome found (IsRelation at free (beside at.site left + beside at.site right))
        → IfSome found (IsRelationIn at free number)
    by (Some relation) is =
        record { limit = beside at.site left + beside at.site right; asked = is; small = omega (arith, has.same) }
    by None is = tt
relation_of_form_is at free number form has = tt

relation_is :
    (at : Ground) (free : ℕ) (number : ExpressionNumber)
    → IsOperand at free number
    → IfSome (relation_of at.site number) (IsRelationIn at free number)
unfolding relation_of
relation_is at free number is = by (expression at.site number) refl
  where
    by :
        (found : Option Expression)
        → expression at.site number ≡ found
        → IfSome (option_and_then (λ (one : Expression). relation_of_form at.site one.form) found)
        (IsRelationIn at free number)
    by (Some one) there = relation_of_form_is at free number one.form (has_parts at is there)
    by None there = tt

inquiry_footprint :
    {at : Ground} {free : ℕ} (limit : ℕ) (inquiry : Inquiry) (setting : Setting)
    → IsAsked at free limit inquiry
    → Footprint at free (inquiry_steps at.site inquiry setting) free (162 + 128 * limit)
inquiry_footprint {at = at} {free = free} limit (Between comparison) setting is = by comparison.operands
  where
    by : (operands : ScalarType)
        → Footprint at free (elim operands [
          | scalars.Byte ↦ byte_relation_steps at.site comparison setting
          | scalars.Address ↦ word_relation_steps at.site comparison setting
        ]) free (162 + 128 * limit)
    by scalars.Byte =
        within (156 + 128 * (beside at.site comparison.left + beside at.site comparison.right))
        (byte_relation_footprint comparison setting is.0 is.1) (omega (arith, is.2))
    by scalars.Address =
        within (162 + 128 * (beside at.site comparison.left + beside at.site comparison.right))
        (word_relation_footprint comparison setting is.0 is.1) (omega (arith, is.2))
inquiry_footprint {at = at} limit (WithNumber operand scalars.Byte question) setting is =
    within (78 + 128 * beside at.site operand) (byte_number_footprint operand question setting is.0)
    (omega (arith, is.1))
inquiry_footprint {at = at} limit (WithNumber operand scalars.Address question) setting is =
    within (82 + 128 * beside at.site operand) (word_number_footprint operand question setting is.0)
    (omega (arith, is.1))

carry_footprint :
    {at : Ground} {free : ℕ} (condition : Condition)
    → Footprint at free (carry_steps condition) free 2
carry_footprint conditions.NoCarry = counted refl (omega arith)
carry_footprint conditions.Zero = counted refl (omega arith)
carry_footprint conditions.NotZero = counted refl (omega arith)
carry_footprint condition = counted refl (omega arith)

value_footprint :
    {at : Ground} {free : ℕ} (outcome : Outcome)
    → Footprint at free (outcome_value_steps outcome) free 3
value_footprint (outcomes.Known true) = counted refl (omega arith)
value_footprint (outcomes.Known false) = counted refl (omega arith)
value_footprint (outcomes.Where condition) =
    joined 2 1 (carry_footprint condition) (counted refl (omega arith)) (omega arith)

-- a relation as a value
pub relation_value_footprint :
    {at : Ground} {free : ℕ} (number : ExpressionNumber) (pushed : ℕ)
    → IsOperand at free number
    → Footprint at free (relation_value_steps at.site number pushed) free (72 + 128 * beside at.site number)
relation_value_footprint {at = at} {free = free} number pushed is =
    by_finding (relation_of at.site number)
    (λ relation there. asked relation
    (of_found (IsRelationIn at free number) (relation_is at free number is) there))
    (λ none. counted refl (omega arith))
  where
    asked :
        (relation : Relation)
        → IsRelationIn at free number relation
        → Footprint at free
        (relation_steps at.site relation (value_setting pushed) ++ outcome_value_steps
        (relation_outcome at.site relation)) free (72 + 128 * beside at.site number)
    asked relation has =
        joined (162 + 128 * has.limit) 3
        (inquiry_footprint has.limit relation.inquiry (value_setting pushed) has.asked)
        (value_footprint (relation_outcome at.site relation)) (omega (arith, has.small))

-- a label that the later steps bind is bound
bound_later : (label : ℕ) (first others : List Step) → StepsBind label others
    → StepsBind label (first ++ others)
bound_later label [] others is = is
bound_later label (steps.Mark other ∷ first) others is = inr (bound_later label first others is)
bound_later label (step ∷ first) others is = bound_later label first others is

-- steps with this footprint at the level, if the labels that they bind may be referred to
abbrev Closed : (at : Ground) (planned : List Step) (size : ℕ) → Type 0
Closed at planned size =
    ((label : ℕ) → StepsBind label planned → at.ok label) → Footprint at at.level planned at.level size

-- a jump on a condition refers to its label, or to a label that it binds
known_branch_footprint :
    {at : Ground} (branch : Branch) (answer : Bool)
    → at.ok branch.label.index
    → Footprint at at.level (known_branch_steps branch answer) at.level 3
known_branch_footprint branch answer to =
    by_test (agree answer branch.sense) (counted (to, (omega arith, refl)) (omega arith))
    (counted refl (omega arith))

outcome_branch_footprint :
    {at : Ground} (branch : Branch) (outcome : Outcome)
    → at.ok branch.label.index
    → Footprint at at.level (outcome_branch_steps branch outcome) at.level 3
outcome_branch_footprint branch (outcomes.Known answer) to = known_branch_footprint branch answer to
outcome_branch_footprint branch (outcomes.Where condition) to =
    counted (to, (omega arith, refl)) (omega arith)

-- part of the tree of a number
pub record IsWithin (at : Ground) (free : ℕ) (number inner : ExpressionNumber) : Type 0 where
  pub one : IsOperand at free inner
  pub small : 1 + beside at.site inner ≤ beside at.site number

abbrev IsShape : (at : Ground) (free : ℕ) (number : ExpressionNumber) → Shape → Type 0
IsShape at free number (Known answer) = Unit {0}
IsShape at free number (SameAs inner) = IsWithin at free number inner
IsShape at free number (Opposite inner) = IsWithin at free number inner
IsShape at free number (Whatever operand answer) = IsWithin at free number operand
IsShape at free number (Joined junction) = HasTwo at free number junction.left junction.right
IsShape at free number Other = Unit {0}

with_number_is :
    (at : Ground) (free : ℕ) (number operand : ExpressionNumber) (value : ℕ) (deciding : Bool)
    → IsWithin at free number operand
    → IsShape at free number (shape_with_number operand value deciding)
with_number_is at free number operand value deciding is = by (agree (is_odd value) deciding)
  where
    by : (b : Bool) → IsShape at free number (if b then Whatever operand deciding else SameAs operand)
    by true = is
    by false = is

junction_is :
    (at : Ground) (free : ℕ) (number : ExpressionNumber) (junction : Junction)
    → HasTwo at free number junction.left junction.right
    → IsShape at free number (shape_of_junction at.site junction)
junction_is at free number junction has =
    by (queries.number at.site junction.right) (queries.number at.site junction.left)
    (is_quiet at.site junction.right)
  where
    by : (first second : Option ℕ) (quiet : Bool)
        → IsShape at free number (elim first [
          | Some value ↦ shape_with_number junction.left value junction.deciding
          | None ↦ elim second [
            | Some value ↦ shape_with_number junction.right value junction.deciding
            | None ↦ if quiet then Joined junction else Other
          ]
        ])
    by (Some value) second quiet =
        with_number_is at free number junction.left value junction.deciding
        (record { one = operand_from_below has.one; small = omega (arith, has.same) })
    by None (Some value) quiet =
        with_number_is at free number junction.right value junction.deciding
        (record { one = operand_from_below has.two; small = omega (arith, has.same) })
    by None None true = has
    by None None false = tt

binary_is :
    (at : Ground) (free : ℕ) (number : ExpressionNumber) (operator : BinaryOperator)
    (left right : ExpressionNumber)
    → HasTwo at free number left right
    → IsShape at free number (shape_of_binary at.site operator left right)
binary_is at free number operators.And left right has =
    junction_is at free number (record { deciding = false; left = left; right = right }) has
binary_is at free number operators.Or left right has =
    junction_is at free number (record { deciding = true; left = left; right = right }) has
binary_is at free number operator left right has = tt

shape_form_is :
    (at : Ground) (free : ℕ) (number : ExpressionNumber) (form : ExpressionForm)
    → HasParts at free number form
    → IsShape at free number (shape_of_form at.site form)
shape_form_is at free number (forms.Conversion inner) has =
    record { one = has.one; small = omega (arith, has.same) }
shape_form_is at free number (forms.Function function operand) has =
    by_byte (λ shape. IsShape at free number shape) (byte_taken function) (SameAs operand) Other
    (λ _. record { one = operand_from_below has.one; small = omega (arith, has.same) }) (λ _. tt)
shape_form_is at free number (forms.Unary Not operand) has =
    record { one = operand_from_below has.one; small = omega (arith, has.same) }
shape_form_is at free number (forms.Unary Negate operand) has =
    record { one = operand_from_below has.one; small = omega (arith, has.same) }
shape_form_is at free number (forms.Binary operands operator left right) has =
    binary_is at free number operator left right has
shape_form_is at free number form has = tt

shape_is :
    (at : Ground) (free : ℕ) (number : ExpressionNumber)
    → IsOperand at free number
    → IsShape at free number (shape_of at.site number)
unfolding shape_of
shape_is at free number is = by (queries.number at.site number)
  where
    found_is : (found : Option Expression) → expression at.site number ≡ found
        → IsShape at free number (elim found [ Some one ↦ shape_of_form at.site one.form | None ↦ Other ])
    found_is (Some one) there = shape_form_is at free number one.form (has_parts at is there)
    found_is None there = tt

    by : (value : Option ℕ)
        → IsShape at free number (elim value [
          | Some value ↦ Known (is_odd value)
          | None ↦ elim (expression at.site number) [
            | Some found ↦ shape_of_form at.site found.form
            | None ↦ Other
          ]
        ])
    by (Some value) = tt
    by None = found_is (expression at.site number) refl

low_difference_footprint :
    {at : Ground} {free : ℕ} (words : Words) → Footprint at free (low_difference_steps words) free 4
low_difference_footprint (PlaceAndHl place) = counted refl (omega arith)
low_difference_footprint DeAndHl = counted refl (omega arith)

jump_footprint :
    {at : Ground} (label : LabelNumber) (words : Words)
    → at.ok label.index
    → Footprint at at.level
    (steps.Jump (word_forms.JumpWhere conditions.NotZero) label ∷ high_difference_steps words)
    at.level 7
jump_footprint label (PlaceAndHl place) to = counted (to, (omega arith, refl)) (omega arith)
jump_footprint label DeAndHl to = counted (to, (omega arith, refl)) (omega arith)

-- if two ADDRESSes are equal, or if they are not: the high bytes may be skipped
equality_by :
    {at : Ground} (words : Words) (branch : Branch) (first : ℕ) (is_equal : Bool)
    → at.ok branch.label.index
    → Closed at
    (if is_equal then
    steps.Jump (word_forms.JumpWhere conditions.NotZero) (label_of first)
    ∷ high_difference_steps words
    ++ (steps.Jump (word_forms.JumpWhere conditions.Zero) branch.label ∷ steps.Mark (label_of first) ∷ [])
    else
    steps.Jump (word_forms.JumpWhere conditions.NotZero) branch.label
    ∷ high_difference_steps words
    ++ (steps.Jump (word_forms.JumpWhere conditions.NotZero) branch.label ∷ [])) 10
equality_by words branch first true to own =
    joined 7 3
    (jump_footprint (label_of first) words
    (own first
    (bound_later first (steps.Jump (word_forms.JumpWhere conditions.NotZero) (label_of first)
    ∷ high_difference_steps words)
    (steps.Jump (word_forms.JumpWhere conditions.Zero) branch.label ∷ steps.Mark (label_of first) ∷ [])
    (inl refl))))
    (counted (to, (omega arith, (omega arith, refl))) (omega arith)) (omega arith)
equality_by words branch first false to own =
    joined 7 3 (jump_footprint branch.label words to)
    (counted (to, (omega arith, refl)) (omega arith)) (omega arith)

equality_footprint :
    {at : Ground} (comparison : Comparison) (is_equal : Bool) (branch : Branch) (first : ℕ)
    → IsBelow at at.level comparison.left → IsBelow at at.level comparison.right
    → at.ok branch.label.index
    → Closed at (equality_steps at.site comparison is_equal branch first)
    (170 + 128 * (beside at.site comparison.left + beside at.site comparison.right))
equality_footprint {at = at} comparison is_equal branch first one two to own =
    joined (160 + 128 * (beside at.site comparison.left + beside at.site comparison.right)) 10
    (joined (156 + 128 * (beside at.site comparison.left + beside at.site comparison.right)) 4
    (words_footprint comparison branch.pushed one two)
    (low_difference_footprint (words_of at.site comparison)) (omega arith))
    (equality_by (words_of at.site comparison) branch first is_equal to
    (λ label is. own label
    (bound_later label
    (words_steps at.site comparison branch.pushed ++ low_difference_steps (words_of at.site comparison)) _
    is)))
    (omega arith)

-- two ADDRESSes that are tested for equality are those that are compared
equality_is :
    (at : Ground) (free : ℕ) (limit : ℕ) (inquiry : Inquiry)
    → IsAsked at free limit inquiry
    → IfSome (words_asked at.site inquiry) (λ comparison. IsAsked at free limit (Between comparison))
equality_is at free limit (WithNumber operand scalar question) is = tt
equality_is at free limit (Between comparison) is = by comparison.operands comparison.question
  where
    compared :
        (b : Bool)
        → IfSome (if b then None else Some comparison)
        (λ comparison. IsAsked at free limit (Between comparison))
    compared true = tt
    compared false = is

    by : (operands : ScalarType) (question : Question)
        → IfSome (elim operands [
          | scalars.Address ↦ elim question [
            | Equal ↦ words_compared at.site comparison
            | LeftBelow ↦ None
            | RightBelow ↦ None
          ]
          | scalars.Byte ↦ None
        ])
        (λ comparison. IsAsked at free limit (Between comparison))
    by scalars.Byte question = tt
    by scalars.Address Equal =
        compared (fits_byte at.site comparison.left && fits_byte at.site comparison.right)
    by scalars.Address LeftBelow = tt
    by scalars.Address RightBelow = tt

words_are :
    (at : Ground) (free : ℕ) (limit : ℕ) (relation : Relation)
    → IsRelation at free limit relation
    → IfSome (equality_of_words at.site relation) (λ comparison. IsAsked at free limit (Between comparison))
unfolding equality_of_words
words_are at free limit relation is = equality_is at free limit relation.inquiry is

relation_branch_by :
    {at : Ground} (limit : ℕ) (relation : Relation) (branch : Branch) (first : ℕ) (found : Option Comparison)
    → IsRelation at at.level limit relation
    → IfSome found (λ comparison. IsAsked at at.level limit (Between comparison))
    → at.ok branch.label.index
    → Closed at
    (elim found [
      | Some comparison ↦ equality_steps at.site comparison
          (agree branch.sense relation.holds_if) branch first
      | None ↦
          relation_steps at.site relation (branch_setting branch.pushed)
          ++ outcome_branch_steps branch (relation_outcome at.site relation)
    ]) (170 + 128 * limit)
relation_branch_by {at = at} limit relation branch first (Some comparison) is has to own =
    within (170 + 128 * (beside at.site comparison.left + beside at.site comparison.right))
    (equality_footprint comparison (agree branch.sense relation.holds_if) branch first has.0 has.1 to own)
    (omega (arith, has.2))
relation_branch_by {at = at} limit relation branch first None is has to own =
    joined (162 + 128 * limit) 3
    (inquiry_footprint limit relation.inquiry (branch_setting branch.pushed) is)
    (outcome_branch_footprint branch (relation_outcome at.site relation) to) (omega arith)

other_by :
    {at : Ground} (condition : ExpressionNumber) (branch : Branch) (first : ℕ) (found : Option Relation)
    → IsOperand at at.level condition
    → IfSome found (IsRelationIn at at.level condition)
    → at.ok branch.label.index
    → Closed at
    (elim found [
      | Some relation ↦ relation_branch_steps at.site relation branch first
      | None ↦ by_bit_steps condition branch
    ]) (80 + 128 * beside at.site condition)
other_by {at = at} condition branch first (Some relation) is has to own =
    within (170 + 128 * has.limit)
    (relation_branch_by has.limit relation branch first (equality_of_words at.site relation) has.asked
    (words_are at at.level has.limit relation has.asked) to own)
    (omega (arith, has.small))
other_by condition branch first None is has to own = counted (is, (to, (omega arith, refl))) (omega arith)

-- by two operands: the right one may be skipped
joined_by :
    {at : Ground} (junction : Junction) (branch : Branch) (first : ℕ) (same : Bool)
    → IsBelow at at.level junction.left → IsBelow at at.level junction.right
    → at.ok branch.label.index
    → Closed at
    (if same
    then branch_part branch junction.left ∷ branch_part branch junction.right ∷ []
    else
    branch_part (record branch { label = label_of first; sense = junction.deciding }) junction.left
    ∷ branch_part branch junction.right
    ∷ steps.Mark (label_of first)
    ∷ []) (160 + 128 * beside at.site junction.left + 128 * beside at.site junction.right)
joined_by junction branch first true one two to own =
    counted ((operand_from_below one, refl, to), ((operand_from_below two, refl, to), refl)) (omega arith)
joined_by junction branch first false one two to own =
    counted ((operand_from_below one, refl, own first (inl refl)), ((operand_from_below two, refl, to), (omega arith, refl))) (omega arith)

-- by a condition with this source of its lowest bit
shape_footprint :
    {at : Ground} (shape : Shape) (condition : ExpressionNumber) (branch : Branch) (first : ℕ)
    → IsOperand at at.level condition → IsShape at at.level condition shape
    → at.ok branch.label.index
    → Closed at (shape_steps at.site shape condition branch first) (80 + 128 * beside at.site condition)
shape_footprint (Known answer) condition branch first is has to own =
    within 3 (known_branch_footprint branch answer to) (omega arith)
shape_footprint (SameAs inner) condition branch first is has to own =
    counted ((has.one, refl, to), refl) (omega (arith, has.small))
shape_footprint (Opposite inner) condition branch first is has to own =
    counted ((has.one, refl, to), refl) (omega (arith, has.small))
shape_footprint (Whatever operand answer) condition branch first is has to own =
    after_part 3 has.one (known_branch_footprint branch answer to) (omega (arith, has.small))
shape_footprint {at = at} (Joined junction) condition branch first is has to own =
    within (160 + 128 * beside at.site junction.left + 128 * beside at.site junction.right)
    (joined_by junction branch first (agree branch.sense junction.deciding) has.one has.two to own)
    (omega (arith, has.same))
shape_footprint {at = at} Other condition branch first is has to own =
    other_by condition branch first (relation_of at.site condition) is
    (relation_is at at.level condition is) to own

-- a jump on a condition
pub branch_footprint :
    {at : Ground} (condition : ExpressionNumber) (label : LabelNumber) (sense : Bool) (pushed first : ℕ)
    → IsOperand at at.level condition
    → at.ok label.index
    → Closed at (branch_steps at.site condition label sense pushed first)
    (80 + 128 * beside at.site condition)
branch_footprint {at = at} condition label sense pushed first is to own =
    shape_footprint (shape_of at.site condition) condition
    (record { label = label; sense = sense; pushed = pushed }) first is
    (shape_is at at.level condition is) to own
