-- Relations as values and as jumps, and jumps on conditions.
use Rattle.exprgen8080.proofs.Prelude.{◌≡◌, ◌<◌, ◌&&◌, ◌∷◌, ◌++◌, if◌then◌else◌, Apart, operand_apart, Between, BinaryOperator, Bool, Comparison, Condition, DeAndHl, Equal, Expression, ExpressionForm, ExpressionNumber, IfSome, Inquiry, Joined, Junction, Known, LabelNumber, LeftBelow, Negate, None, Not, Opposite, Option, Other, Outcome, PlaceAndHl, Question, Relation, RightBelow, SameAs, ScalarType, Setting, Shape, Site, Some, Step, List, [], TreeModule, Whatever, WithNumber, Words, agree, branch_labels, branch_part, branch_setting, branch_steps, byte_taken, byte_relation_steps, carry_steps, equality_labels, equality_of_words, equality_steps, expression, false, fits_byte, high_difference_steps, inquiry_steps, is_odd, is_quiet, joined_labels, joined_steps, known_branch_steps, label_of, low_difference_steps, mirrored, option_and_then, option_map, other_labels, other_steps, outcome_branch_steps, outcome_value_steps, question_of, rank, refl, relation_between, relation_branch_labels, relation_branch_steps, relation_by, relation_of, relation_of_form, relation_outcome, relation_steps, relation_value_steps, relation_with_number, scalar, shape_of, shape_of_binary, shape_of_form, shape_labels, shape_of_junction, shape_steps, shape_with_number, true, value_setting, word_relation_steps, words_asked, words_compared, words_of, ℕ}
use Rattle.trees.specs.declared.declaration.ScalarType.TheVariants as scalars
use Rattle.trees.specs.declared.expression.BinaryOperator.TheVariants as operators
use Rattle.trees.proofs.TakenBytes.{by_byte}
use Rattle.treecode.specs.declared.expression.ExpressionForm.TheVariants as forms
use Rattle.asm8080.specs.declared.item.WordForm.TheVariants as word_forms
use Rattle.isa8080.specs.declared.instr.Condition.TheVariants as conditions
use Rattle.steps8080.specs.declared.step.Step.TheVariants as steps
use Rattle.steps8080.specs.internal.Queries as queries
use Rattle.operands8080.specs.declared.branches.Branch.{Branch}
use Rattle.operands8080.specs.declared.relations.Outcome.TheVariants as outcomes
use Rattle.steps8080.specs.declared.step.Task.TheVariants as tasks
use Rattle.steps8080.proofs.SiteNames.{IsOwn, after_is_own}
use Rattle.exprgen8080.proofs.Ranks.{Joining.{Falls, FallsMarking, HasLowParts, IsUnder, after_part, by_finding, by_test, falls, joined, joined_marking, of_found, taking_none}, Trees.{HasParts, has_parts}, ByteRelations.{byte_number_fall, byte_relation_fall}, WordRelations.{IsOther, operand_apart_is, word_number_fall, word_relation_fall, words_fall}}

-- a question about operands that allow a pushed word before them
abbrev pub IsAsked : (tree : TreeModule) → (limit : ℕ) → Inquiry → Type 0
IsAsked tree limit (Between comparison) =
    IsUnder tree limit comparison.left × IsUnder tree limit comparison.right
IsAsked tree limit (WithNumber operand scalar question) = IsUnder tree limit operand

abbrev pub IsRelation : (tree : TreeModule) → (limit : ℕ) → Relation → Type 0
IsRelation tree limit relation = IsAsked tree limit relation.inquiry

relation_between_is :
    (site : Site) (limit : ℕ) (comparison : Comparison) (holds_if : Bool)
    → IsUnder site.tree.now limit comparison.left → IsUnder site.tree.now limit comparison.right
    → IsRelation site.tree.now limit
    (relation_between site comparison holds_if)
unfolding relation_between
relation_between_is site limit comparison holds_if one two =
    by (queries.number site comparison.right) (queries.number site comparison.left)
  where
    by : (first second : Option ℕ)
        → IsRelation site.tree.now limit
        (elim first [
          | Some value ↦ relation_with_number comparison.left value comparison comparison.question holds_if
          | None ↦ elim second [
            | Some value ↦
                relation_with_number comparison.right value comparison (mirrored comparison.question) holds_if
            | None ↦ record { inquiry = Between comparison; holds_if = holds_if }
          ]
        ])
    by (Some value) second = one
    by None (Some value) = two
    by None None = (one, two)

relation_by_is :
    (site : Site) (limit : ℕ) (operands : ScalarType) (operator : BinaryOperator)
    (left right : ExpressionNumber)
    → IsUnder site.tree.now limit left → IsUnder site.tree.now limit right
    → IfSome (relation_by site operands operator left right) (IsRelation site.tree.now limit)
relation_by_is site limit operands operator left right one two = by (question_of operator)
  where
    by : (found : Option (Question × Bool))
        → IfSome
        (option_map
        (λ (asked : Question × Bool). relation_between site
        (record { operands = operands; left = left; right = right; question = asked.0 })
        asked.1)
        found) (IsRelation site.tree.now limit)
    by (Some asked) =
        relation_between_is site limit
        (record { operands = operands; left = left; right = right; question = asked.0 }) asked.1 one two
    by None = tt

relation_of_form_is :
    (site : Site) (limit : ℕ) (form : ExpressionForm)
    → HasParts site.tree.now limit form
    → IfSome (relation_of_form site form) (IsRelation site.tree.now limit)
relation_of_form_is site limit (forms.Binary operands operator left right) has =
    relation_by_is site limit operands operator left right has.0 has.1
relation_of_form_is site limit form has = tt

relation_is :
    (site : Site) (limit : ℕ) (number : ExpressionNumber)
    → HasLowParts site.tree.now limit number
    → IfSome (relation_of site number) (IsRelation site.tree.now limit)
unfolding relation_of
relation_is site limit number is = by (expression site number) refl
  where
    by : (found : Option Expression) → expression site number ≡ found
        → IfSome (option_and_then (λ (one : Expression). relation_of_form site one.form) found)
        (IsRelation site.tree.now limit)
    by (Some one) there = relation_of_form_is site limit one.form (has_parts site is there)
    by None there = tt

inquiry_fall :
    {site : Site} {limit : ℕ} (inquiry : Inquiry) (setting : Setting)
    → IsAsked site.tree.now limit inquiry
    → Falls site limit (inquiry_steps site inquiry setting)
inquiry_fall {site = site} {limit = limit} (Between comparison) setting is = by comparison.operands
  where
    by : (operands : ScalarType)
        → Falls site limit (elim operands [
          | scalars.Byte ↦ byte_relation_steps site comparison setting
          | scalars.Address ↦ word_relation_steps site comparison setting
        ])
    by scalars.Byte =
        byte_relation_fall comparison setting is.0 is.1
    by scalars.Address =
        word_relation_fall comparison setting is.0 is.1
inquiry_fall {site = site} (WithNumber operand scalars.Byte question) setting is =
    byte_number_fall operand question setting is
inquiry_fall {site = site} (WithNumber operand scalars.Address question) setting is =
    word_number_fall operand question setting is

carry_fall :
    {site : Site} {limit : ℕ} (condition : Condition)
    → Falls site limit (carry_steps condition)
carry_fall conditions.NoCarry = falls tt
carry_fall conditions.Zero = falls tt
carry_fall conditions.NotZero = falls tt
carry_fall condition = falls tt

value_fall :
    {site : Site} {limit : ℕ} (outcome : Outcome)
    → Falls site limit (outcome_value_steps outcome)
value_fall (outcomes.Known true) = falls tt
value_fall (outcomes.Known false) = falls tt
value_fall (outcomes.Where condition) = joined (carry_fall condition) (falls tt)

-- a relation as a value
pub relation_value_fall :
    {site : Site} {limit : ℕ} (number : ExpressionNumber) (pushed : ℕ)
    → HasLowParts site.tree.now limit number
    → Falls site limit (relation_value_steps site number pushed)
relation_value_fall {site = site} {limit = limit} number pushed is =
    by_finding (relation_of site number)
    (λ relation there. asked relation
    (of_found (IsRelation site.tree.now limit) (relation_is site limit number is) there))
    (λ none. falls tt)
  where
    asked : (relation : Relation) → IsRelation site.tree.now limit relation
        → Falls site limit
        (relation_steps site relation (value_setting pushed)
        ++ outcome_value_steps (relation_outcome site relation))
    asked relation has =
        joined (inquiry_fall relation.inquiry (value_setting pushed) has)
        (value_fall (relation_outcome site relation))

known_branch_fall :
    {site : Site} {limit : ℕ} (branch : Branch) (answer : Bool)
    → Falls site limit (known_branch_steps branch answer)
known_branch_fall branch answer = by_test (agree answer branch.sense) (falls tt) (falls tt)

outcome_branch_fall :
    {site : Site} {limit : ℕ} (branch : Branch) (outcome : Outcome)
    → Falls site limit (outcome_branch_steps branch outcome)
outcome_branch_fall branch (outcomes.Known answer) = known_branch_fall branch answer
outcome_branch_fall branch (outcomes.Where condition) = falls tt

abbrev IsShape : (tree : TreeModule) → (limit : ℕ) → Shape → Type 0
IsShape tree limit (Known answer) = Unit {0}
IsShape tree limit (SameAs inner) = IsUnder tree limit inner
IsShape tree limit (Opposite inner) = IsUnder tree limit inner
IsShape tree limit (Whatever operand answer) = IsUnder tree limit operand
IsShape tree limit (Joined junction) =
    IsUnder tree limit junction.left × IsUnder tree limit junction.right
IsShape tree limit Other = Unit {0}

with_number_is :
    (tree : TreeModule) (limit : ℕ) (operand : ExpressionNumber) (value : ℕ)
    (deciding : Bool)
    → IsUnder tree limit operand
    → IsShape tree limit (shape_with_number operand value deciding)
with_number_is tree limit operand value deciding is = by (agree (is_odd value) deciding)
  where
    by : (b : Bool) → IsShape tree limit (if b then Whatever operand deciding else SameAs operand)
    by true = is
    by false = is

junction_is :
    (site : Site) (limit : ℕ) (junction : Junction)
    → IsUnder site.tree.now limit junction.left × IsUnder site.tree.now limit junction.right
    → IsShape site.tree.now limit (shape_of_junction site junction)
junction_is site limit junction has =
    by (queries.number site junction.right) (queries.number site junction.left) (is_quiet site junction.right)
  where
    by : (first second : Option ℕ) (quiet : Bool)
        → IsShape site.tree.now limit (elim first [
          | Some value ↦ shape_with_number junction.left value junction.deciding
          | None ↦ elim second [
            | Some value ↦ shape_with_number junction.right value junction.deciding
            | None ↦ if quiet then Joined junction else Other
          ]
        ])
    by (Some value) second quiet =
        with_number_is site.tree.now limit junction.left value junction.deciding has.0
    by None (Some value) quiet =
        with_number_is site.tree.now limit junction.right value junction.deciding has.1
    by None None true = has
    by None None false = tt

binary_is :
    (site : Site) (limit : ℕ) (operator : BinaryOperator)
    (left right : ExpressionNumber)
    → IsUnder site.tree.now limit left × IsUnder site.tree.now limit right
    → IsShape site.tree.now limit (shape_of_binary site operator left right)
binary_is site limit operators.And left right has =
    junction_is site limit (record { deciding = false; left = left; right = right }) has
binary_is site limit operators.Or left right has =
    junction_is site limit (record { deciding = true; left = left; right = right }) has
binary_is site limit operator left right has = tt

shape_form_is :
    (site : Site) (limit : ℕ) (form : ExpressionForm)
    → HasParts site.tree.now limit form
    → IsShape site.tree.now limit (shape_of_form site form)
shape_form_is site limit (forms.Conversion inner) has = has
shape_form_is site limit (forms.Function function operand) has =
    by_byte (λ shape. IsShape site.tree.now limit shape) (byte_taken function) (SameAs operand) Other
    (λ _. has) (λ _. tt)
shape_form_is site limit (forms.Unary Not operand) has = has
shape_form_is site limit (forms.Unary Negate operand) has = has
shape_form_is site limit (forms.Binary operands operator left right) has =
    binary_is site limit operator left right has
shape_form_is site limit form has = tt

shape_is :
    (site : Site) (limit : ℕ) (number : ExpressionNumber)
    → HasLowParts site.tree.now limit number
    → IsShape site.tree.now limit (shape_of site number)
unfolding shape_of
shape_is site limit number is = by (queries.number site number)
  where
    found_is : (found : Option Expression) → expression site number ≡ found
        → IsShape site.tree.now limit (elim found [ Some one ↦ shape_of_form site one.form | None ↦ Other ])
    found_is (Some one) there = shape_form_is site limit one.form (has_parts site is there)
    found_is None there = tt

    by : (value : Option ℕ)
        → IsShape site.tree.now limit (elim value [
          | Some value ↦ Known (is_odd value)
          | None ↦ elim (expression site number) [
            | Some found ↦ shape_of_form site found.form
            | None ↦ Other
          ]
        ])
    by (Some value) = tt
    by None = found_is (expression site number) refl

-- the place of a word in memory
abbrev PlaceOfWords : TreeModule → Words → Type 0
PlaceOfWords tree (PlaceAndHl place) = IsOwn tree place
PlaceOfWords tree DeAndHl = Unit {0}

words_are_own :
    (site : Site) (limit : ℕ) (comparison : Comparison)
    → IsUnder site.tree.now limit comparison.left → IsUnder site.tree.now limit comparison.right
    → PlaceOfWords site.tree.now (words_of site comparison)
words_are_own site limit comparison one two =
    by (operand_apart site comparison) (operand_apart_is site limit comparison one two)
  where
    by : (found : Option Apart) → IfSome found (IsOther site.tree.now limit)
        → PlaceOfWords site.tree.now (elim found [ Some apart ↦ PlaceAndHl apart.place | None ↦ DeAndHl ])
    by (Some apart) is = is.1
    by None is = tt

low_difference_fall :
    {site : Site} {limit : ℕ} (words : Words)
    → PlaceOfWords site.tree.now words
    → Falls site limit (low_difference_steps words)
low_difference_fall (PlaceAndHl place) own = falls (own, tt)
low_difference_fall DeAndHl own = falls tt

high_difference_fall :
    {site : Site} {limit : ℕ} (words : Words)
    → PlaceOfWords site.tree.now words
    → Falls site limit (high_difference_steps words)
high_difference_fall (PlaceAndHl place) own = falls (after_is_own 1 own, tt)
high_difference_fall DeAndHl own = falls tt

jump_fall :
    {site : Site} {limit : ℕ} (label : LabelNumber) (words : Words)
    → PlaceOfWords site.tree.now words
    → Falls site limit
    (steps.Jump (word_forms.JumpWhere conditions.NotZero) label ∷ high_difference_steps words)
jump_fall label (PlaceAndHl place) own = falls (after_is_own 1 own, tt)
jump_fall label DeAndHl own = falls tt

equality_fall :
    {site : Site} {limit : ℕ} (comparison : Comparison) (is_equal : Bool)
    (branch : Branch) (first : ℕ)
    → IsUnder site.tree.now limit comparison.left → IsUnder site.tree.now limit comparison.right
    → FallsMarking site limit first (equality_labels is_equal)
    (equality_steps site comparison is_equal branch first)
equality_fall {site = site} {limit = limit} comparison true branch first one two =
    let own = words_are_own site limit comparison one two in
    joined_marking
    (joined (words_fall comparison branch.pushed one two) (low_difference_fall (words_of site comparison) own))
    (joined_marking (jump_fall (label_of first) (words_of site comparison) own)
    (record { below = tt; marked = refl; named = λ own. tt }))
equality_fall {site = site} {limit = limit} comparison false branch first one two =
    let own = words_are_own site limit comparison one two in
    joined_marking
    (joined (words_fall comparison branch.pushed one two) (low_difference_fall (words_of site comparison) own))
    (taking_none (joined (jump_fall branch.label (words_of site comparison) own) (falls tt)))

-- two ADDRESSes that are tested for equality are those that are compared
equality_is :
    (site : Site) (limit : ℕ) (inquiry : Inquiry)
    → IsAsked site.tree.now limit inquiry
    → IfSome (words_asked site inquiry) (λ comparison. IsAsked site.tree.now limit (Between comparison))
equality_is site limit (WithNumber operand scalar question) is = tt
equality_is site limit (Between comparison) is = by comparison.operands comparison.question
  where
    compared : (b : Bool)
        → IfSome (if b then None else Some comparison)
        (λ comparison. IsAsked site.tree.now limit (Between comparison))
    compared true = tt
    compared false = is

    by : (operands : ScalarType) (question : Question)
        → IfSome (elim operands [
          | scalars.Address ↦ elim question [
            | Equal ↦ words_compared site comparison
            | LeftBelow ↦ None
            | RightBelow ↦ None
          ]
          | scalars.Byte ↦ None
        ]) (λ comparison. IsAsked site.tree.now limit (Between comparison))
    by scalars.Byte question = tt
    by scalars.Address Equal = compared (fits_byte site comparison.left && fits_byte site comparison.right)
    by scalars.Address LeftBelow = tt
    by scalars.Address RightBelow = tt

words_are :
    (site : Site) (limit : ℕ) (relation : Relation)
    → IsRelation site.tree.now limit relation
    → IfSome (equality_of_words site relation)
    (λ comparison. IsAsked site.tree.now limit (Between comparison))
unfolding equality_of_words
words_are site limit relation is = equality_is site limit relation.inquiry is

-- whether a value is found or not, with the number of labels
finding_marking : {A : Type 0} {site : Site} {limit first : ℕ} {some : A → List Step} {labels : A → ℕ}
    {none : List Step} (found : Option A)
    → ((x : A) → found ≡ Some x → FallsMarking site limit first (labels x) (some x))
    → (found ≡ None → FallsMarking site limit first 0 none)
    → FallsMarking site limit first (elim found [ Some x ↦ labels x | None ↦ 0 ])
    (elim found [ Some x ↦ some x | None ↦ none ])
finding_marking (Some x) one two = one x refl
finding_marking None one two = two refl

relation_branch_fall :
    {site : Site} {limit : ℕ} (relation : Relation) (branch : Branch) (first : ℕ)
    → IsRelation site.tree.now limit relation
    → FallsMarking site limit first (relation_branch_labels site relation branch)
    (relation_branch_steps site relation branch first)
relation_branch_fall {site = site} {limit = limit} relation branch first is =
    finding_marking (equality_of_words site relation)
    (λ comparison there. equal comparison
    (of_found (λ comparison. IsAsked site.tree.now limit (Between comparison))
    (words_are site limit relation is) there))
    (λ none. taking_none (joined (inquiry_fall relation.inquiry (branch_setting branch.pushed) is)
    (outcome_branch_fall branch (relation_outcome site relation))))
  where
    equal : (comparison : Comparison) → IsAsked site.tree.now limit (Between comparison)
        → FallsMarking site limit first (equality_labels (agree branch.sense relation.holds_if))
        (equality_steps site comparison (agree branch.sense relation.holds_if) branch first)
    equal comparison has =
        equality_fall comparison (agree branch.sense relation.holds_if) branch first has.0 has.1

other_fall :
    {site : Site} {limit : ℕ} (condition : ExpressionNumber)
    (branch : Branch) (first : ℕ)
    → HasLowParts site.tree.now limit condition
    → rank site.tree.now (tasks.Byte condition) < limit
    → FallsMarking site limit first (other_labels site condition branch)
    (other_steps site condition branch first)
other_fall {site = site} {limit = limit} condition branch first is own =
    finding_marking (relation_of site condition)
    (λ relation there. related relation
    (of_found (IsRelation site.tree.now limit) (relation_is site limit condition is) there))
    (λ none. record { below = (own, tt); marked = refl; named = λ names. tt })
  where
    related : (relation : Relation) → IsRelation site.tree.now limit relation
        → FallsMarking site limit first (relation_branch_labels site relation branch)
        (relation_branch_steps site relation branch first)
    related relation has =
        relation_branch_fall relation branch first has

-- by two operands: the right one may be skipped
skipping_fall :
    {site : Site} {limit : ℕ} (junction : Junction) (branch : Branch) (first : ℕ) (same : Bool)
    → IsUnder site.tree.now limit junction.left → IsUnder site.tree.now limit junction.right
    → FallsMarking site limit first (if same then 0 else 1)
    (if same
    then branch_part branch junction.left ∷ branch_part branch junction.right ∷ []
    else
    branch_part (record branch { label = label_of first; sense = junction.deciding }) junction.left
    ∷ branch_part branch junction.right
    ∷ steps.Mark (label_of first)
    ∷ [])
skipping_fall junction branch first true one two = taking_none (falls (one, (two, tt)))
skipping_fall {site = site} {limit = limit} junction branch first false one two =
    let before : Falls site limit
    (branch_part (record branch { label = label_of first; sense = junction.deciding }) junction.left
    ∷ branch_part branch junction.right
    ∷ []) = falls (one, (two, tt)) in
    record { below = before.below; marked = refl; named = λ own. tt }

joined_fall :
    {site : Site} {limit : ℕ} (junction : Junction) (branch : Branch) (first : ℕ)
    → IsUnder site.tree.now limit junction.left → IsUnder site.tree.now limit junction.right
    → FallsMarking site limit first (joined_labels junction branch) (joined_steps junction branch first)
joined_fall junction branch first one two =
    skipping_fall junction branch first (agree branch.sense junction.deciding) one two

shape_fall :
    {site : Site} {limit : ℕ} (shape : Shape) (condition : ExpressionNumber)
    (branch : Branch) (first : ℕ)
    → HasLowParts site.tree.now limit condition
    → rank site.tree.now (tasks.Byte condition) < limit
    → IsShape site.tree.now limit shape
    → FallsMarking site limit first (shape_labels site shape condition branch)
    (shape_steps site shape condition branch first)
shape_fall (Known answer) condition branch first is own has = taking_none (known_branch_fall branch answer)
shape_fall (SameAs inner) condition branch first is own has = taking_none (falls (has, tt))
shape_fall (Opposite inner) condition branch first is own has = taking_none (falls (has, tt))
shape_fall (Whatever operand answer) condition branch first is own has =
    taking_none (after_part has (known_branch_fall branch answer))
shape_fall {site = site} (Joined junction) condition branch first is own has =
    joined_fall junction branch first has.0 has.1
shape_fall Other condition branch first is own has = other_fall condition branch first is own

-- a jump on a condition
pub branch_fall :
    {site : Site} {limit : ℕ} (condition : ExpressionNumber)
    (label : LabelNumber) (sense : Bool)
    (pushed first : ℕ)
    → HasLowParts site.tree.now limit condition
    → rank site.tree.now (tasks.Byte condition) < limit
    → FallsMarking site limit first (branch_labels site condition label sense pushed)
    (branch_steps site condition label sense pushed first)
branch_fall {site = site} {limit = limit} condition label sense pushed first is own =
    shape_fall (shape_of site condition) condition
    (record { label = label; sense = sense; pushed = pushed }) first is own
    (shape_is site limit condition is)
