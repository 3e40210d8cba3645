-- The code of jumps on a condition does what the condition means.
use Rattle.task_laws.proofs.Prelude.{◌≡◌, ℕ, zero, suc, ◌+◌, ◌-◌, ◌*◌, ◌/◌, ◌<◌, ◌≤◌, ◌==◌, Bool, true, false, not, ◌&&◌, List, [], ◌∷◌, ◌++◌, Option, Some, None, max, bit_and, bit_or, refl, sym, ap, ◌∙◌, subst, arith, if◌then◌else◌, false≢true, none-some, same_Some, and_comm, or_comm, ScalarType, BinaryOperator, Not, Negate, height_of, type_of, TypedExpression, BinaryNode, TypesHold, computed, SourceState, Outcome, Gave, then_do, as_type, is_true, result_of, result_of_one, truth, values_of, Registers, Expression, ExpressionForm, ExpressionNumber, IsExpression, IsForm, IsNumber, IsValue, IsLocation, IsConstantList, IsConversion, IsEmbedded, IsUnary, IsBinary, IsCallOf, IsFunction, IsShift, IsInput, Facts, LabelNumber, Step, Does, at_place, Comparison, Question, LeftBelow, RightBelow, Equal, Between, Relation, Site, expression, is_quiet, number, agree, question_of, relation_of, fits_byte, SameAs, Opposite, Whatever, Joined, Other, branch_setting, branch_steps, by_bit_steps, equality_steps, is_odd, outcome_branch_steps, shape_of, shape_of_form, shape_steps, other_steps, relation_outcome, relation_steps, equality_of_words, low_difference_steps, words_asked, words_of, words_steps, knowing, jumps_once, Context, IsSound, nodes_in, StepsStand, PartThere, BranchDoes, Parts, PartDoes, in_order, not-not, byte_taken, function_of}
use Rattle.operands8080.specs.declared.branches.Shape.{Shape}
use Rattle.trees.proofs.TakenBytes.{by_byte}
use Rattle.meaning.proofs.FunctionResults.{low_byte_kept}
use Rattle.trees.specs.declared.declaration.ScalarType.TheVariants as scalars
use Rattle.trees.specs.declared.expression.BinaryOperator.TheVariants as operators
use Rattle.operands8080.specs.{declared.branches.Branch.{Branch}, declared.branches.Shape.TheVariants.{Known}}
use Rattle.task_laws.proofs.Relations.Answers.{relation_gives}
use Rattle.task_laws.proofs.Branches.Branches.{bit_jumps, given_itself, relation_jumps, truth_is_true}
use Rattle.task_laws.proofs.Bytes.BytesAsked.{BytesAsked}
use Rattle.task_laws.proofs.Relations.ByteComparisons.{asking}
use Rattle.task_laws.proofs.Branches.Conditions.{joined_jumps, only_part, part_jumps}
use Rattle.task_laws.proofs.Relations.EqualityJumps.{equal_jumps}
use Rattle.task_laws.proofs.Relations.EqualityRelations.{words_come}
use Rattle.task_laws.proofs.Branches.Jumps.{jumps_known}
use Rattle.task_laws.proofs.Relations.LowestBits.{and_with_one, and_with_zero, complement_turns_bit, low_keeps_bit, negation_keeps_bit, or_with_one, or_with_zero, type_keeps_bit}
use Rattle.task_laws.proofs.Machine.Nodes.{node_of}
use Rattle.task_laws.proofs.Relations.Relations.{IsRelation, Relates, between, between_is, in_order_of, relation_is}
use Rattle.task_laws.proofs.Machine.SiteNodes.{number_means, quiet_means, value_in}
use Rattle.task_laws.proofs.Machine.Stages.{Stage, at_effects, does_same, loaded_in}
use Rattle.task_laws.proofs.Agreement.{agreeing, disagreeing}

abbrev IsByteType : ScalarType → Type 0
IsByteType scalars.Byte = Unit {0}
IsByteType scalars.Address = ⊥

abbrev IsNoEquality : Question → Type 0
IsNoEquality LeftBelow = Unit {0}
IsNoEquality RightBelow = Unit {0}
IsNoEquality Equal = ⊥

-- relations of equality
record IsEquality (left right : ExpressionNumber) (operands : ScalarType) (question : Question)
    (comparison : Comparison) : Type 0 where
  operands_are : operands ≡ scalars.Address
  question_is : question ≡ Equal
  comparison_is : comparison ≡ asking scalars.Address left right Equal

equality_asked :
    (site : Site) (left right : ExpressionNumber) (operands : ScalarType) (question : Question)
    (comparison : Comparison)
    → words_asked site (Between (asking operands left right question)) ≡ Some comparison
    → IsEquality left right operands question comparison
equality_asked site left right scalars.Byte LeftBelow comparison is = absurd (none-some comparison is)
equality_asked site left right scalars.Byte RightBelow comparison is = absurd (none-some comparison is)
equality_asked site left right scalars.Byte Equal comparison is = absurd (none-some comparison is)
equality_asked site left right scalars.Address LeftBelow comparison is = absurd (none-some comparison is)
equality_asked site left right scalars.Address RightBelow comparison is = absurd (none-some comparison is)
equality_asked site left right scalars.Address Equal comparison is =
    by (fits_byte site left && fits_byte site right) is
  where
    by : (fit : Bool) → (if fit then None else Some (asking scalars.Address left right Equal))
        ≡ Some comparison
        → IsEquality left right scalars.Address Equal comparison
    by true same = absurd (none-some comparison same)
    by false same = record {
      operands_are = refl;
      question_is = refl;
      comparison_is = sym (same_Some (asking scalars.Address left right Equal) comparison same);
    }

byte_is_no_address : scalars.Byte ≡ scalars.Address → ⊥
byte_is_no_address same = subst IsByteType same tt

left_is_no_equality : LeftBelow ≡ Equal → ⊥
left_is_no_equality same = subst IsNoEquality same tt

right_is_no_equality : RightBelow ≡ Equal → ⊥
right_is_no_equality same = subst IsNoEquality same tt

no_equality :
    (site : Site) (left : ExpressionNumber) (n : ℕ) (operands : ScalarType)
    (question : Question) (holds_if : Bool)
    (comparison : Comparison) (right : ExpressionNumber)
    → equality_of_words site (between site operands left right question holds_if (Some n) None)
    ≡ Some comparison
    → ⊥
unfolding equality_of_words
no_equality site left n operands question holds_if comparison right is = none-some comparison is

no_equality_mirrored :
    (site : Site) (left : ExpressionNumber) (n : ℕ) (operands : ScalarType)
    (question : Question) (holds_if : Bool)
    (comparison : Comparison) (right : ExpressionNumber)
    → equality_of_words site (between site operands left right question holds_if None (Some n))
    ≡ Some comparison
    → ⊥
unfolding equality_of_words
no_equality_mirrored site left n operands question holds_if comparison right is = none-some comparison is

between_asked :
    (site : Site) (left right : ExpressionNumber) (operands : ScalarType)
    (question : Question) (holds_if : Bool)
    (comparison : Comparison)
    → equality_of_words site (between site operands left right question holds_if None None) ≡ Some comparison
    → IsEquality left right operands question comparison
unfolding equality_of_words
between_asked site left right operands question holds_if comparison is =
    equality_asked site left right operands question comparison is

agree_back : (sense h : Bool) → agree (agree sense h) h ≡ sense
agree_back true true = refl
agree_back true false = refl
agree_back false true = refl
agree_back false false = refl

agree_not_back : (sense h : Bool) → agree (not (agree sense h)) h ≡ not sense
agree_not_back true true = refl
agree_not_back true false = refl
agree_not_back false true = refl
agree_not_back false false = refl

module _
    (context : Context) (top need : ℕ) (base : List ℕ) (s : SourceState) (facts last : Facts)
    (r : Registers) (memory : List ℕ) (from to : ℕ) (branch : Branch) (label : ℕ)
    (asked : BytesAsked context) (sound : IsSound context) where
  -- where a tree's value leads to
  abbrev Jumps : TypedExpression → Type 0
  Jumps tree =
      Does (loaded_in context) s.budget 0 (at_place from r memory s.events) (value_in context tree s)
      (Parts context last tree branch.label branch.sense top base to)

  equality_jumps :
      (bound : ℕ) (operator : BinaryOperator) (left right : ExpressionNumber)
      (first second : TypedExpression) (holds_if : Bool)
      → IsExpression (nodes_in context) context.storage bound left.index first
      → IsExpression (nodes_in context) context.storage bound right.index second
      → question_of operator ≡ Some (Equal, holds_if)
      → TypesHold context.typed context.within (BinaryNode scalars.Address operator first second)
      → 2 * height_of (BinaryNode scalars.Address operator first second) ≤ need
      → StepsStand context (PartDoes context) facts from
      (equality_steps (knowing context.site facts) (asking scalars.Address left right Equal)
      (agree branch.sense holds_if) branch label) last to
      → Stage context top branch.pushed need base s facts r memory
      → Jumps (BinaryNode scalars.Address operator first second)
  equality_jumps bound operator left right first second holds_if one two is types fewer stand stage =
      let site = knowing context.site facts in
      let tree = BinaryNode scalars.Address operator first second in
      does_same _ (given_itself (value_in context tree s)
      ∙ in_order_of context first second scalars.Address operator (λ found u. Gave found u) s)
      (words_come left right _ (λ v w u. then_do (computed (result_of scalars.Address operator v w) u)
      (λ found t. Gave found t))
      asked sound one types.1.0 two types.2.0 (omega (arith, fewer))
      (subst (λ (list : List Step). StepsStand context (PartDoes context) facts from list last to)
      (Rattle.std.proofs.Common.append_assoc
      (words_steps site (asking scalars.Address left right Equal) branch.pushed)
      (low_difference_steps (words_of site (asking scalars.Address left right Equal))) _) stand) stage
      (λ v w x y u now memory_now found middle others has small same next.
      does_same (Gave (truth (agree (v == w) holds_if)) u)
      (ap (λ (given : Option ℕ). then_do (computed given u) (λ found t. Gave found t))
      (relation_gives scalars.Address operator Equal holds_if v w is))
      (equal_jumps (words_of site (asking scalars.Address left right Equal)) x y
      (truth (agree (v == w) holds_if))
      (agree branch.sense holds_if) branch label sound small
      (λ equal. truth_is_true (agree (v == w) holds_if) ∙ ap (λ b. agree b holds_if) (sym same ∙ equal)
      ∙ agree_back branch.sense holds_if)
      (λ unlike. truth_is_true (agree (v == w) holds_if) ∙ ap (λ b. agree b holds_if) (sym same ∙ unlike)
      ∙ agree_not_back branch.sense holds_if)
      has others next)))

  -- a jump by a relation
  relation_branches :
      (bound : ℕ) (tree : TypedExpression) (relation : Relation)
      → IsRelation context facts bound tree relation
      → TypesHold context.typed context.within tree
      → 2 * height_of tree ≤ need
      → (found : Option Comparison)
      → equality_of_words (knowing context.site facts) relation ≡ found
      → StepsStand context (PartDoes context) facts from
      (elim found [
        | Some comparison ↦
            equality_steps (knowing context.site facts) comparison
            (agree branch.sense relation.holds_if) branch label
        | None ↦
            relation_steps (knowing context.site facts) relation (branch_setting branch.pushed)
            ++ outcome_branch_steps branch (relation_outcome (knowing context.site facts) relation)
      ]) last to
      → Stage context top branch.pushed need base s facts r memory
      → Jumps tree
  relation_branches bound tree relation is types fewer None asks stand stage =
      relation_jumps branch relation asked sound is types fewer stand stage
  relation_branches bound tree relation
      (Relates {operands = operands} {operator = operator} {left = left} {right = right} {first = first}
      {second = second} question holds_if one two found_question same) types fewer
      (Some comparison) asks stand stage =
      let site = knowing context.site facts in
      let made : relation ≡ between site operands left right question holds_if (number site right)
      (number site left) =
      sym same ∙ between_is site operands left right question holds_if in
      by (number site right) (number site left)
      (sym (ap (λ (given : Relation). equality_of_words site given) made) ∙ asks)
      (subst (λ (given : Relation). StepsStand context (PartDoes context) facts from
      (equality_steps site comparison (agree branch.sense given.holds_if) branch label) last to) made stand)
    where
      at_equality :
          (given_question : Question)
          → question_of operator ≡ Some (given_question, holds_if)
          → IsEquality left right operands given_question comparison
          → StepsStand context (PartDoes context) facts from
          (equality_steps (knowing context.site facts) comparison (agree branch.sense holds_if) branch label)
          last to
          → Jumps (BinaryNode operands operator first second)
      at_equality given_question found equality stands =
          equality_at operands given_question equality.operands_are equality.question_is types fewer found
          (subst (λ (given : Comparison). StepsStand context (PartDoes context) facts from
          (equality_steps (knowing context.site facts) given (agree branch.sense holds_if) branch label) last
          to)
          equality.comparison_is stands)
        where
          equality_at :
              (scalar : ScalarType) (asking_question : Question) → scalar ≡ scalars.Address
              → asking_question ≡ Equal
              → TypesHold context.typed context.within (BinaryNode scalar operator first second)
              → 2 * height_of (BinaryNode scalar operator first second) ≤ need
              → question_of operator ≡ Some (asking_question, holds_if)
              → StepsStand context (PartDoes context) facts from
              (equality_steps (knowing context.site facts) (asking scalars.Address left right Equal)
              (agree branch.sense holds_if) branch label) last to
              → Jumps (BinaryNode scalar operator first second)
          equality_at scalars.Address Equal is_address is_equal hold less given standing =
              equality_jumps bound operator left right first second holds_if one two given
              hold less standing stage
          equality_at scalars.Byte Equal is_address is_equal hold less given standing =
              absurd (byte_is_no_address is_address)
          equality_at scalar LeftBelow is_address is_equal hold less given standing =
              absurd (left_is_no_equality is_equal)
          equality_at scalar RightBelow is_address is_equal hold less given standing =
              absurd (right_is_no_equality is_equal)

      by : (right_number left_number : Option ℕ)
          → equality_of_words (knowing context.site facts)
          (between (knowing context.site facts) operands left right question holds_if
          right_number left_number)
          ≡ Some comparison
          → StepsStand context (PartDoes context) facts from
          (equality_steps (knowing context.site facts) comparison
          (agree branch.sense (between (knowing context.site facts) operands left right question holds_if
          right_number left_number).holds_if) branch label) last to
          → Jumps (BinaryNode operands operator first second)
      by (Some n) left_number same_asked stands =
          absurd (no_equality (knowing context.site facts) left n operands question holds_if
          comparison right same_asked)
      by None (Some n) same_asked stands =
          absurd (no_equality_mirrored (knowing context.site facts) left n operands question holds_if
          comparison right same_asked)
      by None None same_asked stands =
          at_equality question found_question
          (between_asked (knowing context.site facts) left right operands question holds_if
          comparison same_asked) stands

  -- a jump by a condition that is nothing else
  others_jump :
      (condition : ExpressionNumber) (bound : ℕ) (tree : TypedExpression)
      → IsExpression (nodes_in context) context.storage bound condition.index tree
      → TypesHold context.typed context.within tree
      → 2 * height_of tree ≤ need
      → StepsStand context (PartDoes context) facts from
      (other_steps (knowing context.site facts) condition branch label) last to
      → Stage context top branch.pushed need base s facts r memory
      → Jumps tree
  others_jump condition bound tree node types fewer stand stage =
      by (relation_of (knowing context.site facts) condition) refl stand
    where
      by : (found : Option Relation)
          → relation_of (knowing context.site facts) condition ≡ found
          → StepsStand context (PartDoes context) facts from
          (elim found [
            | Some relation ↦ Rattle.operands8080.specs.internal.Branches.relation_branch_steps
                (knowing context.site facts) relation branch label
            | None ↦ by_bit_steps condition branch
          ]) last to
          → Jumps tree
      by None is stands = bit_jumps condition branch sound node types fewer stands stage
      by (Some relation) is stands =
          relation_branches condition.index tree relation
          (relation_is facts relation sound node is) types fewer
          (equality_of_words (knowing context.site facts) relation) refl stands stage

  -- the jump where the lowest bit of a part is that of the whole
  same_as :
      (condition inner : ExpressionNumber) (bound : ℕ) (tree inside : TypedExpression) (f : ℕ → ℕ)
      → IsExpression (nodes_in context) context.storage bound inner.index inside
      → TypesHold context.typed context.within inside
      → 2 * height_of inside ≤ need
      → ((t : SourceState) → value_in context tree t
      ≡ then_do (value_in context inside t) (λ v u. Gave (f v) u))
      → ((v : ℕ) → v < values_of (type_of inside) → is_true (f v) ≡ is_true v)
      → (jumps_once tree ≡ true → jumps_once inside ≡ true)
      → StepsStand context (PartDoes context) facts from
      (shape_steps (knowing context.site facts) (SameAs inner) condition branch label) last to
      → Stage context top branch.pushed need base s facts r memory
      → Jumps tree
  same_as condition inner bound tree inside f node types fewer means bits once stand stage =
      does_same _ (means s)
      (part_jumps branch.sense from to inner tree branch.sense f (only_part stand) node types fewer stage
      (λ v u is.
      let bit =
      bits v (asked.values_fit inner bound top v inside base s u r memory node types stage.ready is) in
      ((λ yes. bit ∙ yes), (λ no. bit ∙ no))) once)

  -- or the other one
  opposite_of :
      (condition inner : ExpressionNumber) (bound : ℕ) (tree inside : TypedExpression) (f : ℕ → ℕ)
      → IsExpression (nodes_in context) context.storage bound inner.index inside
      → TypesHold context.typed context.within inside
      → 2 * height_of inside ≤ need
      → ((t : SourceState) → value_in context tree t
      ≡ then_do (value_in context inside t) (λ v u. Gave (f v) u))
      → ((v : ℕ) → v < values_of (type_of inside) → is_true (f v) ≡ not (is_true v))
      → (jumps_once tree ≡ true → jumps_once inside ≡ true)
      → StepsStand context (PartDoes context) facts from
      (shape_steps (knowing context.site facts) (Opposite inner) condition branch label) last to
      → Stage context top branch.pushed need base s facts r memory
      → Jumps tree
  opposite_of condition inner bound tree inside f node types fewer means bits once stand stage =
      does_same _ (means s)
      (part_jumps (not branch.sense) from to inner tree branch.sense f (only_part stand)
      node types fewer stage
      (λ v u is.
      let bit =
      bits v (asked.values_fit inner bound top v inside base s u r memory node types stage.ready is) in (
        (λ yes. bit ∙ (ap not yes ∙ not-not branch.sense)),
        (λ no. bit ∙ (ap not no ∙ not-not (not branch.sense))),
      )) once)

  -- AND or OR with a number
  with_number_jumps :
      (condition operand : ExpressionNumber) (bound n : ℕ) (tree inside : TypedExpression)
      (deciding : Bool) (f : ℕ → ℕ)
      → IsExpression (nodes_in context) context.storage bound operand.index inside
      → TypesHold context.typed context.within inside
      → 2 * height_of inside ≤ need
      → jumps_once tree ≡ false
      → ((t : SourceState) → value_in context tree t
      ≡ then_do (value_in context inside t) (λ v u. Gave (f v) u))
      → ((v : ℕ) → is_true n ≡ deciding → is_true (f v) ≡ deciding)
      → ((v : ℕ) → is_true n ≡ not deciding → is_true (f v) ≡ is_true v)
      → StepsStand context (PartDoes context) facts from
      (shape_steps (knowing context.site facts)
      (Rattle.operands8080.specs.internal.Branches.shape_with_number operand n deciding) condition
      branch label) last to
      → Stage context top branch.pushed need base s facts r memory
      → Jumps tree
  with_number_jumps condition operand bound n tree inside deciding f node types fewer many means
      decides keeps stand stage =
      by (agree (is_odd n) deciding) refl stand
    where
      by : (same : Bool) → agree (is_odd n) deciding ≡ same
          → StepsStand context (PartDoes context) facts from
          (shape_steps (knowing context.site facts)
          (if same then Whatever operand deciding else SameAs operand) condition branch label) last to
          → Jumps tree
      by true same (PartThere does stands) =
          does_same _ (means s)
          (at_effects _ _ _ does node types fewer stage
          (λ v u now memory_now is next.
          jumps_known branch deciding (f v) sound
          (decides v (agreeing (is_odd n) deciding same)) stands next))
      by false same stands =
          same_as condition operand bound tree inside f node types fewer means
          (λ v small. keeps v (disagreeing (is_odd n) deciding same))
          (λ single. absurd (false≢true (sym many ∙ single))) stands stage

  -- AND or OR
  junction_jumps :
      (condition left right : ExpressionNumber) (bound whole_bound : ℕ) (tree first second : TypedExpression)
      (deciding : Bool) (f : ℕ → ℕ → ℕ)
      → IsExpression (nodes_in context) context.storage bound left.index first
      → TypesHold context.typed context.within first
      → IsExpression (nodes_in context) context.storage bound right.index second
      → TypesHold context.typed context.within second
      → IsExpression (nodes_in context) context.storage whole_bound condition.index tree
      → TypesHold context.typed context.within tree
      → 2 * height_of tree ≤ need
      → 2 * height_of first ≤ need
      → 2 * height_of second ≤ need
      → jumps_once tree ≡ false
      → ((t : SourceState) → value_in context tree t
      ≡ in_order (value_in context first) (value_in context second) (λ v w u. Gave (f v w) u) t)
      → ((v w : ℕ) → is_true v ≡ deciding → is_true (f v w) ≡ deciding)
      → ((v w : ℕ) → is_true v ≡ not deciding → is_true (f v w) ≡ is_true w)
      → ((v w : ℕ) → is_true w ≡ deciding → is_true (f v w) ≡ deciding)
      → ((v w : ℕ) → is_true w ≡ not deciding → is_true (f v w) ≡ is_true v)
      → StepsStand context (PartDoes context) facts from
      (shape_steps (knowing context.site facts)
      (Rattle.operands8080.specs.internal.Branches.shape_of_junction (knowing context.site facts)
      (record { deciding = deciding; left = left; right = right }))
      condition branch label) last to
      → Stage context top branch.pushed need base s facts r memory
      → Jumps tree
  junction_jumps condition left right bound whole_bound tree first second deciding f one types two other_types
      node hold whole fewer less many means left_decides left_keeps right_decides right_keeps stand stage =
      by (number (knowing context.site facts) right) refl (number (knowing context.site facts) left) refl
      (is_quiet (knowing context.site facts) right) refl stand
    where
      second_known : (outcome : Outcome ℕ) (n : ℕ)
          → ((u : SourceState) → value_in context second u ≡ Gave n u)
          → then_do outcome (λ v u. then_do (value_in context second u) (λ w x. Gave (f v w) x))
          ≡ then_do outcome (λ v u. Gave (f v n) u)
      second_known (Gave v u) n so = ap (λ (given : Outcome ℕ). then_do given (λ w x. Gave (f v w) x)) (so u)
      second_known (Rattle.meaning.specs.Outcomes.Stopped why u) n so = refl

      by : (right_number : Option ℕ) → number (knowing context.site facts) right ≡ right_number
          → (left_number : Option ℕ) → number (knowing context.site facts) left ≡ left_number
          → (quiet : Bool) → is_quiet (knowing context.site facts) right ≡ quiet
          → StepsStand context (PartDoes context) facts from
          (shape_steps (knowing context.site facts)
          (elim right_number [
            | Some value ↦ Rattle.operands8080.specs.internal.Branches.shape_with_number left value deciding
            | None ↦ elim left_number [
              | Some value ↦ Rattle.operands8080.specs.internal.Branches.shape_with_number
                  right value deciding
              | None ↦ if quiet then Joined
                  (record { deciding = deciding; left = left; right = right }) else Other
            ]
          ]) condition branch label) last to
          → Jumps tree
      by (Some n) is left_number left_is quiet quiet_is stands =
          with_number_jumps condition left bound n tree first deciding (λ v. f v n) one types fewer many
          (λ t. means t ∙ second_known (value_in context first t) n
          (λ u. number_means facts n sound two other_types is u))
          (λ v bit. right_decides v n bit) (λ v bit. right_keeps v n bit) stands stage
      by None is (Some n) left_is quiet quiet_is stands =
          with_number_jumps condition right bound n tree second deciding (λ w. f n w) two
          other_types less many
          (λ t. means t ∙ ap (λ (given : Outcome ℕ). then_do given
          (λ v u. then_do (value_in context second u) (λ w x. Gave (f v w) x)))
          (number_means facts n sound one types left_is t))
          (λ w bit. left_decides n w bit) (λ w bit. left_keeps n w bit) stands stage
      by None is None left_is true quiet_is stands =
          does_same _ (means s)
          (joined_jumps tree deciding branch label f one types two other_types
          (quiet_means facts sound two quiet_is) fewer less
          many left_decides left_keeps stands stage)
      by None is None left_is false quiet_is stands =
          others_jump condition whole_bound tree node hold whole stands stage

  -- a condition of a form
  form_jumps :
      (condition : ExpressionNumber) (whole_bound bound : ℕ) (tree : TypedExpression) (form : ExpressionForm)
      → IsExpression (nodes_in context) context.storage whole_bound condition.index tree
      → TypesHold context.typed context.within tree
      → 2 * height_of tree ≤ need
      → IsForm (nodes_in context) context.storage bound form tree
      → StepsStand context (PartDoes context) facts from
      (shape_steps (knowing context.site facts) (shape_of_form (knowing context.site facts) form) condition
      branch label) last to
      → Stage context top branch.pushed need base s facts r memory
      → Jumps tree
  form_jumps condition whole_bound bound tree _ node types fewer
      (IsConversion {inner = inner} {scalar = scalar} {tree = inside} part) stand stage =
      same_as condition inner bound tree inside (λ v. as_type scalar v) part types fewer (λ t. refl)
      (λ v small. type_keeps_bit scalar v) (λ single. single) stand stage
  form_jumps condition whole_bound bound tree _ node types fewer
      (IsFunction {function = function} {operand = operand} {tree = inside} part) stand stage =
      by_byte
      (λ (shape : Shape). StepsStand context (PartDoes context) facts from
      (shape_steps (knowing context.site facts) shape condition branch label) last to → Jumps tree)
      (byte_taken function) (SameAs operand) Other
      (λ low stands. same_as condition operand bound tree inside (λ v. function_of function v) part types
      (omega (arith, fewer)) (λ t. refl)
      (λ v small. sym (low_keeps_bit (function_of function v))
      ∙ ap is_true (low_byte_kept function low v) ∙ low_keeps_bit v)
      (λ is. absurd (false≢true is)) stands stage)
      (λ _ stands. others_jump condition whole_bound tree node types fewer stands stage)
      stand
  form_jumps condition whole_bound bound tree _ node types fewer
      (IsUnary {scalar = scalar} {operator = Not} {operand = operand} {tree = inside} part) stand stage =
      opposite_of condition operand bound tree inside (λ v. result_of_one scalar Not v) part types.0
      (omega (arith, fewer)) (λ t. refl)
      (λ v small. complement_turns_bit scalar v (subst (λ given. v < values_of given) types.1 small))
      (λ single. single) stand stage
  form_jumps condition whole_bound bound tree _ node types fewer
      (IsUnary {scalar = scalar} {operator = Negate} {operand = operand} {tree = inside} part) stand stage =
      same_as condition operand bound tree inside (λ v. result_of_one scalar Negate v) part types.0
      (omega (arith, fewer)) (λ t. refl)
      (λ v small. negation_keeps_bit scalar v (subst (λ given. v < values_of given) types.1 small))
      (λ is. absurd (false≢true is)) stand stage
  form_jumps condition whole_bound bound tree _ node types fewer
      (IsBinary {operator = operators.And} {left = left} {right = right} {first = first} {second = second}
      one two) stand stage =
      junction_jumps condition left right bound whole_bound tree first second false (λ v w. bit_and v w) one
      types.1.0 two types.2.0
      node types fewer (omega (arith, fewer)) (omega (arith, fewer)) refl (λ t. refl)
      and_with_zero and_with_one
      (λ v w is. ap is_true (and_comm v w) ∙ and_with_zero w v is)
      (λ v w is. ap is_true (and_comm v w) ∙ and_with_one w v is)
      stand stage
  form_jumps condition whole_bound bound tree _ node types fewer
      (IsBinary {operator = operators.Or} {left = left} {right = right} {first = first} {second = second}
      one two) stand stage =
      junction_jumps condition left right bound whole_bound tree first second true (λ v w. bit_or v w) one
      types.1.0 two types.2.0
      node types fewer (omega (arith, fewer)) (omega (arith, fewer)) refl (λ t. refl)
      or_with_one or_with_zero
      (λ v w is. ap is_true (or_comm v w) ∙ or_with_one w v is)
      (λ v w is. ap is_true (or_comm v w) ∙ or_with_zero w v is)
      stand stage
  form_jumps condition whole_bound bound tree _ node types fewer
      (IsBinary {operator = operators.Xor} one two) stand stage =
      others_jump condition whole_bound tree node types fewer stand stage
  form_jumps condition whole_bound bound tree _ node types fewer
      (IsBinary {operator = operators.Equal} one two) stand stage =
      others_jump condition whole_bound tree node types fewer stand stage
  form_jumps condition whole_bound bound tree _ node types fewer
      (IsBinary {operator = operators.Less} one two) stand stage =
      others_jump condition whole_bound tree node types fewer stand stage
  form_jumps condition whole_bound bound tree _ node types fewer
      (IsBinary {operator = operators.Greater} one two) stand stage =
      others_jump condition whole_bound tree node types fewer stand stage
  form_jumps condition whole_bound bound tree _ node types fewer
      (IsBinary {operator = operators.LessOrEqual} one two) stand stage =
      others_jump condition whole_bound tree node types fewer stand stage
  form_jumps condition whole_bound bound tree _ node types fewer
      (IsBinary {operator = operators.GreaterOrEqual} one two) stand stage =
      others_jump condition whole_bound tree node types fewer stand stage
  form_jumps condition whole_bound bound tree _ node types fewer
      (IsBinary {operator = operators.Unequal} one two) stand stage =
      others_jump condition whole_bound tree node types fewer stand stage
  form_jumps condition whole_bound bound tree _ node types fewer
      (IsBinary {operator = operators.Add} one two) stand stage =
      others_jump condition whole_bound tree node types fewer stand stage
  form_jumps condition whole_bound bound tree _ node types fewer
      (IsBinary {operator = operators.Subtract} one two) stand stage =
      others_jump condition whole_bound tree node types fewer stand stage
  form_jumps condition whole_bound bound tree _ node types fewer
      (IsBinary {operator = operators.Multiply} one two) stand stage =
      others_jump condition whole_bound tree node types fewer stand stage
  form_jumps condition whole_bound bound tree _ node types fewer
      (IsBinary {operator = operators.Divide} one two) stand stage =
      others_jump condition whole_bound tree node types fewer stand stage
  form_jumps condition whole_bound bound tree _ node types fewer
      (IsBinary {operator = operators.Modulo} one two) stand stage =
      others_jump condition whole_bound tree node types fewer stand stage
  form_jumps condition whole_bound bound tree _ node types fewer IsNumber stand stage =
      others_jump condition whole_bound tree node types fewer stand stage
  form_jumps condition whole_bound bound tree _ node types fewer (IsValue part) stand stage =
      others_jump condition whole_bound tree node types fewer stand stage
  form_jumps condition whole_bound bound tree _ node types fewer (IsLocation part) stand stage =
      others_jump condition whole_bound tree node types fewer stand stage
  form_jumps condition whole_bound bound tree _ node types fewer IsConstantList stand stage =
      others_jump condition whole_bound tree node types fewer stand stage
  form_jumps condition whole_bound bound tree _ node types fewer (IsEmbedded target part) stand stage =
      others_jump condition whole_bound tree node types fewer stand stage
  form_jumps condition whole_bound bound tree _ node types fewer (IsCallOf given) stand stage =
      others_jump condition whole_bound tree node types fewer stand stage
  form_jumps condition whole_bound bound tree _ node types fewer (IsShift part by) stand stage =
      others_jump condition whole_bound tree node types fewer stand stage
  form_jumps condition whole_bound bound tree _ node types fewer IsInput stand stage =
      others_jump condition whole_bound tree node types fewer stand stage

-- the law of jumps where a condition holds
pub branch_law :
    {context : Context} {facts last : Facts} {from to pushed : ℕ} {condition : ExpressionNumber}
    {label : LabelNumber} {sense : Bool} (first : ℕ)
    → BytesAsked context
    → IsSound context
    → StepsStand context (PartDoes context) facts from
    (branch_steps (knowing context.site facts) condition label sense pushed first) last to
    → BranchDoes context facts condition label sense pushed from last to
unfolding shape_of
branch_law {context = context} {facts = facts} {last = last} {from = from} {to = to} {pushed = pushed}
    {condition = condition} {label = label} {sense = sense} first asked sound stand bound tree node types top
    base s r memory below room ready known =
    by (number (knowing context.site facts) condition) refl stand
  where
    branch : Branch
    branch = record { label = label; sense = sense; pushed = pushed }

    stage : Stage context top pushed (2 * height_of tree) base s facts r memory
    stage = record { below = below; room = room; ready = ready; known = known }

    by_expression :
        (found : Option Expression) → expression (knowing context.site facts) condition ≡ found
        → StepsStand context (PartDoes context) facts from
        (shape_steps (knowing context.site facts)
        (elim found [ Some one ↦ shape_of_form (knowing context.site facts) one.form | None ↦ Other ])
        condition branch first) last to
        → Does (loaded_in context) s.budget 0 (at_place from r memory s.events) (value_in context tree s)
        (Parts context last tree label sense top base to)
    by_expression None is stands =
        absurd (none-some _ (sym is ∙ (node_of sound node).at_site facts))
    by_expression (Some one) is stands =
        let here = node_of sound node in
        let same : one ≡ here.found = same_Some one here.found (sym is ∙ here.at_site facts) in
        form_jumps context top (2 * height_of tree) base s facts last r memory from to
        branch first asked sound
        condition bound condition.index tree one.form node types (omega arith)
        (subst (λ (given : Expression). IsForm (nodes_in context) context.storage condition.index given.form
        tree) (sym same) here.form)
        stands stage

    by : (found : Option ℕ) → number (knowing context.site facts) condition ≡ found
        → StepsStand context (PartDoes context) facts from
        (shape_steps (knowing context.site facts)
        (elim found [
          | Some value ↦ Known (is_odd value)
          | None ↦ elim (expression (knowing context.site facts) condition) [
            | Some one ↦ shape_of_form (knowing context.site facts) one.form
            | None ↦ Other
          ]
        ]) condition branch first) last to
        → Does (loaded_in context) s.budget 0 (at_place from r memory s.events) (value_in context tree s)
        (Parts context last tree label sense top base to)
    by (Some n) is stands =
        does_same (Gave n s) (number_means facts n sound node types is s)
        (jumps_known branch (is_odd n) n sound refl stands stage)
    by None is stands = by_expression (expression (knowing context.site facts) condition) refl stands
