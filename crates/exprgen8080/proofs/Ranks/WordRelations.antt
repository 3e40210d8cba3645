-- Relations of ADDRESSes.
use Rattle.exprgen8080.proofs.Prelude.{◌≡◌, ◌/◌, ◌%◌, ◌==◌, ◌&&◌, ◌||◌, ◌∷◌, ◌++◌, [], if◌then◌else◌, A, Apart, Below, Bool, Comparison, Equal, Expression, ExpressionForm, ExpressionNumber, Hl, IfSome, Inx, Is, LeftBelow, Never, None, NumberQuestion, Option, Place, Question, Reference, RightBelow, Setting, Site, Some, TreeModule, WordRegisters, apart_of, direct, expression, false, direct_word, fits_byte, high_byte_in_memory, high_steps, in_hl, is_word_in_hl, left_apart, load, load_a_steps, low_steps, masked, masked_form, masked_steps, may_exchange, nat_lt, negated, number_in_a_steps, operand_apart, other_word, pair_order, place_apart, refl, right_apart, taken_steps, true, with_place_steps, word_below_steps, word_is_steps, word_is_zero_steps, word_number_steps, word_question_steps, word_relation_steps, word_taken_from, words_steps, ℕ}
use Rattle.trees.specs.declared.declaration.ScalarType.TheVariants as scalars
use Rattle.trees.specs.declared.expression.BinaryOperator.TheVariants as operators
use Rattle.treecode.specs.declared.expression.ExpressionForm.TheVariants as forms
use Rattle.steps8080.specs.internal.Queries as queries
use Rattle.steps8080.specs.declared.step.Step.TheVariants as steps
use Rattle.steps8080.specs.declared.step.Task.TheVariants as tasks
use Rattle.steps8080.specs.internal.Step.{part}
use Rattle.operands8080.specs.internal.WordRelations.{difference_steps, high_byte_steps, with_pair_steps}
use Rattle.steps8080.proofs.SiteNames.{IsOwn, after_is_own, direct_is_own, direct_word_is_own}
use Rattle.exprgen8080.proofs.Ranks.{Joining.{Falls, IsPlaced, IsUnder, after_part, after_plain, by_finding, by_test, falls, joined, of_found, repeated, weak}, Trees.{HasParts, has_parts}, Found.{high_is_in_memory}, Pairs.{pair_fall}, ByteRelations.{byte_number_fall, byte_relation_fall, number_in_a_fall}}

-- the high byte of an ADDRESS
high_byte_fall :
    {site : Site} {limit : ℕ} (operand : ExpressionNumber) (pushed : ℕ)
    → IsUnder site.tree.now limit operand
    → Falls site limit (high_byte_steps site operand pushed)
unfolding high_byte_steps
high_byte_fall {site = site} {limit = limit} operand pushed is =
    by_finding (high_byte_in_memory site operand)
    (λ reference there.
    by_test (is_word_in_hl site operand) (falls (is, tt))
    (in_memory reference (of_found (IsPlaced site.tree.now limit)
    (high_is_in_memory site limit operand is) there)))
    (λ none. falls (is, tt))
  where
    in_memory : (reference : Reference) → IsPlaced site.tree.now limit reference
        → Falls site limit (elim (direct site reference) [
          | Some place ↦ load_a_steps place
          | None ↦ part (tasks.Address reference) pushed ∷ steps.Plain (load A) ∷ []
        ])
    in_memory reference has =
        by_finding (direct site reference)
        (λ place is_there. falls (of_found (IsOwn site.tree.now) (direct_is_own site reference) is_there, tt))
        (λ none. falls (has, tt))

difference_fall :
    {site : Site} {limit : ℕ} (number : ℕ)
    → Falls site limit (difference_steps number)
difference_fall number =
    by_test (nat_lt (negated number) 4) (repeated (Inx Hl) (negated number)) (falls tt)

word_is_fall :
    {site : Site} {limit : ℕ} (number : ℕ)
    → Falls site limit (word_is_steps number)
word_is_fall number =
    by_test (number == 0) (falls tt)
    (by_test (nat_lt number 256) (falls tt)
    (joined (difference_fall number) (falls tt)))

masked_fall :
    {site : Site} {limit : ℕ} (operand : ExpressionNumber)
    (mask pushed : ℕ)
    → IsUnder site.tree.now limit operand
    → Falls site limit (masked_steps site operand mask pushed)
masked_fall {site = site} operand mask pushed is =
    by_test (nat_lt mask 256) (falls (is, tt))
    (joined (high_byte_fall operand pushed is) (falls tt))

-- the operand of AND with a number
abbrev IsMasked : (tree : TreeModule) → (limit : ℕ) → ExpressionNumber × ℕ → Type 0
IsMasked tree limit found = IsUnder tree limit found.0

masked_form_is :
    (site : Site) (limit : ℕ) (form : ExpressionForm)
    → HasParts site.tree.now limit form
    → IfSome (masked_form site form) (IsMasked site.tree.now limit)
masked_form_is site limit (forms.Binary scalars.Address operators.And left right) has =
    by (queries.number site right) (queries.number site left)
  where
    by : (first second : Option ℕ)
        → IfSome (elim first [
          | Some mask ↦ Some (left, mask)
          | None ↦ elim second [
            | Some mask ↦ Some (right, mask)
            | None ↦ None
          ]
        ]) (IsMasked site.tree.now limit)
    by (Some mask) second = has.0
    by None (Some mask) = has.1
    by None None = tt
masked_form_is site limit form has = tt

masked_is :
    (site : Site) (limit : ℕ) (operand : ExpressionNumber)
    → IsUnder site.tree.now limit operand
    → IfSome (masked site operand) (IsMasked site.tree.now limit)
unfolding masked
masked_is site limit operand is = by (expression site operand) refl
  where
    by : (found : Option Expression) → expression site operand ≡ found
        → IfSome (elim found [ Some one ↦ masked_form site one.form | None ↦ None ])
        (IsMasked site.tree.now limit)
    by (Some one) there = masked_form_is site limit one.form (has_parts site (weak is) there)
    by None there = tt

word_is_zero_fall :
    {site : Site} {limit : ℕ} (operand : ExpressionNumber)
    (setting : Setting)
    → IsUnder site.tree.now limit operand
    → Falls site limit (word_is_zero_steps site operand setting)
unfolding word_is_zero_steps
word_is_zero_fall {site = site} {limit = limit} operand setting is =
    by_finding (masked site operand)
    (λ found there. by_test (nat_lt found.1 256 || found.1 % 256 == 0)
    (inner found (of_found (IsMasked site.tree.now limit) (masked_is site limit operand is) there))
    (after_part is (word_is_fall 0)))
    (λ none. after_part is (falls tt))
  where
    inner : (found : ExpressionNumber × ℕ) → IsMasked site.tree.now limit found
        → Falls site limit (masked_steps site found.0 found.1 setting.pushed
        ++ number_in_a_steps (Is 0) setting)
    inner found has =
        joined (masked_fall found.0 found.1 setting.pushed has) (number_in_a_fall (Is 0) setting)

word_below_fall :
    {site : Site} {limit : ℕ} (operand : ExpressionNumber) (number : ℕ)
    (setting : Setting)
    → IsUnder site.tree.now limit operand
    → Falls site limit (word_below_steps site operand number setting)
word_below_fall {site = site} operand number setting is =
    by_test (number % 256 == 0)
    (joined (high_byte_fall operand setting.pushed is) (number_in_a_fall (Below (number / 256)) setting))
    (falls (is, tt))

word_question_fall :
    {site : Site} {limit : ℕ} (operand : ExpressionNumber)
    (question : NumberQuestion) (setting : Setting)
    → IsUnder site.tree.now limit operand
    → Falls site limit (word_question_steps site operand question setting)
word_question_fall operand Never setting is = falls (is, tt)
word_question_fall operand (Below number) setting is =
    by_test (number == 1) (word_is_zero_fall operand setting is) (word_below_fall operand number setting is)
word_question_fall operand (Is number) setting is =
    by_test (number == 0) (word_is_zero_fall operand setting is)
    (after_part is (word_is_fall number))

pub word_number_fall :
    {site : Site} {limit : ℕ} (operand : ExpressionNumber)
    (question : NumberQuestion) (setting : Setting)
    → IsUnder site.tree.now limit operand
    → Falls site limit (word_number_steps site operand question setting)
word_number_fall {site = site} operand question setting is =
    by_test (fits_byte site operand)
    (byte_number_fall operand question setting is)
    (word_question_fall operand question setting is)

-- the operand that does not stay in memory, and the place of the other one
abbrev pub IsOther : (tree : TreeModule) → (limit : ℕ) → Apart → Type 0
IsOther tree limit apart = IsUnder tree limit apart.other × IsOwn tree apart.place

apart_is :
    (tree : TreeModule) (limit : ℕ) (found : Option Place) (other : ExpressionNumber)
    → IsUnder tree limit other
    → IfSome found (IsOwn tree)
    → IfSome (apart_of found other) (IsOther tree limit)
apart_is tree limit (Some place) other is own = (is, own)
apart_is tree limit None other is own = tt

place_apart_is_own : (site : Site) (operand : ExpressionNumber)
    → IfSome (place_apart site operand) (IsOwn site.tree.now)
place_apart_is_own site operand = by (is_word_in_hl site operand)
  where
    by : (b : Bool) → IfSome (if b then None else direct_word site operand) (IsOwn site.tree.now)
    by true = tt
    by false = direct_word_is_own site operand

pub operand_apart_is :
    (site : Site) (limit : ℕ) (comparison : Comparison)
    → IsUnder site.tree.now limit comparison.left → IsUnder site.tree.now limit comparison.right
    → IfSome (operand_apart site comparison)
    (IsOther site.tree.now limit)
unfolding operand_apart
operand_apart_is site limit comparison one two = by comparison.question
  where
    on_right : IfSome (right_apart site comparison)
        (IsOther site.tree.now limit)
    on_right =
        apart_is site.tree.now limit
        (place_apart site comparison.right) comparison.left one (place_apart_is_own site comparison.right)

    allowed : (b : Bool)
        → IfSome (if b then apart_of (place_apart site comparison.left) comparison.right else None)
        (IsOther site.tree.now limit)
    allowed true =
        apart_is site.tree.now limit
        (place_apart site comparison.left) comparison.right two (place_apart_is_own site comparison.left)
    allowed false = tt

    either : (found : Option Apart)
        → IfSome found (IsOther site.tree.now limit)
        → IfSome (elim found [ Some one ↦ Some one | None ↦ left_apart site comparison ])
        (IsOther site.tree.now limit)
    either (Some one) has = has
    either None has = allowed (may_exchange site comparison.left comparison.right)

    by : (question : Question)
        → IfSome (elim question [
          | LeftBelow ↦ left_apart site comparison
          | RightBelow ↦ right_apart site comparison
          | Equal ↦ elim (right_apart site comparison) [
            | Some found ↦ Some found
            | None ↦ left_apart site comparison
          ]
        ]) (IsOther site.tree.now limit)
    by LeftBelow = allowed (may_exchange site comparison.left comparison.right)
    by RightBelow = on_right
    by Equal = either (right_apart site comparison) on_right

low_fall :
    {site : Site} {limit : ℕ} (word : WordRegisters) (question : Question)
    → Falls site limit (low_steps word question)
low_fall word LeftBelow = falls tt
low_fall word RightBelow = falls tt
low_fall word Equal = falls tt

high_fall :
    {site : Site} {limit : ℕ} (word : WordRegisters) (question : Question)
    → Falls site limit (high_steps word question)
high_fall word LeftBelow = falls tt
high_fall word RightBelow = falls tt
high_fall word Equal = falls tt

with_place_fall :
    {site : Site} {limit : ℕ} (apart : Apart) (question : Question)
    (pushed : ℕ)
    → IsUnder site.tree.now limit apart.other
    → IsOwn site.tree.now apart.place
    → Falls site limit (with_place_steps apart question pushed)
with_place_fall {site = site} {limit = limit} apart question pushed is own =
    let begun : Falls site limit (part (tasks.Word apart.other) pushed ∷ load_a_steps apart.place) =
    falls (is, (own, tt)) in
    joined (joined (joined begun (low_fall in_hl question)) (falls (after_is_own 1 own, tt))) (high_fall in_hl question)

taken_fall :
    {site : Site} {limit : ℕ} (from taken : WordRegisters)
    (question : Question)
    → Falls site limit (taken_steps from taken question)
taken_fall from taken question =
    after_plain (joined (low_fall taken question) (after_plain (high_fall taken question)))

with_pair_fall :
    {site : Site} {limit : ℕ} (comparison : Comparison) (pushed : ℕ)
    → IsUnder site.tree.now limit comparison.left → IsUnder site.tree.now limit comparison.right
    → Falls site limit (with_pair_steps site comparison pushed)
with_pair_fall {site = site} comparison pushed one two =
    joined (pair_fall comparison.left comparison.right false pushed one two) (taken_fall
    (word_taken_from comparison.question (pair_order site comparison.left comparison.right false))
    (other_word (word_taken_from comparison.question
    (pair_order site comparison.left comparison.right false)))
    comparison.question)

-- two ADDRESSes that are compared
pub word_relation_fall :
    {site : Site} {limit : ℕ} (comparison : Comparison) (setting : Setting)
    → IsUnder site.tree.now limit comparison.left → IsUnder site.tree.now limit comparison.right
    → Falls site limit (word_relation_steps site comparison setting)
word_relation_fall {site = site} {limit = limit} comparison setting one two =
    by_test (fits_byte site comparison.left && fits_byte site comparison.right)
    (byte_relation_fall comparison setting one two)
    (by_finding (operand_apart site comparison)
    (λ apart there. beside_place apart
    (of_found (IsOther site.tree.now limit)
    (operand_apart_is site limit comparison one two) there))
    (λ none. with_pair_fall comparison setting.pushed one two))
  where
    beside_place : (apart : Apart)
        → IsOther site.tree.now limit apart
        → Falls site limit (with_place_steps apart comparison.question setting.pushed)
    beside_place apart is =
        with_place_fall apart comparison.question setting.pushed is.0 is.1

-- two ADDRESSes that are put into places where they can be compared
pub words_fall :
    {site : Site} {limit : ℕ} (comparison : Comparison) (pushed : ℕ)
    → IsUnder site.tree.now limit comparison.left → IsUnder site.tree.now limit comparison.right
    → Falls site limit (words_steps site comparison pushed)
words_fall {site = site} {limit = limit} comparison pushed one two =
    by_finding (operand_apart site comparison)
    (λ apart there. other apart
    (of_found (IsOther site.tree.now limit)
    (operand_apart_is site limit comparison one two) there))
    (λ none. (pair_fall comparison.left comparison.right false pushed one two))
  where
    other : (apart : Apart)
        → IsOther site.tree.now limit apart
        → Falls site limit (part (tasks.Word apart.other) pushed ∷ [])
    other apart is = falls (is.0, tt)
