-- Relations of BYTEs.
use Rattle.exprgen8080.proofs.Prelude.{◌==◌, ◌&&◌, ◌∷◌, [], if◌then◌else◌, A, AccumulateImmediate, Below, Bool, Branch, Compare, Comparison, Dcr, Equal, ExpressionNumber, Form, IfSome, Inr, Is, LeftBelow, Never, None, NumberQuestion, Of, Option, Purpose, Question, Reference, RightBelow, Setting, Sides, Site, Some, Subtract, Value, WithE, WithMemory, better_form, byte_is_steps, byte_relation_steps, comparing, exchanged, false, form_of_equality, form_or_push, in_order, is_better_exchanged, is_byte_in_register, is_free, is_some, is_zero_steps, known_answer, left_back_steps, may_begin_with, memory_form, nat_lt, not, number_in_a_steps, operand_in_memory, pushed_steps, register_form, true, without_push, ℕ}
use Rattle.steps8080.specs.declared.step.Step.TheVariants as steps
use Rattle.operands8080.specs.{declared.byte_relations.Form.TheVariants.{Pushed}, internal.ByteRelations.{byte_number_steps, form_of, with_e_steps, with_memory_steps}}
use Rattle.exprgen8080.proofs.Ranks.{Joining.{Falls, IsPlaced, IsUnder, after_part, after_plain, by_finding, by_test, falls, joined}, Found.{operand_is_in_memory}}

byte_is_fall :
    {site : Site} {limit : ℕ} (number : ℕ)
    (setting : Setting) → Falls site limit (byte_is_steps number setting)
byte_is_fall number setting = by setting.purpose
  where
    by : {site : Site} {limit : ℕ} (purpose : Purpose)
        → Falls site limit (elim purpose [
          | Branch ↦ steps.Plain (AccumulateImmediate Compare number) ∷ []
          | Value ↦
              if number == 1 then steps.Plain (Dcr (Of A)) ∷ []
              else if number == 255 then steps.Plain (Inr (Of A)) ∷ []
              else steps.Plain (AccumulateImmediate Subtract number) ∷ []
        ])
    by Branch = falls tt
    by Value =
        by_test (number == 1) (falls tt)
        (by_test (number == 255) (falls tt) (falls tt))

is_zero_fall :
    {site : Site} {limit : ℕ} (setting : Setting)
    → Falls site limit (is_zero_steps setting)
is_zero_fall setting = by setting.purpose
  where
    by : {site : Site} {limit : ℕ} (purpose : Purpose)
        → Falls site limit (elim purpose [ Branch ↦ steps.TestA ∷ [] | Value ↦ [] ])
    by Branch = falls tt
    by Value = falls tt

pub number_in_a_fall :
    {site : Site} {limit : ℕ} (question : NumberQuestion)
    (setting : Setting)
    → Falls site limit (number_in_a_steps question setting)
number_in_a_fall Never setting = falls tt
number_in_a_fall (Below number) setting =
    by_test (number == 1) (is_zero_fall setting)
    (by_test (nat_lt number 256) (falls tt) (falls tt))
number_in_a_fall (Is number) setting =
    by_test (number == 0) (is_zero_fall setting)
    (by_test (nat_lt number 256) (byte_is_fall number setting) (falls tt))

pub byte_number_fall :
    {site : Site} {limit : ℕ} (operand : ExpressionNumber)
    (question : NumberQuestion) (setting : Setting)
    → IsUnder site.tree.now limit operand
    → Falls site limit (byte_number_steps operand question setting)
byte_number_fall operand question setting is =
    by_finding (known_answer question)
    (λ answer known. falls (is, tt))
    (λ none. after_part is (number_in_a_fall question setting))

-- two operands that are compared
pub record AreSides (site : Site) (limit : ℕ) (sides : Sides) : Type 0 where
  pub one : IsUnder site.tree.now limit sides.first
  pub two : IsUnder site.tree.now limit sides.second

abbrev IsForm : (site : Site) → (limit : ℕ) → Form → Type 0
IsForm site limit (WithMemory sides reference) =
    AreSides site limit sides × IsPlaced site.tree.now limit reference
IsForm site limit (WithE sides) = AreSides site limit sides
IsForm site limit Pushed = Unit {0}

memory_form_is :
    (site : Site) (limit : ℕ) (comparison : Comparison) (sides : Sides)
    → AreSides site limit sides
    → IfSome (memory_form site comparison sides) (IsForm site limit)
memory_form_is site limit comparison sides are =
    by (operand_in_memory site sides.second) (operand_is_in_memory site limit sides.second are.two)
  where
    chosen : (b : Bool) (reference : Reference) → IsPlaced site.tree.now limit reference
        → IfSome (if b then Some (WithMemory sides reference) else None) (IsForm site limit)
    chosen true reference has = (are, has)
    chosen false reference has = tt

    by : (found : Option Reference) → IfSome found (IsPlaced site.tree.now limit)
        → IfSome (elim found [
          | Some reference ↦
              if may_begin_with site comparison sides.is_in_order then Some
              (WithMemory sides reference) else None
          | None ↦ None
        ]) (IsForm site limit)
    by (Some reference) has = chosen (may_begin_with site comparison sides.is_in_order) reference has
    by None has = tt

register_form_is :
    (site : Site) (limit : ℕ) (comparison : Comparison) (sides : Sides)
    → AreSides site limit sides
    → IfSome (register_form site comparison sides) (IsForm site limit)
register_form_is site limit comparison sides are =
    by (is_free site sides.first && may_begin_with site comparison (not sides.is_in_order))
  where
    by : (b : Bool) → IfSome (if b then Some (WithE sides) else None) (IsForm site limit)
    by true = are
    by false = tt

without_push_is :
    (site : Site) (limit : ℕ) (comparison : Comparison) (sides : Sides)
    → AreSides site limit sides
    → IfSome (without_push site comparison sides) (IsForm site limit)
unfolding without_push
without_push_is site limit comparison sides are =
    by (is_some (register_form site comparison sides) && is_byte_in_register site sides.second)
  where
    either : (found : Option Form) → IfSome found (IsForm site limit)
        → IfSome (elim found [ Some form ↦ Some form | None ↦ register_form site comparison sides ])
        (IsForm site limit)
    either (Some form) has = has
    either None has = register_form_is site limit comparison sides are

    by : (b : Bool)
        → IfSome
        (if b then register_form site comparison sides
        else elim (memory_form site comparison sides) [
          | Some form ↦ Some form
          | None ↦ register_form site comparison sides
        ])
        (IsForm site limit)
    by true = register_form_is site limit comparison sides are
    by false = either (memory_form site comparison sides) (memory_form_is site limit comparison sides are)

better_is :
    (site : Site) (limit : ℕ) (one other : Option Form) (is_other_better : Bool)
    → IfSome one (IsForm site limit) → IfSome other (IsForm site limit)
    → IsForm site limit (better_form one other is_other_better)
better_is site limit (Some form) (Some other) true first second = second
better_is site limit (Some (WithE sides)) (Some (WithMemory others reference)) false first second = second
better_is site limit (Some (WithE sides)) (Some (WithE others)) false first second = first
better_is site limit (Some (WithE sides)) (Some Pushed) false first second = first
better_is site limit (Some (WithMemory sides reference)) (Some other) false first second = first
better_is site limit (Some Pushed) (Some other) false first second = first
better_is site limit (Some form) None true first second = first
better_is site limit (Some form) None false first second = first
better_is site limit None (Some other) is_other_better first second = second
better_is site limit None None is_other_better first second = tt

or_push_is :
    (site : Site) (limit : ℕ) (found : Option Form)
    → IfSome found (IsForm site limit)
    → IsForm site limit (form_or_push found)
or_push_is site limit (Some form) has = has
or_push_is site limit None has = tt

form_is :
    (site : Site) (limit : ℕ) (comparison : Comparison)
    → IsUnder site.tree.now limit comparison.left → IsUnder site.tree.now limit comparison.right
    → IsForm site limit (form_of site comparison)
unfolding form_of
form_is site limit comparison one two = by comparison.question
  where
    straight : AreSides site limit (in_order comparison)
    straight = record { one = one; two = two }

    turned : AreSides site limit (exchanged comparison)
    turned = record { one = two; two = one }

    by : (question : Question)
        → IsForm site limit
        (elim question [
          | LeftBelow ↦ form_or_push (without_push site comparison (in_order comparison))
          | RightBelow ↦ form_or_push (without_push site comparison (exchanged comparison))
          | Equal ↦ form_of_equality site comparison
        ])
    by LeftBelow =
        or_push_is site limit (without_push site comparison (in_order comparison))
        (without_push_is site limit comparison (in_order comparison) straight)
    by RightBelow =
        or_push_is site limit (without_push site comparison (exchanged comparison))
        (without_push_is site limit comparison (exchanged comparison) turned)
    by Equal =
        better_is site limit
        (without_push site comparison (in_order comparison))
        (without_push site comparison (exchanged comparison))
        (is_better_exchanged site comparison)
        (without_push_is site limit comparison (in_order comparison) straight)
        (without_push_is site limit comparison (exchanged comparison) turned)

left_back_fall :
    {site : Site} {limit : ℕ} (question : Question)
    → Falls site limit (left_back_steps question)
left_back_fall LeftBelow = falls tt
left_back_fall RightBelow = falls tt
left_back_fall Equal = falls tt

-- two BYTEs that are compared
pub byte_relation_fall :
    {site : Site} {limit : ℕ} (comparison : Comparison) (setting : Setting)
    → IsUnder site.tree.now limit comparison.left → IsUnder site.tree.now limit comparison.right
    → Falls site limit (byte_relation_steps site comparison setting)
byte_relation_fall {site = site} {limit = limit} comparison setting one two =
    by (form_of site comparison) (form_is site limit comparison one two)
  where
    by : (form : Form)
        → IsForm site limit form
        → Falls site limit (elim form [
          | WithMemory sides reference ↦
              with_memory_steps sides reference (comparing comparison.question setting) setting.pushed
          | WithE sides ↦ with_e_steps sides (comparing comparison.question setting) setting.pushed
          | Pushed ↦ pushed_steps comparison (comparing comparison.question setting) setting.pushed
        ])
    by (WithMemory sides reference) is = falls (is.0.one, (is.1, tt))
    by (WithE sides) is = falls (is.two, (is.one, tt))
    by Pushed is =
        joined
        (after_part one (after_plain (after_part two (left_back_fall comparison.question))))
        (falls tt)
