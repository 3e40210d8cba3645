-- Relations of BYTEs.
use Rattle.measure_laws.proofs.Prelude.{◌%◌, Psw, Push, Bool, IfSome, None, Option, Some, [], arith, false, if◌then◌else◌, is_some, nat_lt, not, refl, true, ℕ, ◌&&◌, ◌*◌, ◌+◌, ◌-◌, ◌==◌, ◌∷◌, ◌≤◌, AccumulateImmediate, Dcr, Inr, Of, Compare, Subtract, A, ExpressionNumber, Reference, Comparison, NumberQuestion, Below, Is, Never, Question, Equal, LeftBelow, RightBelow, is_free, is_byte_in_register, operand_in_memory, better_form, byte_is_steps, byte_relation_steps, comparing, exchanged, form_of_equality, form_or_push, in_order, is_zero_steps, known_answer, left_back_steps, may_begin_with, memory_form, number_in_a_steps, pushed_steps, register_form, Purpose, Branch, Value, Setting, Form, WithE, WithMemory, Sides, is_better_exchanged, without_push, beside, indices}
use Rattle.steps8080.specs.declared.step.Step.TheVariants as steps
use Rattle.steps8080.specs.declared.step.Task.TheVariants as tasks
use Rattle.steps8080.specs.internal.Step.{part}
use Rattle.operands8080.specs.declared.byte_relations.Form.TheVariants.{Pushed}
use Rattle.operands8080.specs.internal.ByteRelations.{byte_number_steps, form_of, with_e_steps, with_memory_steps}
use Rattle.measure_laws.specs.internal.Footprints.{Footprint, Ground, IsBelow}
use Rattle.measure_laws.proofs.{Footprints.Found.{IsInMemory, operand_is_in_memory}, Footprints.Joining.{after_part, by_finding, by_test, counted, joined, lowered, restored, two_free, operand_from_below, within}}

byte_is_footprint :
    {at : Ground} {free : ℕ} (number : ℕ) (setting : Setting)
    → Footprint at free (byte_is_steps number setting) free 2
byte_is_footprint {at = at} {free = free} number setting = by setting.purpose
  where
    by : {at : Ground} {free : ℕ} (purpose : Purpose)
        → Footprint at free (elim purpose [
          | Branch ↦ steps.Plain (AccumulateImmediate Compare number) ∷ []
          | Value ↦
              if number == 1 then steps.Plain (Dcr (Of A)) ∷ []
              else if number == 255 then steps.Plain (Inr (Of A)) ∷ []
              else steps.Plain (AccumulateImmediate Subtract number) ∷ []
        ]) free 2
    by Branch = counted refl (omega arith)
    by Value =
        by_test (number == 1) (counted refl (omega arith))
        (by_test (number == 255) (counted refl (omega arith)) (counted refl (omega arith)))

is_zero_footprint :
    {at : Ground} {free : ℕ} (setting : Setting)
    → Footprint at free (is_zero_steps setting) free 1
is_zero_footprint {at = at} {free = free} setting = by setting.purpose
  where
    by : {at : Ground} {free : ℕ} (purpose : Purpose)
        → Footprint at free (elim purpose [ Branch ↦ steps.TestA ∷ [] | Value ↦ [] ]) free 1
    by Branch = counted refl (omega arith)
    by Value = counted refl (omega arith)

pub number_in_a_footprint :
    {at : Ground} {free : ℕ} (question : NumberQuestion) (setting : Setting)
    → Footprint at free (number_in_a_steps question setting) free 2
number_in_a_footprint Never setting = counted refl (omega arith)
number_in_a_footprint (Below number) setting =
    by_test (number == 1) (within 1 (is_zero_footprint setting) (omega arith))
    (by_test (nat_lt number 256) (counted refl (omega arith)) (counted refl (omega arith)))
number_in_a_footprint (Is number) setting =
    by_test (number == 0) (within 1 (is_zero_footprint setting) (omega arith))
    (by_test (nat_lt number 256) (byte_is_footprint number setting) (counted refl (omega arith)))

pub byte_number_footprint :
    {at : Ground} {free : ℕ} (operand : ExpressionNumber) (question : NumberQuestion) (setting : Setting)
    → IsBelow at free operand
    → Footprint at free (byte_number_steps operand question setting) free (78 + 128 * beside at.site operand)
byte_number_footprint operand question setting is =
    by_finding (known_answer question) (λ answer known. counted (operand_from_below is, refl) (omega arith))
    (λ none. after_part 2 (operand_from_below is) (number_in_a_footprint question setting) (omega arith))

-- two operands that are compared
pub record AreSides (at : Ground) (free limit : ℕ) (sides : Sides) : Type 0 where
  pub one : IsBelow at free sides.first
  pub two : IsBelow at free sides.second
  pub small : beside at.site sides.first + beside at.site sides.second ≤ limit

abbrev IsForm : (at : Ground) (free limit : ℕ) → Form → Type 0
IsForm at free limit (WithMemory sides reference) =
    AreSides at free limit sides × IsInMemory at free sides.second reference
IsForm at free limit (WithE sides) = AreSides at free limit sides
IsForm at free limit Pushed = Unit {0}

memory_form_is :
    (at : Ground) (free : ℕ) (limit : ℕ) (comparison : Comparison) (sides : Sides)
    → AreSides at free limit sides
    → IfSome (memory_form at.site comparison sides) (IsForm at free limit)
memory_form_is at free limit comparison sides are =
    by (operand_in_memory at.site sides.second)
    (operand_is_in_memory at free sides.second (operand_from_below are.two))
  where
    chosen :
        (b : Bool) (reference : Reference)
        → IsInMemory at free sides.second reference
        → IfSome (if b then Some (WithMemory sides reference) else None) (IsForm at free limit)
    chosen true reference has = (are, has)
    chosen false reference has = tt

    by : (found : Option Reference) → IfSome found (IsInMemory at free sides.second)
        → IfSome (elim found [
          | Some reference ↦
              if may_begin_with at.site comparison sides.is_in_order then Some
              (WithMemory sides reference) else None
          | None ↦ None
        ])
        (IsForm at free limit)
    by (Some reference) has = chosen (may_begin_with at.site comparison sides.is_in_order) reference has
    by None has = tt

register_form_is :
    (at : Ground) (free : ℕ) (limit : ℕ) (comparison : Comparison) (sides : Sides)
    → AreSides at free limit sides
    → IfSome (register_form at.site comparison sides) (IsForm at free limit)
register_form_is at free limit comparison sides are =
    by (is_free at.site sides.first && may_begin_with at.site comparison (not sides.is_in_order))
  where
    by : (b : Bool) → IfSome (if b then Some (WithE sides) else None) (IsForm at free limit)
    by true = are
    by false = tt

without_push_is :
    (at : Ground) (free : ℕ) (limit : ℕ) (comparison : Comparison) (sides : Sides)
    → AreSides at free limit sides
    → IfSome (without_push at.site comparison sides) (IsForm at free limit)
unfolding without_push
without_push_is at free limit comparison sides are =
    by (is_some (register_form at.site comparison sides) && is_byte_in_register at.site sides.second)
  where
    either : (found : Option Form) → IfSome found (IsForm at free limit)
        → IfSome (elim found [ Some form ↦ Some form | None ↦ register_form at.site comparison sides ])
        (IsForm at free limit)
    either (Some form) has = has
    either None has = register_form_is at free limit comparison sides are

    by : (b : Bool)
        → IfSome
        (if b then register_form at.site comparison sides
        else elim (memory_form at.site comparison sides) [
          | Some form ↦ Some form
          | None ↦ register_form at.site comparison sides
        ])
        (IsForm at free limit)
    by true = register_form_is at free limit comparison sides are
    by false =
        either (memory_form at.site comparison sides) (memory_form_is at free limit comparison sides are)

better_is :
    (at : Ground) (free : ℕ) (limit : ℕ) (one other : Option Form) (is_other_better : Bool)
    → IfSome one (IsForm at free limit) → IfSome other (IsForm at free limit)
    → IsForm at free limit (better_form one other is_other_better)
better_is at free limit (Some form) (Some other) true first second = second
better_is at free limit (Some (WithE sides)) (Some (WithMemory others reference)) false first second = second
better_is at free limit (Some (WithE sides)) (Some (WithE others)) false first second = first
better_is at free limit (Some (WithE sides)) (Some Pushed) false first second = first
better_is at free limit (Some (WithMemory sides reference)) (Some other) false first second = first
better_is at free limit (Some Pushed) (Some other) false first second = first
better_is at free limit (Some form) None true first second = first
better_is at free limit (Some form) None false first second = first
better_is at free limit None (Some other) is_other_better first second = second
better_is at free limit None None is_other_better first second = tt

or_push_is :
    (at : Ground) (free : ℕ) (limit : ℕ) (found : Option Form)
    → IfSome found (IsForm at free limit)
    → IsForm at free limit (form_or_push found)
or_push_is at free limit (Some form) has = has
or_push_is at free limit None has = tt

form_is :
    (at : Ground) (free : ℕ) (comparison : Comparison)
    → IsBelow at free comparison.left → IsBelow at free comparison.right
    → IsForm at free (beside at.site comparison.left + beside at.site comparison.right)
    (form_of at.site comparison)
unfolding form_of
form_is at free comparison one two = by comparison.question
  where
    straight :
        AreSides at free (beside at.site comparison.left + beside at.site comparison.right)
        (in_order comparison)
    straight = record { one = one; two = two; small = omega arith }

    turned :
        AreSides at free (beside at.site comparison.left + beside at.site comparison.right)
        (exchanged comparison)
    turned = record { one = two; two = one; small = omega arith }

    by : (question : Question)
        → IsForm at free (beside at.site comparison.left + beside at.site comparison.right)
        (elim question [
          | LeftBelow ↦ form_or_push (without_push at.site comparison (in_order comparison))
          | RightBelow ↦ form_or_push (without_push at.site comparison (exchanged comparison))
          | Equal ↦ form_of_equality at.site comparison
        ])
    by LeftBelow =
        or_push_is at free (beside at.site comparison.left + beside at.site comparison.right)
        (without_push at.site comparison (in_order comparison))
        (without_push_is at free (beside at.site comparison.left + beside at.site comparison.right) comparison
        (in_order comparison) straight)
    by RightBelow =
        or_push_is at free (beside at.site comparison.left + beside at.site comparison.right)
        (without_push at.site comparison (exchanged comparison))
        (without_push_is at free (beside at.site comparison.left + beside at.site comparison.right) comparison
        (exchanged comparison) turned)
    by Equal =
        better_is at free (beside at.site comparison.left + beside at.site comparison.right)
        (without_push at.site comparison (in_order comparison))
        (without_push at.site comparison (exchanged comparison)) (is_better_exchanged at.site comparison)
        (without_push_is at free (beside at.site comparison.left + beside at.site comparison.right) comparison
        (in_order comparison) straight)
        (without_push_is at free (beside at.site comparison.left + beside at.site comparison.right) comparison
        (exchanged comparison) turned)

left_back_footprint :
    {at : Ground} {free : ℕ} (question : Question)
    → Footprint at free (left_back_steps question) (free + 2) 2
left_back_footprint LeftBelow = counted refl (omega arith)
left_back_footprint RightBelow = counted refl (omega arith)
left_back_footprint Equal = counted refl (omega arith)

-- two BYTEs that are compared
pub byte_relation_footprint :
    {at : Ground} {free : ℕ} (comparison : Comparison) (setting : Setting)
    → IsBelow at free comparison.left → IsBelow at free comparison.right
    → Footprint at free (byte_relation_steps at.site comparison setting) free
    (156 + 128 * (beside at.site comparison.left + beside at.site comparison.right))
byte_relation_footprint {at = at} {free = free} comparison setting one two =
    by (form_of at.site comparison) (form_is at free comparison one two)
  where
    popped : Footprint at (free - 2) (left_back_steps comparison.question) (free - 2 + 2) 2
    popped = left_back_footprint comparison.question

    begun : Footprint at free
        (part (tasks.Byte comparison.left) setting.pushed
        ∷ steps.Plain (Push Psw)
        ∷ part (tasks.Byte comparison.right) ((setting.pushed + 2) % 65536)
        ∷ left_back_steps comparison.question)
        (free - 2 + 2) (155 + 128 * (beside at.site comparison.left + beside at.site comparison.right))
    begun =
        counted (operand_from_below one, (two_free two, (lowered two, popped.go)))
        (omega (arith, popped.small, one.byte_small, two.byte_small))

    by : (form : Form)
        → IsForm at free (beside at.site comparison.left + beside at.site comparison.right) form
        → Footprint at free (elim form [
          | WithMemory sides reference ↦
              with_memory_steps sides reference (comparing comparison.question setting) setting.pushed
          | WithE sides ↦ with_e_steps sides (comparing comparison.question setting) setting.pushed
          | Pushed ↦ pushed_steps comparison (comparing comparison.question setting) setting.pushed
        ]) free (156 + 128 * (beside at.site comparison.left + beside at.site comparison.right))
    by (WithMemory sides reference) is =
        let sum : beside at.site sides.first + beside at.site sides.second
        ≤ beside at.site comparison.left + beside at.site comparison.right = is.0.small in
        let place : indices at.site reference ≤ beside at.site sides.second = is.1.small in
        counted (operand_from_below is.0.one, (is.1.place, refl))
        (omega (arith, sum, place, is.0.one.byte_small))
    by (WithE sides) is =
        counted (operand_from_below is.two, (operand_from_below is.one, refl))
        (omega (arith, is.small, is.one.byte_small, is.two.byte_small))
    by Pushed is =
        joined (155 + 128 * (beside at.site comparison.left + beside at.site comparison.right)) 1 begun
        (counted (restored two) (omega arith)) (omega arith)
