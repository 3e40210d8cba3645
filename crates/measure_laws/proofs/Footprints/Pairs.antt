-- Two words in HL and DE.
use Rattle.measure_laws.proofs.Prelude.{Bool, None, Option, Some, arith, refl, ℕ, ◌*◌, ◌+◌, ExpressionNumber, form_steps, order_of, pair_form, pair_in_order_steps, pair_steps, wish_for_left, wished_steps, PairForm, LeftKeeps, LeftKnown, RightKeeps, RightKnown, PairOrder, LeftInHl, RightInHl, beside}
use Rattle.operands8080.specs.declared.pairs.PairForm.TheVariants.{RightFree, LeftFree, Pushed}
use Rattle.measure_laws.specs.internal.Footprints.{Footprint, Ground, IsBelow}
use Rattle.measure_laws.proofs.{Footprints.Joining.{counted, joined, lowered, restored, two_free, operand_from_below}}

pair_form_footprint :
    {at : Ground} {free : ℕ} (form : PairForm) (left right : ExpressionNumber) (pushed : ℕ)
    → IsBelow at free left → IsBelow at free right
    → Footprint at free (form_steps form left right pushed) free
    (155 + 128 * beside at.site left + 128 * beside at.site right)
pair_form_footprint (RightKnown place) left right pushed one two =
    counted (operand_from_below one, refl) (omega arith)
pair_form_footprint (LeftKnown place) left right pushed one two =
    counted (operand_from_below two, refl) (omega arith)
pair_form_footprint RightKeeps left right pushed one two =
    counted (operand_from_below one, (operand_from_below two, refl)) (omega arith)
pair_form_footprint LeftKeeps left right pushed one two =
    counted (operand_from_below two, (operand_from_below one, refl)) (omega arith)
pair_form_footprint RightFree left right pushed one two =
    counted (operand_from_below one, (operand_from_below two, refl)) (omega arith)
pair_form_footprint LeftFree left right pushed one two =
    counted (operand_from_below two, (operand_from_below one, refl)) (omega arith)
pair_form_footprint Pushed left right pushed one two =
    counted (operand_from_below one, (two_free two, (lowered two, restored two))) (omega arith)

wished_footprint :
    {at : Ground} {free : ℕ} (wish : Option PairOrder) (order : PairOrder)
    → Footprint at free (wished_steps wish order) free 1
wished_footprint None order = counted refl (omega arith)
wished_footprint (Some LeftInHl) LeftInHl = counted refl (omega arith)
wished_footprint (Some LeftInHl) RightInHl = counted refl (omega arith)
wished_footprint (Some RightInHl) LeftInHl = counted refl (omega arith)
wished_footprint (Some RightInHl) RightInHl = counted refl (omega arith)

pub pair_in_order_footprint :
    {at : Ground} {free : ℕ} (left right : ExpressionNumber) (wish : Option PairOrder) (pushed : ℕ)
    → IsBelow at free left → IsBelow at free right
    → Footprint at free (pair_in_order_steps at.site left right wish pushed) free
    (156 + 128 * beside at.site left + 128 * beside at.site right)
pair_in_order_footprint {at = at} left right wish pushed one two =
    joined (155 + 128 * beside at.site left + 128 * beside at.site right) 1
    (pair_form_footprint (pair_form at.site left right wish) left right pushed one two)
    (wished_footprint wish (order_of (pair_form at.site left right wish))) (omega arith)

pub pair_footprint :
    {at : Ground} {free : ℕ} (left right : ExpressionNumber) (wants_left_in_hl : Bool) (pushed : ℕ)
    → IsBelow at free left → IsBelow at free right
    → Footprint at free (pair_steps at.site left right wants_left_in_hl pushed) free
    (156 + 128 * beside at.site left + 128 * beside at.site right)
pair_footprint left right wants_left_in_hl pushed one two =
    pair_in_order_footprint left right (wish_for_left wants_left_in_hl) pushed one two
