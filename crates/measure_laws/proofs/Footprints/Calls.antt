-- Calls, assignments, and the effects of expressions.
use Rattle.measure_laws.proofs.Prelude.{Bool, List, None, Option, Some, [], ap, arith, false, min, refl, slice_get, subst, suc, sym, zero, ℕ, ◌%◌, ◌*◌, ◌++◌, ◌+◌, ◌-◌, ◌∷◌, ◌≡◌, ◌≤◌, option_map_or, ScalarType, Address, Byte, height_of_arguments, TypedArguments, TypesHoldInArguments, AreArguments, AreMore, AreNone, nodes_of, source_of, ExpressionForm, ExpressionNumber, Range, Reference, Subscript, Target, Step, expression, scalar, embedded_steps, argument_steps, arguments_steps, call_steps, last_argument_steps, push_of, pushed_argument_steps, value_task, both_effects_steps, effects_steps, form_effects_steps, reference_effects_steps, subscript_effects_steps, weight_in_target, weight_of_given, weight_of_index, beside_at, beside, given, indices}
use Rattle.treecode.specs.declared.expression.ExpressionForm.TheVariants as forms
use Rattle.steps8080.specs.declared.step.Step.TheVariants as steps
use Rattle.measure_laws.specs.internal.Footprints.{AreGiven, Footprint, Ground, HasParts, IsAimed, IsBelow, IsOfTree, IsOperand, IsPlaced, bytes_of_task}
use Rattle.measure_laws.proofs.{Bounds.Ranges.{item_there}, Footprints.Joining.{after_part, by_finding, by_test, counted, joined, operand_from_below, within}, Footprints.Trees.{IndexIs, has_parts, needs, subscripts_are}}

-- a value of a type
value_is :
    (at : Ground) {free : ℕ} (from : ScalarType) (value : ExpressionNumber)
    → IsOperand at free value → IsOfTree at free (value_task from value)
unfolding value_task
value_is at Byte value is = is
value_is at Address value is = is

value_small : (at : Ground) {free : ℕ} (from : ScalarType) (value : ExpressionNumber)
    → IsOperand at free value → bytes_of_task at.site.tree.now (value_task from value)
    ≤ 76 + 128 * beside at.site value
unfolding value_task
value_small at Byte value is = omega arith
value_small at Address value is = omega arith

last_footprint :
    {at : Ground} {free : ℕ} (expression : ExpressionNumber) (pushed : ℕ)
    → IsOperand at free expression
    → Footprint at free (last_argument_steps at.site expression pushed) free
    (76 + 128 * beside at.site expression)
unfolding last_argument_steps
last_footprint {at = at} expression pushed is =
    after_part 0 (value_is at (scalar at.site expression) expression is) (counted refl (omega arith))
    (omega (arith, value_small at (scalar at.site expression) expression is))

push_footprint :
    {at : Ground} {free : ℕ} (scalar : ScalarType)
    → 2 ≤ free
    → Footprint at free (steps.Plain (push_of scalar) ∷ []) (free - 2) 1
unfolding push_of
push_footprint Byte two = counted (two, refl) (omega arith)
push_footprint Address two = counted (two, refl) (omega arith)

ending :
    {at : Ground} {free one other size : ℕ} {planned : List Step}
    → one ≡ other → Footprint at free planned one size → Footprint at free planned other size
ending {at = at} {free = free} {size = size} {planned = planned} same is =
    subst (λ after. Footprint at free planned after size) same is

-- an argument is left on the stack, but for the last
argument_footprint :
    {at : Ground} {free : ℕ} (expression : ExpressionNumber) (others pushed : ℕ)
    → IsOperand at free expression
    → 2 * others ≤ free
    → Footprint at free (argument_steps at.site expression others pushed) (free - 2 * min others 1)
    (77 + 128 * beside at.site expression)
unfolding argument_steps pushed_argument_steps
argument_footprint {at = at} expression zero pushed is room =
    ending (omega arith)
    (within (76 + 128 * beside at.site expression) (last_footprint expression pushed is) (omega arith))
argument_footprint {at = at} expression (suc others) pushed is room =
    ending (omega arith)
    (joined (76 + 128 * beside at.site expression) 1 (last_footprint expression pushed is)
    (push_footprint (scalar at.site expression) (omega (arith, room))) (omega arith))

-- the last `count` arguments of a call: each but the last one leaves a word on the stack
given_footprint :
    (at : Ground) (free : ℕ) (arguments : Range) {bound : ℕ} {trees : TypedArguments} (first count pushed : ℕ)
    → first + count ≡ arguments.first + arguments.count → count ≤ arguments.count
    → AreArguments (nodes_of at.site.tree.now) at.source.storage bound first count trees
    → TypesHoldInArguments at.source.typed at.source.within trees
    → 2 * (count + height_of_arguments trees) ≤ free
    → Footprint at free (arguments_steps at.site arguments count pushed) (free - 2 * (count - 1))
    (128 * weight_of_given (beside_at (nodes_of at.site.tree.now))
    at.site.tree.now.arguments.items first count)
unfolding arguments_steps
given_footprint at free arguments first zero pushed whole enough AreNone types room =
    counted (omega arith) (omega arith)
given_footprint at free arguments first (suc count) pushed whole enough
    (AreMore {number = number} there one more) types room =
    let place : first ≡ arguments.first + (arguments.count - suc count) = omega (arith, whole, enough) in
    let weighs : option_map_or
    (λ (found : ExpressionNumber). 1 + beside_at (nodes_of at.site.tree.now) found.index)
    (slice_get at.site.tree.now.arguments.items first) 0
    ≡ 1 + beside_at (nodes_of at.site.tree.now) number.index =
    ap (λ (entry : Option ExpressionNumber).
    option_map_or (λ (found : ExpressionNumber). 1 + beside_at (nodes_of at.site.tree.now) found.index) entry
    0) there in
    let is : IsOperand at free number = needs {source = at.source} one types.0 (omega (arith, room)) in
    let given : Footprint at free (argument_steps at.site number count pushed) (free - 2 * min count 1)
    (77 + 128 * beside at.site number) = argument_footprint number count pushed is (omega (arith, room)) in
    let rest : Footprint at (free - 2 * min count 1)
    (arguments_steps at.site arguments count ((pushed + 2) % 65536))
    (free - 2 * min count 1 - 2 * (count - 1))
    (128 * weight_of_given (beside_at (nodes_of at.site.tree.now)) at.site.tree.now.arguments.items
    (suc first) count) =
    given_footprint at (free - 2 * min count 1) arguments (suc first) count ((pushed + 2) % 65536)
    (omega (arith, whole)) (omega (arith, enough)) more types.1 (omega (arith, room)) in
    subst (λ (found : Option ExpressionNumber). Footprint at free (elim found [
      | Some expression ↦
          argument_steps at.site expression count pushed
          ++ arguments_steps at.site arguments count ((pushed + 2) % 65536)
      | None ↦ arguments_steps at.site arguments count pushed
    ]) (free - 2 * (suc count - 1))
    (128 * weight_of_given (beside_at (nodes_of at.site.tree.now))
    at.site.tree.now.arguments.items first (suc count)))
    (sym (item_there at.site.tree.now.arguments.items arguments
    (arguments.count - suc count) first number place
    (omega (arith, enough)) there))
    (ending (omega (arith, room))
    (joined (77 + 128 * beside at.site number)
    (128 * weight_of_given (beside_at (nodes_of at.site.tree.now))
    at.site.tree.now.arguments.items (suc first) count)
    given rest (omega (arith, weighs))))

-- a call
pub call_footprint :
    {at : Ground} {free : ℕ} (procedure : ℕ) (arguments : Range) (pushed : ℕ)
    → AreGiven at free procedure arguments
    → Footprint at free (call_steps at.site procedure arguments pushed) free
    (3 + 128 * given at.site arguments)
unfolding call_steps
call_footprint {at = at} {free = free} procedure arguments pushed are =
    joined (128 * given at.site arguments) 3
    (given_footprint at free arguments arguments.first arguments.count pushed refl
    (omega arith) are.node are.types
    (omega (arith, are.room)))
    (counted (omega (arith, are.room), omega (arith, are.room, are.takes)) (omega arith)) (omega arith)

-- an assignment
pub embedded_footprint :
    {at : Ground} {free : ℕ} (target : Target) (value : ExpressionNumber) (is_wanted : Bool) (pushed : ℕ)
    → IsAimed at free target → IsBelow at free value
    → Footprint at free (embedded_steps target value is_wanted pushed) free
    (140 + 128 * weight_in_target (beside_at (nodes_of at.site.tree.now)) target + 128 * beside at.site value)
unfolding embedded_steps
embedded_footprint {at = at} target value is_wanted pushed aimed is =
    counted (value_is at (source_of target) value (operand_from_below is), (aimed, refl))
    (omega (arith, value_small at (source_of target) value (operand_from_below is)))

subscript_footprint :
    (at : Ground) (free : ℕ) (index : Option Subscript) (pushed : ℕ)
    → IndexIs at free index
    → Footprint at free (subscript_effects_steps index pushed) free
    (128 * weight_of_index (beside_at (nodes_of at.site.tree.now)) index)
unfolding subscript_effects_steps
subscript_footprint at free (Some subscript) pushed is = counted (operand_from_below is, refl) (omega arith)
subscript_footprint at free None pushed is = counted refl (omega arith)

reference_footprint :
    {at : Ground} {free : ℕ} (reference : Reference) (pushed : ℕ)
    → IsPlaced at free reference
    → Footprint at free (reference_effects_steps reference pushed) free (128 * indices at.site reference)
unfolding reference_effects_steps
reference_footprint {at = at} {free = free} reference pushed is =
    let both : IndexIs at free reference.subscript × IndexIs at free reference.member_subscript =
    subscripts_are at free is.node is.types is.room in
    joined (128 * weight_of_index (beside_at (nodes_of at.site.tree.now)) reference.subscript)
    (128 * weight_of_index (beside_at (nodes_of at.site.tree.now)) reference.member_subscript)
    (subscript_footprint at free reference.subscript pushed both.0)
    (subscript_footprint at free reference.member_subscript pushed both.1) (omega arith)

form_effects_footprint :
    {at : Ground} {free : ℕ} (number : ExpressionNumber) (form : ExpressionForm) (pushed : ℕ)
    → HasParts at free number form
    → Footprint at free (form_effects_steps at.site form pushed) free (72 + 128 * beside at.site number)
unfolding form_effects_steps both_effects_steps
form_effects_footprint number (forms.Number value) pushed has = counted refl (omega arith)
form_effects_footprint number (forms.List offset) pushed has = counted refl (omega arith)
form_effects_footprint {at = at} number (forms.Value reference) pushed has =
    within (128 * indices at.site reference) (reference_footprint reference pushed has.place)
    (omega (arith, has.same))
form_effects_footprint {at = at} number (forms.Location reference) pushed has =
    within (128 * indices at.site reference) (reference_footprint reference pushed has.place)
    (omega (arith, has.same))
form_effects_footprint number (forms.Conversion operand) pushed has =
    counted (has.one, refl) (omega (arith, has.same))
form_effects_footprint number (forms.Unary operator operand) pushed has =
    counted (operand_from_below has.one, refl) (omega (arith, has.same))
form_effects_footprint number (forms.Function function operand) pushed has =
    counted (operand_from_below has.one, refl) (omega (arith, has.same))
form_effects_footprint number (forms.Binary operands operator left right) pushed has =
    counted (operand_from_below has.one, (operand_from_below has.two, refl)) (omega (arith, has.same))
form_effects_footprint number (forms.Shift function value count) pushed has =
    counted (operand_from_below has.one, (operand_from_below has.two, refl)) (omega (arith, has.same))
form_effects_footprint {at = at} number (forms.Assignment target value) pushed has =
    within
    (140 + 128 * weight_in_target (beside_at (nodes_of at.site.tree.now)) target + 128 * beside at.site value)
    (embedded_footprint target value false pushed has.to has.one) (omega (arith, has.same))
form_effects_footprint {at = at} number (forms.Call procedure arguments) pushed has =
    within (3 + 128 * given at.site arguments) (call_footprint procedure arguments pushed has.are)
    (omega (arith, has.same))
form_effects_footprint number (forms.Input port) pushed has = counted refl (omega arith)

-- the effects of an expression
pub effects_footprint :
    {at : Ground} {free : ℕ} (number : ExpressionNumber) (pushed : ℕ)
    → IsOperand at free number
    → Footprint at free (effects_steps at.site number pushed) free (72 + 128 * beside at.site number)
unfolding effects_steps
effects_footprint {at = at} number pushed is =
    by_finding (expression at.site number)
    (λ found there. by_test found.traits.is_quiet (counted refl (omega arith))
    (form_effects_footprint number found.form pushed (has_parts at is there)))
    (λ none. counted refl (omega arith))
