-- Calls, assignments, and the effects of expressions.
use Rattle.exprgen8080.proofs.Prelude.{◌+◌, ◌-◌, ◌%◌, Address, Bool, Byte, ExpressionForm, ExpressionNumber, None, Option, Range, Reference, ScalarType, Site, Some, Subscript, Target, TreeModule, argument, argument_steps, arguments_steps, arith, both_effects_steps, call_steps, effects_steps, embedded_steps, expression, false, form_effects_steps, last_argument_steps, pushed_argument_steps, reference_effects_steps, scalar, source, subscript_effects_steps, suc, value_task, zero, ℕ}
use Rattle.treecode.specs.declared.expression.ExpressionForm.TheVariants as forms
use Rattle.exprgen8080.proofs.Ranks.{Joining.{Falls, HasLowParts, IsAimed, IsLow, IsPlaced, IsUnder, by_finding, by_test, falls, joined}, Trees.{AreGiven, HasParts, IndexIs, has_parts, subscripts_are}}

-- a value of a type
value_is :
    {tree : TreeModule} {limit : ℕ} (from : ScalarType) (value : ExpressionNumber)
    → IsUnder tree limit value → IsLow tree limit (value_task from value)
unfolding value_task
value_is Byte value is = is
value_is Address value is = is

argument_fall :
    {site : Site} {limit : ℕ} (expression : ExpressionNumber) (others pushed : ℕ)
    → IsUnder site.tree.now limit expression
    → Falls site limit (argument_steps site expression others pushed)
unfolding argument_steps pushed_argument_steps last_argument_steps
argument_fall {site = site} expression zero pushed is =
    falls (value_is (scalar site expression) expression is, tt)
argument_fall {site = site} expression (suc others) pushed is =
    falls (value_is (scalar site expression) expression is, tt)

-- the last `count` arguments of a call
arguments_fall :
    {site : Site} {limit : ℕ} (arguments : Range) (count pushed : ℕ)
    → AreGiven site.tree.now limit arguments
    → Falls site limit (arguments_steps site arguments count pushed)
unfolding arguments_steps
arguments_fall arguments zero pushed are = falls tt
arguments_fall {site = site} arguments (suc others) pushed are =
    by_finding (argument site.tree.now arguments (arguments.count - suc others))
    (λ expression there.
    joined (argument_fall expression others pushed (are (arguments.count - suc others) expression there))
    (arguments_fall arguments others ((pushed + 2) % 65536) are))
    (λ none. arguments_fall arguments others pushed are)

-- a call
pub call_fall :
    {site : Site} {limit : ℕ} (procedure : ℕ) (arguments : Range) (pushed : ℕ)
    → AreGiven site.tree.now limit arguments
    → Falls site limit (call_steps site procedure arguments pushed)
unfolding call_steps
call_fall procedure arguments pushed are =
    joined (arguments_fall arguments arguments.count pushed are) (falls tt)

-- an assignment
pub embedded_fall :
    {site : Site} {limit : ℕ} (target : Target) (value : ExpressionNumber)
    (is_wanted : Bool) (pushed : ℕ)
    → IsAimed site.tree.now limit target → IsUnder site.tree.now limit value
    → Falls site limit (embedded_steps target value is_wanted pushed)
unfolding embedded_steps
embedded_fall target value is_wanted pushed aimed is = falls (value_is (source target) value is, (aimed, tt))

subscript_fall :
    {site : Site} {limit : ℕ} (index : Option Subscript) (pushed : ℕ)
    → IndexIs site.tree.now limit index
    → Falls site limit (subscript_effects_steps index pushed)
unfolding subscript_effects_steps
subscript_fall (Some subscript) pushed is = falls (is, tt)
subscript_fall None pushed is = falls tt

reference_fall :
    {site : Site} {limit : ℕ} (reference : Reference) (pushed : ℕ)
    → IsPlaced site.tree.now limit reference
    → Falls site limit (reference_effects_steps reference pushed)
unfolding reference_effects_steps
reference_fall {site = site} {limit = limit} reference pushed is =
    let both = subscripts_are site.tree.now {limit = limit} reference is.rises (omega (arith, is.small)) in
    joined (subscript_fall reference.subscript pushed both.0)
    (subscript_fall reference.member_subscript pushed both.1)

form_effects_fall :
    {site : Site} {limit : ℕ} (form : ExpressionForm) (pushed : ℕ)
    → HasParts site.tree.now limit form
    → Falls site limit (form_effects_steps site form pushed)
unfolding form_effects_steps both_effects_steps
form_effects_fall (forms.Number value) pushed has = falls tt
form_effects_fall (forms.List offset) pushed has = falls tt
form_effects_fall {site = site} (forms.Value reference) pushed has =
    reference_fall reference pushed has
form_effects_fall {site = site} (forms.Location reference) pushed has =
    reference_fall reference pushed has
form_effects_fall (forms.Conversion operand) pushed has = falls (has, tt)
form_effects_fall (forms.Unary operator operand) pushed has = falls (has, tt)
form_effects_fall (forms.Function function operand) pushed has = falls (has, tt)
form_effects_fall (forms.Binary operands operator left right) pushed has =
    falls (has.0, (has.1, tt))
form_effects_fall (forms.Shift function value count) pushed has =
    falls (has.0, (has.1, tt))
form_effects_fall {site = site} (forms.Assignment target value) pushed has =
    embedded_fall target value false pushed has.0 has.1
form_effects_fall {site = site} (forms.Call procedure arguments) pushed has =
    call_fall procedure arguments pushed has
form_effects_fall (forms.Input port) pushed has = falls tt

-- the effects of an expression
pub effects_fall :
    {site : Site} {limit : ℕ} (number : ExpressionNumber) (pushed : ℕ)
    → HasLowParts site.tree.now limit number
    → Falls site limit (effects_steps site number pushed)
unfolding effects_steps
effects_fall {site = site} number pushed is =
    by_finding (expression site number)
    (λ found there. by_test found.traits.is_quiet (falls tt)
    (form_effects_fall found.form pushed (has_parts site is there)))
    (λ none. falls tt)
