-- Expressions at a site: values that are known as numbers or relocatable addresses, their range, and operands
-- that may be evaluated in the other order.
use Rattle.task_laws.proofs.Prelude.{◌≡◌, ℕ, ◌+◌, ◌-◌, ◌*◌, ◌/◌, ◌%◌, ◌^◌, ◌<◌, ◌≤◌, ◌==◌, Bool, true, false, ◌&&◌, ◌||◌, not, nat_lt, nat_le, if◌then◌else◌, Option, Some, None, is_some, option_map, slice_get, List, refl, sym, ap, ◌∙◌, subst, arith, length, option_and_then, option_map_or, and_le_l, or_of_8, or_of_16, xor_of_8, xor_of_16, ScalarType, Byte, Address, BinaryOperator, UnaryOperator, Not, Negate, ShiftFunction, ShiftLeft, ShiftRight, RotateLeft, RotateRight, UnaryFunction, type_of, type_of_function, type_of_result, TypedExpression, NumberNode, ValueNode, LocationNode, ListNode, ConversionNode, AssignmentNode, UnaryNode, BinaryNode, CallNode, FunctionNode, ShiftNode, InputNode, TypedModule, TypedReference, PartOf, Subscript, NoSubscript, At, ShiftsIn, TypesHold, TypesHoldInReference, TypesHoldInSubscript, Within, WorksOn, value, Ended, More, Outside, Outcome, Gave, Stopped, result_of, result_of_one, shifted, truth, turned, values_of, Machine, Expression, ExpressionForm, ExpressionNumber, Home, Place, Number, Code, Data, External, number_of_place, place_after, converted_place, function_of_place, known_number, known_subscript, known_value, place_of_part, result_of_known, result_of_place, shift_of_known, IsExpression, IsNode, IsForm, IsNumber, IsValue, IsLocation, IsConstantList, IsConversion, IsEmbedded, IsUnary, IsBinary, IsCallOf, IsFunction, IsShift, IsInput, home_at, HaveOperands, PartHasOperands, SubscriptHasOperands, known_at, no_traits, known_kept, AreAlike, AreSame, BothOutside, GoesOutside, may_exchange_at, in_order, exchanged, known_gives, operands_exchanged, Does, place_at, Facts, is_quiet, known, may_exchange, number, stores_nothing, expression, knowing, equal_below, Context, IsSound, NumbersAreWords, nodes_in, lt_of_le_of_lt, converted_address}
use Rattle.meaning.proofs.FunctionResults.{function_fits}
use Rattle.trees.specs.declared.expression.BinaryOperator.TheVariants as operators
use Rattle.meaning.specs.Outcomes.{State}
use Rattle.treecode.specs.declared.expression.ExpressionForm.TheVariants as forms
use Rattle.treecode.specs.declared.place.Home.TheVariants as homes
use Rattle.steps8080.proofs.SiteTraits.{known_is, number_is}
use Rattle.task_laws.proofs.Machine.SiteNodes.{have_operands, place_of_number}

-- a known number is a known place
pub number_known :
    (context : Context) (facts : Facts) (of : ExpressionNumber) (n : ℕ)
    → number (knowing context.site facts) of ≡ Some n
    → known (knowing context.site facts) of ≡ Some (Number n)
number_known context facts of n here =
    known_is (knowing context.site facts) of
    ∙ place_of_number (known_at (nodes_in context) of) n
    (sym (number_is (knowing context.site facts) of) ∙ here)

-- a relocatable address is an ADDRESS, and a known number is one of its type
abbrev pub KnownFits : Option Place → ScalarType → Type 0
KnownFits None scalar = Unit {0}
KnownFits (Some (Number n)) scalar = n < values_of scalar
KnownFits (Some place) scalar = scalar ≡ Address

pub bytes_differ : {A : Type 0} → Byte ≡ Address → A
bytes_differ e = let bad : Byte ≡ Address = e in cc

fits_address : (scalar : ScalarType) (place : Place) → KnownFits (Some place) Address
    → KnownFits (converted_address scalar place) scalar
fits_address Byte place fits = tt
fits_address Address place fits = fits

fits_conversion : (scalar of : ScalarType) (place : Option Place) → KnownFits place of
    → KnownFits (option_and_then (converted_place scalar) place) scalar
fits_conversion scalar of None fits = tt
fits_conversion Byte of (Some (Number n)) fits = omega arith
fits_conversion Address of (Some (Number n)) fits = omega arith
fits_conversion scalar of (Some (Code n)) fits = fits_address scalar (Code n) refl
fits_conversion scalar of (Some (Data n)) fits = fits_address scalar (Data n) refl
fits_conversion scalar of (Some (External n name)) fits = fits_address scalar (External n name) refl

pub one_fits : (scalar : ScalarType) (operator : UnaryOperator) (n : ℕ)
    → result_of_one scalar operator n < values_of scalar
one_fits Byte Not n = omega arith
one_fits Byte Negate n = omega arith
one_fits Address Not n = omega arith
one_fits Address Negate n = omega arith

fits_unary : (scalar : ScalarType) (operator : UnaryOperator) (place : Option Place)
    → KnownFits (option_map (λ of. Number (result_of_one scalar operator of)) (known_number place)) scalar
fits_unary scalar operator None = tt
fits_unary scalar operator (Some (Number n)) = one_fits scalar operator n
fits_unary scalar operator (Some (Code n)) = tt
fits_unary scalar operator (Some (Data n)) = tt
fits_unary scalar operator (Some (External n name)) = tt

pub high_fits : (n : ℕ) (of : ScalarType) → n < values_of of → n / 256 < 256
high_fits n Byte small = omega (arith, small)
high_fits n Address small = omega (arith, small)

pub word_fits : (n : ℕ) (of : ScalarType) → n < values_of of → n < 65536
word_fits n Byte small = omega (arith, small)
word_fits n Address small = small

fits_function : (function : UnaryFunction) (of : ScalarType) (place : Option Place) → KnownFits place of
    → KnownFits (option_and_then (function_of_place function) place) (type_of_function function)
fits_function function of None fits = tt
fits_function function of (Some (Number n)) fits = function_fits function of n fits
fits_function function of (Some (Code n)) fits = fits_address (type_of_function function) (Code n) refl
fits_function function of (Some (Data n)) fits = fits_address (type_of_function function) (Data n) refl
fits_function function of (Some (External n name)) fits =
    fits_address (type_of_function function) (External n name) refl

turned_high : (byte count : ℕ) → byte < 256 → count < 8 → (256 * count + byte) / 256 ≡ count
turned_high byte count small few = omega (arith, small)

turned_low : (byte count : ℕ) → byte < 256 → count < 8 → (256 * count + byte) % 256 ≡ byte
turned_low byte count small few = omega (arith, small)

no_more : (x : ℕ) → x / 256 ≡ 0 → x < 256
no_more x none = omega (arith, none)

pub turned_fits : (byte count : ℕ) → byte < 256 → count < 8 → turned byte count < 256
turned_fits byte count small few =
    let all : turned ((256 * count + byte) % 256) ((256 * count + byte) / 256) / 256 ≡ 0 =
    equal_below (λ k. turned (k % 256) (k / 256) / 256) (λ k. 0) 2048 (256 * count + byte) refl
    (omega (arith, small, few)) in
    no_more (turned byte count)
    (ap (λ (k : ℕ). turned k count / 256) (sym (turned_low byte count small few))
    ∙ ap (λ (k : ℕ). turned ((256 * count + byte) % 256) k / 256) (sym (turned_high byte count small few))
    ∙ all)

pub quotient_less : (x y : ℕ) → x / y ≤ x
quotient_less x y = Rattle.std.proofs.Math.Nat.div-le_self x y

pub shift_fits : (scalar : ScalarType) (function : ShiftFunction) (n count : ℕ) → ShiftsIn function scalar
    → n < values_of scalar → shifted scalar function n count < values_of scalar
shift_fits Byte ShiftLeft n count in_type small = omega arith
shift_fits Address ShiftLeft n count in_type small = omega arith
shift_fits scalar ShiftRight n count in_type small = lt_of_le_of_lt (quotient_less n (2 ^ count)) small
shift_fits Byte RotateLeft n count in_type small =
    turned_fits (n % 256) (count % 8) (omega arith) (omega arith)
shift_fits Byte RotateRight n count in_type small =
    turned_fits (n % 256) ((8 - count % 8) % 8) (omega arith) (omega arith)
shift_fits Address RotateLeft n count in_type small =
    let same : Address ≡ Byte = in_type in bytes_differ (sym same)
shift_fits Address RotateRight n count in_type small =
    let same : Address ≡ Byte = in_type in bytes_differ (sym same)

fits_shift : (scalar : ScalarType) (function : ShiftFunction) (place count : Option Place)
    → ShiftsIn function scalar
    → KnownFits place scalar
    → KnownFits (shift_of_known (shifted scalar function) (known_number place) (known_number count)) scalar
fits_shift scalar function None count in_type fits = tt
fits_shift scalar function (Some (Code n)) count in_type fits = tt
fits_shift scalar function (Some (Data n)) count in_type fits = tt
fits_shift scalar function (Some (External n name)) count in_type fits = tt
fits_shift scalar function (Some (Number n)) None in_type fits = tt
fits_shift scalar function (Some (Number n)) (Some (Code k)) in_type fits = tt
fits_shift scalar function (Some (Number n)) (Some (Data k)) in_type fits = tt
fits_shift scalar function (Some (Number n)) (Some (External k name)) in_type fits = tt
fits_shift scalar function (Some (Number n)) (Some (Number k)) in_type fits =
    shift_fits scalar function n k in_type fits

truth_fits : (holds : Bool) → truth holds < 256
truth_fits true = omega arith
truth_fits false = omega arith

pub result_fits : (operands : ScalarType) (operator : BinaryOperator) (x y : ℕ)
    → x < values_of operands → y < values_of operands
    → KnownFits (option_map Number (result_of operands operator x y)) (type_of_result operator operands)
result_fits Byte operators.Or x y one two = or_of_8 x y one two
result_fits Address operators.Or x y one two = or_of_16 x y one two
result_fits Byte operators.Xor x y one two = xor_of_8 x y one two
result_fits Address operators.Xor x y one two = xor_of_16 x y one two
result_fits operands operators.And x y one two = lt_of_le_of_lt (and_le_l x y) one
result_fits operands operators.Equal x y one two = truth_fits (x == y)
result_fits operands operators.Less x y one two = truth_fits (nat_lt x y)
result_fits operands operators.Greater x y one two = truth_fits (nat_lt y x)
result_fits operands operators.LessOrEqual x y one two = truth_fits (nat_le x y)
result_fits operands operators.GreaterOrEqual x y one two = truth_fits (nat_le y x)
result_fits operands operators.Unequal x y one two = truth_fits (not (x == y))
result_fits Byte operators.Add x y one two = omega arith
result_fits Address operators.Add x y one two = omega arith
result_fits Byte operators.Subtract x y one two = omega arith
result_fits Address operators.Subtract x y one two = omega arith
result_fits Byte operators.Multiply x y one two = omega arith
result_fits Address operators.Multiply x y one two = omega arith
result_fits operands operators.Divide x y one two = by (y == 0)
  where
    by : (none : Bool) → KnownFits (option_map Number (if none then None else Some (x / y))) operands
    by true = tt
    by false = lt_of_le_of_lt (quotient_less x y) one
result_fits operands operators.Modulo x y one two = by (y == 0)
  where
    by : (none : Bool) → KnownFits (option_map Number (if none then None else Some (x % y))) operands
    by true = tt
    by false = lt_of_le_of_lt (Rattle.std.proofs.Math.Nat.mod-le x y) one

-- an ADDRESS `distance` bytes further on
after_fits : (place : Place) (distance : ℕ) → KnownFits (Some (place_after place distance)) Address
after_fits (Number n) distance = omega arith
after_fits (Code n) distance = refl
after_fits (Data n) distance = refl
after_fits (External n name) distance = refl

place_fits : (operands : ScalarType) (operator : BinaryOperator) (left right : Place)
    → operands ≡ Address
    → KnownFits (result_of_place operator left right) (type_of_result operator operands)
place_fits operands operators.Add left (Number distance) same = rw same (after_fits left distance)
place_fits operands operators.Add (Number distance) (Code o) same = same
place_fits operands operators.Add (Number distance) (Data o) same = same
place_fits operands operators.Add (Number distance) (External o name) same = same
place_fits operands operators.Subtract left (Number distance) same =
    rw same (after_fits left ((65536 - distance) % 65536))
place_fits operands operator left right same = tt

fits_binary : (operands : ScalarType) (operator : BinaryOperator) (left right : Option Place)
    → KnownFits left operands → KnownFits right operands
    → KnownFits (result_of_known operands operator left right) (type_of_result operator operands)
fits_binary operands operator None right one two = tt
fits_binary operands operator (Some left) None one two = tt
fits_binary operands operator (Some (Number x)) (Some (Number y)) one two =
    result_fits operands operator x y one two
fits_binary operands operator (Some (Number x)) (Some (Code y)) one two =
    place_fits operands operator (Number x) (Code y) two
fits_binary operands operator (Some (Number x)) (Some (Data y)) one two =
    place_fits operands operator (Number x) (Data y) two
fits_binary operands operator (Some (Number x)) (Some (External y name)) one two =
    place_fits operands operator (Number x) (External y name) two
fits_binary operands operator (Some (Code x)) (Some right) one two =
    place_fits operands operator (Code x) right one
fits_binary operands operator (Some (Data x)) (Some right) one two =
    place_fits operands operator (Data x) right one
fits_binary operands operator (Some (External x name)) (Some right) one two =
    place_fits operands operator (External x name) right one

fits_part : (home : Home) (offset : ℕ) (first second : Option ℕ)
    → KnownFits (place_of_part home offset first second) Address
fits_part (homes.Static place) offset (Some first) (Some second) =
    after_fits (place_after (place_after place offset) first) second
fits_part (homes.Static place) offset (Some first) None = tt
fits_part (homes.Static place) offset None second = tt
fits_part (homes.Based base) offset first second = tt
fits_part (homes.Frame variable) offset first second = tt

pub number_fits : (scalar : ScalarType) (n : ℕ) → Rattle.typed_trees.specs.WellTyped.IsNumberOf scalar n
    → n < 65536 → n < values_of scalar
number_fits Byte n is small = is
number_fits Address n is small = small

as_operands : (place : Option Place) (one other : ScalarType) → one ≡ other → KnownFits place one
    → KnownFits place other
as_operands place one other same fits = subst (λ (scalar : ScalarType). KnownFits place scalar) same fits

module _ (context : Context) (numbers : NumbersAreWords (nodes_in context)) where
  mutual
    -- a known number is one of the type of its expression
    pub known_fits : {bound index : ℕ} {tree : TypedExpression}
        → IsExpression (nodes_in context) context.storage bound index tree
        → TypesHold context.typed context.within tree
        → KnownFits (known_value (nodes_in context).homes context.storage tree) (type_of tree)
    known_fits (IsNode {number = index} {expression = found} below there scalar form) types =
        form_fits (λ n is. numbers index n found there is) form types

    form_fits : {bound : ℕ} {form : ExpressionForm} {tree : TypedExpression}
        → ((n : ℕ) → form ≡ forms.Number n → n < 65536)
        → IsForm (nodes_in context) context.storage bound form tree
        → TypesHold context.typed context.within tree
        → KnownFits (known_value (nodes_in context).homes context.storage tree) (type_of tree)
    form_fits small (IsNumber {number = n} {scalar = scalar}) types =
        number_fits scalar n types (small n refl)
    form_fits small (IsValue reference) types = tt
    form_fits small (IsLocation {part = PartOf object subscript member offset member_subscript} reference)
        types =
        fits_part (home_at (nodes_in context).homes object) (offset % 65536)
        (known_subscript (nodes_in context).homes context.storage subscript)
        (known_subscript (nodes_in context).homes context.storage member_subscript)
    form_fits small IsConstantList types = refl
    form_fits small (IsConversion {scalar = scalar} {tree = tree} inner) types =
        fits_conversion scalar (type_of tree) (known_value (nodes_in context).homes context.storage tree)
        (known_fits inner types)
    form_fits small (IsEmbedded target inner) types = tt
    form_fits small (IsUnary {scalar = scalar} {operator = operator} {tree = tree} operand) types =
        fits_unary scalar operator (known_value (nodes_in context).homes context.storage tree)
    form_fits small
        (IsBinary {operands = operands} {operator = operator} {first = first} {second = second} left right)
        types =
        fits_binary operands operator (known_value (nodes_in context).homes context.storage first)
        (known_value (nodes_in context).homes context.storage second)
        (as_operands (known_value (nodes_in context).homes context.storage first) (type_of first) operands
        (types.1).1 (known_fits left (types.1).0))
        (as_operands (known_value (nodes_in context).homes context.storage second) (type_of second) operands
        (types.2).1 (known_fits right (types.2).0))
    form_fits small (IsCallOf given) types = tt
    form_fits small (IsFunction {function = function} {tree = tree} operand) types =
        fits_function function (type_of tree) (known_value (nodes_in context).homes context.storage tree)
        (known_fits operand types)
    form_fits small (IsShift {scalar = scalar} {function = function} {shifted = moved} {by = by} value count)
        types =
        fits_shift scalar function (known_value (nodes_in context).homes context.storage moved)
        (known_value (nodes_in context).homes context.storage by) types.0
        (as_operands (known_value (nodes_in context).homes context.storage moved) (type_of moved) scalar
        (types.1).1 (known_fits value (types.1).0))
    form_fits small IsInput types = tt

place_small : (context : Context) (place : Place) (scalar : ScalarType) → IsSound context
    → KnownFits (Some place) scalar
    → place_at context.activation.layout place < values_of scalar
place_small context (Number n) scalar sound fits = fits
place_small context (Code o) scalar sound fits = rw fits (sound.resolves.below (Code o) refl)
place_small context (Data o) scalar sound fits = rw fits (sound.resolves.below (Data o) refl)
place_small context (External o name) scalar sound fits =
    rw fits (sound.resolves.below (External o name) refl)

-- so a known value is of the type of the expression
pub known_small :
    {context : Context} {bound : ℕ} {of : ExpressionNumber} {tree : TypedExpression}
    (facts : Facts) (place : Place)
    → IsSound context
    → IsExpression (nodes_in context) context.storage bound of.index tree
    → TypesHold context.typed context.within tree
    → known (knowing context.site facts) of ≡ Some place
    → place_at context.activation.layout place < values_of (type_of tree)
known_small {context = context} {of = of} {tree = tree} facts place sound is types here =
    place_small context place (type_of tree) sound
    (subst (λ (one : Option Place). KnownFits one (type_of tree))
    (sym (known_kept (nodes_in context) context.storage sound.lowered.traits is)
    ∙ sym (known_is (knowing context.site facts) of) ∙ here)
    (known_fits context sound.numbers is types))

pub number_small :
    {context : Context} {bound : ℕ} {of : ExpressionNumber} {tree : TypedExpression} (facts : Facts) (n : ℕ)
    → IsSound context
    → IsExpression (nodes_in context) context.storage bound of.index tree
    → TypesHold context.typed context.within tree
    → number (knowing context.site facts) of ≡ Some n
    → n < values_of (type_of tree)
number_small {context = context} {of = of} facts n sound is types here =
    known_small facts (Number n) sound is types (number_known context facts of n here)
