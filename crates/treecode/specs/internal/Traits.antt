-- The traits of each expression, as functions of its form and of the traits of its parts.
use Rattle.std.specs.Prelude.{◌≡◌, ℕ, zero, suc, ◌+◌, ◌%◌, min, max, Bool, true, false, not, ◌&&◌, ◌||◌, nat_lt, Option, Some, None, is_some, option_map, slice_get, if◌then◌else◌}
use Rattle.std.specs.Option.{option_map_or, option_and_then}
use Rattle.trees.specs.declared.declaration.ScalarType.{ScalarType}
use Rattle.trees.specs.declared.declaration.ScalarType.TheVariants as scalars
use Rattle.trees.specs.declared.expression.BinaryOperator.{BinaryOperator}
use Rattle.trees.specs.declared.expression.BinaryOperator.TheVariants as operators
use Rattle.typed_trees.specs.declared.parts.ShiftFunction.{ShiftFunction}
use Rattle.typed_trees.specs.declared.parts.ShiftFunction.TheVariants.{ShiftLeft, ShiftRight}
use Rattle.trees.specs.internal.Functions.{byte_taken, for_byte}
use Rattle.meaning.specs.Values.{result_of_one, shifted}
use Rattle.treecode.specs.declared.expression.Expression.{Expression}
use Rattle.treecode.specs.declared.expression.ExpressionForm.{ExpressionForm}
use Rattle.treecode.specs.declared.expression.ExpressionForm.TheVariants as forms
use Rattle.treecode.specs.declared.expression.ExpressionNumber.{ExpressionNumber}
use Rattle.treecode.specs.declared.lists.Range.{Range}
use Rattle.treecode.specs.declared.place.Home.{Home}
use Rattle.treecode.specs.declared.place.Home.TheVariants as homes
use Rattle.treecode.specs.declared.place.Location.{Location}
use Rattle.treecode.specs.declared.place.Location.TheVariants as locations
use Rattle.treecode.specs.declared.place.Place.{Place}
use Rattle.treecode.specs.declared.place.Place.TheVariants.{Number, Code}
use Rattle.treecode.specs.declared.reference.Reference.{Reference}
use Rattle.treecode.specs.declared.reference.Subscript.{Subscript}
use Rattle.treecode.specs.declared.reference.Target.{Target}
use Rattle.treecode.specs.declared.reference.Target.TheVariants as targets
use Rattle.treecode.specs.declared.traits.Keeps.{Keeps}
use Rattle.treecode.specs.declared.traits.Traits.{Traits}
use Rattle.treecode.specs.internal.Homes.{number_of_place}
use Rattle.treecode.specs.internal.Known.{converted_place, function_of_place, known_distance, known_number, place_of_part, result_of_known, shift_of_known}
use Rattle.treecode.specs.internal.Nodes.{Nodes, home_at}

abbrev pub keeps_both : Keeps
keeps_both = record { a = true; de = true }

abbrev pub keeps_none : Keeps
keeps_none = record { a = false; de = false }

-- the traits of an unknown expression
abbrev pub no_traits : Traits
no_traits = record {
  known = None;
  height = 0;
  scalar = scalars.Byte;
  is_quiet = false;
  stores_nothing = false;
  is_free = false;
  keeps = keeps_none;
}

-- the traits of the expression with this number
abbrev pub traits_at : Nodes → ExpressionNumber → Traits
traits_at nodes number =
    option_map_or (λ (expression : Expression). expression.traits) (slice_get nodes.expressions number.index)
    no_traits

abbrev pub known_at : Nodes → ExpressionNumber → Option Place
known_at nodes number = (traits_at nodes number).known

abbrev pub number_at : Nodes → ExpressionNumber → Option ℕ
number_at nodes number = known_number (known_at nodes number)

-- the number of bytes that a subscript, if there is one, adds to an address, if known
abbrev pub distance_of : Nodes → Option Subscript → Option ℕ
distance_of nodes None = Some 0
distance_of nodes (Some subscript) = known_distance subscript.stride (number_at nodes subscript.index)

-- the place in memory of an object or a part of it, if that place is known
abbrev pub place_of_reference : Nodes → Reference → Option Place
place_of_reference nodes reference =
    place_of_part (home_at nodes.homes reference.object) reference.offset
    (distance_of nodes reference.subscript)
    (distance_of nodes reference.member_subscript)

-- the value of an expression, if it is known as a number or a relocatable address
abbrev pub known_of : Nodes → ScalarType → ExpressionForm → Option Place
known_of nodes scalar (forms.Number number) = Some (Number number)
known_of nodes scalar (forms.Location reference) = place_of_reference nodes reference
known_of nodes scalar (forms.List offset) = Some (Code offset)
known_of nodes scalar (forms.Conversion inner) =
    option_and_then (converted_place scalar) (known_at nodes inner)
known_of nodes scalar (forms.Unary operator operand) =
    option_map (λ number. Number (result_of_one scalar operator number)) (number_at nodes operand)
known_of nodes scalar (forms.Binary operands operator left right) =
    result_of_known operands operator (known_at nodes left) (known_at nodes right)
known_of nodes scalar (forms.Function function operand) =
    option_and_then (function_of_place function) (known_at nodes operand)
known_of nodes scalar (forms.Shift function value count) =
    shift_of_known (shifted scalar function) (number_at nodes value) (number_at nodes count)
known_of nodes scalar form = None

-- The height of an expression, as the stack charge counts it, at most 65535.
abbrev pub height_at : Nodes → ExpressionNumber → ℕ
height_at nodes number = (traits_at nodes number).height

abbrev pub height_of_subscript : Nodes → Option Subscript → ℕ
height_of_subscript nodes None = 0
height_of_subscript nodes (Some subscript) = height_at nodes subscript.index

abbrev pub height_of_reference : Nodes → Reference → ℕ
height_of_reference nodes reference =
    min
    (1
    + max (height_of_subscript nodes reference.subscript)
    (height_of_subscript nodes reference.member_subscript))
    65535

abbrev pub height_of_target : Nodes → Target → ℕ
height_of_target nodes (targets.Stored from to reference) = height_of_reference nodes reference
height_of_target nodes (targets.Sent from port) = 1

-- the height of an argument; 0 if absent
abbrev pub height_of_argument : Nodes → Option ExpressionNumber → ℕ
height_of_argument nodes argument = option_map_or (height_at nodes) argument 0

-- the greatest height of `count` arguments in a row, from a first one on
abbrev pub height_of_arguments : Nodes → (first count : ℕ) → ℕ
height_of_arguments nodes first zero = 0
height_of_arguments nodes first (suc count) =
    max (height_of_argument nodes (slice_get nodes.arguments first))
    (height_of_arguments nodes (suc first) count)

abbrev pub height_of_call : Nodes → Range → ℕ
height_of_call nodes arguments =
    min (1 + arguments.count + height_of_arguments nodes arguments.first arguments.count) 65535

abbrev pub height_of_form : Nodes → ExpressionForm → ℕ
height_of_form nodes (forms.Number number) = 1
height_of_form nodes (forms.Value reference) = height_of_reference nodes reference
height_of_form nodes (forms.Location reference) = height_of_reference nodes reference
height_of_form nodes (forms.List offset) = 1
height_of_form nodes (forms.Conversion inner) = height_at nodes inner
height_of_form nodes (forms.Assignment target value) =
    min (1 + max (height_of_target nodes target) (height_at nodes value)) 65535
height_of_form nodes (forms.Unary operator operand) = min (1 + height_at nodes operand) 65535
height_of_form nodes (forms.Binary operands operator left right) =
    min (1 + max (height_at nodes left) (height_at nodes right)) 65535
height_of_form nodes (forms.Call procedure arguments) = height_of_call nodes arguments
height_of_form nodes (forms.Function function operand) = min (2 + height_at nodes operand) 65535
height_of_form nodes (forms.Shift function value count) =
    min (3 + max (height_at nodes value) (height_at nodes count)) 65535
height_of_form nodes (forms.Input port) = 3

-- Whether evaluating an expression changes nothing: it calls nothing, stores nothing and reads no port.
abbrev pub quiet_at : Nodes → ExpressionNumber → Bool
quiet_at nodes number = (traits_at nodes number).is_quiet

abbrev pub subscript_is_quiet : Nodes → Option Subscript → Bool
subscript_is_quiet nodes None = true
subscript_is_quiet nodes (Some subscript) = quiet_at nodes subscript.index

abbrev pub reference_is_quiet : Nodes → Reference → Bool
reference_is_quiet nodes reference =
    subscript_is_quiet nodes reference.subscript && subscript_is_quiet nodes reference.member_subscript

abbrev pub is_quiet_form : Nodes → ExpressionForm → Bool
is_quiet_form nodes (forms.Number number) = true
is_quiet_form nodes (forms.Value reference) = reference_is_quiet nodes reference
is_quiet_form nodes (forms.Location reference) = reference_is_quiet nodes reference
is_quiet_form nodes (forms.List offset) = true
is_quiet_form nodes (forms.Conversion inner) = quiet_at nodes inner
is_quiet_form nodes (forms.Assignment target value) = false
is_quiet_form nodes (forms.Unary operator operand) = quiet_at nodes operand
is_quiet_form nodes (forms.Binary operands operator left right) = quiet_at nodes left && quiet_at nodes right
is_quiet_form nodes (forms.Call procedure arguments) = false
is_quiet_form nodes (forms.Function function operand) = quiet_at nodes operand
is_quiet_form nodes (forms.Shift function value count) = quiet_at nodes value && quiet_at nodes count
is_quiet_form nodes (forms.Input port) = false

-- Whether an expression calls nothing and stores nothing.
abbrev pub storing_nothing_at : Nodes → ExpressionNumber → Bool
storing_nothing_at nodes number = (traits_at nodes number).stores_nothing

abbrev pub subscript_stores_nothing : Nodes → Option Subscript → Bool
subscript_stores_nothing nodes None = true
subscript_stores_nothing nodes (Some subscript) = storing_nothing_at nodes subscript.index

abbrev pub reference_stores_nothing : Nodes → Reference → Bool
reference_stores_nothing nodes reference =
    subscript_stores_nothing nodes reference.subscript
    && subscript_stores_nothing nodes reference.member_subscript

abbrev pub stores_nothing_in_form : Nodes → ExpressionForm → Bool
stores_nothing_in_form nodes (forms.Number number) = true
stores_nothing_in_form nodes (forms.Value reference) = reference_stores_nothing nodes reference
stores_nothing_in_form nodes (forms.Location reference) = reference_stores_nothing nodes reference
stores_nothing_in_form nodes (forms.List offset) = true
stores_nothing_in_form nodes (forms.Conversion inner) = storing_nothing_at nodes inner
stores_nothing_in_form nodes (forms.Assignment target value) = false
stores_nothing_in_form nodes (forms.Unary operator operand) = storing_nothing_at nodes operand
stores_nothing_in_form nodes (forms.Binary operands operator left right) =
    storing_nothing_at nodes left && storing_nothing_at nodes right
stores_nothing_in_form nodes (forms.Call procedure arguments) = false
stores_nothing_in_form nodes (forms.Function function operand) = storing_nothing_at nodes operand
stores_nothing_in_form nodes (forms.Shift function value count) =
    storing_nothing_at nodes value && storing_nothing_at nodes count
stores_nothing_in_form nodes (forms.Input port) = true

-- the form of the expression with this number; the given one if there is no such expression
abbrev pub form_at : Nodes → ExpressionNumber → ExpressionForm → ExpressionForm
form_at nodes number form =
    option_map_or (λ (expression : Expression). expression.form) (slice_get nodes.expressions number.index)
    form

-- the form of the operand of a conversion, or of a function that takes its low byte, which has the same low byte; else
-- the form itself
abbrev pub same_low_byte : Nodes → ExpressionForm → ExpressionForm
same_low_byte nodes (forms.Conversion inner) = form_at nodes inner (forms.Conversion inner)
same_low_byte nodes (forms.Function function operand) =
    for_byte (byte_taken function) (form_at nodes operand (forms.Function function operand))
    (forms.Function function operand)
same_low_byte nodes form = form

-- the second byte of an ADDRESS in memory
abbrev pub byte_after : ScalarType → ExpressionForm → Option Reference
byte_after scalars.Address (forms.Value reference) =
    Some (record reference { offset = (reference.offset + 1) % 65536 })
byte_after scalar form = None

-- the part of memory that holds the high byte of an expression, if any
abbrev pub high_in_memory : Nodes → ExpressionNumber → Option Reference
high_in_memory nodes operand =
    option_and_then (λ (expression : Expression). byte_after expression.traits.scalar expression.form)
    (slice_get nodes.expressions operand.index)

abbrev pub memory_of_inner : Nodes → ExpressionForm → Option Reference
memory_of_inner nodes (forms.Value reference) = Some reference
memory_of_inner nodes (forms.Function function operand) =
    for_byte (byte_taken function) None (high_in_memory nodes operand)
memory_of_inner nodes form = None

-- the part of memory that holds the low byte of an expression, if any
abbrev pub memory_of_form : Nodes → ExpressionForm → Option Reference
memory_of_form nodes form = memory_of_inner nodes (same_low_byte nodes (same_low_byte nodes form))

-- whether the low byte of an expression is in memory at a known place
abbrev pub is_direct : Nodes → ExpressionForm → Bool
is_direct nodes form =
    option_map_or (λ (reference : Reference). is_some (place_of_reference nodes reference))
    (memory_of_form nodes form) false

-- whether an operator has an instruction with an immediate operand
abbrev pub has_immediate : BinaryOperator → Bool
has_immediate operators.Or = true
has_immediate operators.Xor = true
has_immediate operators.And = true
has_immediate operators.Add = true
has_immediate operators.Subtract = true
has_immediate operator = false

-- whether a shift by a number needs only the low byte of a value of this type
abbrev pub is_of_low_byte : ScalarType → ShiftFunction → Bool
is_of_low_byte scalars.Address ShiftRight = false
is_of_low_byte scalar function = true

abbrev pub free_at : Nodes → ExpressionNumber → Bool
free_at nodes number = (traits_at nodes number).is_free

abbrev pub is_free_with : Nodes → (left right : ExpressionNumber) → Bool
is_free_with nodes left right = free_at nodes left && is_some (number_at nodes right)

-- the same, if no value is known
abbrev pub is_free_form : Nodes → ScalarType → ExpressionForm → Bool
is_free_form nodes scalar (forms.Value reference) = is_direct nodes (forms.Value reference)
is_free_form nodes scalar (forms.Conversion inner) = free_at nodes inner
is_free_form nodes scalar (forms.Unary operator operand) = free_at nodes operand
is_free_form nodes scalar (forms.Binary operands operator left right) =
    has_immediate operator && is_free_with nodes left right
is_free_form nodes scalar (forms.Function function operand) =
    for_byte (byte_taken function) (free_at nodes operand) (is_direct nodes (forms.Function function operand))
is_free_form nodes scalar (forms.Shift function value count) =
    is_of_low_byte scalar function && is_free_with nodes value count
is_free_form nodes scalar (forms.Input port) = true
is_free_form nodes scalar form = false

-- Whether code that changes only A and the flags can put the low byte of an expression into A.
abbrev pub is_free_of : Nodes → ScalarType → Option Place → ExpressionForm → Bool
is_free_of nodes scalar (Some place) form = is_some (number_of_place place)
is_free_of nodes scalar None form = is_free_form nodes scalar form

-- The registers that the code of a computed subscript keeps. A known one goes into the offset.
abbrev pub keeps_at : Nodes → ExpressionNumber → Keeps
keeps_at nodes number = (traits_at nodes number).keeps

abbrev pub keeps_of_index : Nodes → ExpressionNumber → Option ℕ → Option Keeps
keeps_of_index nodes index (Some number) = None
keeps_of_index nodes index None = Some (keeps_at nodes index)

abbrev pub keeps_of_subscript : Nodes → Option Subscript → Option Keeps
keeps_of_subscript nodes None = None
keeps_of_subscript nodes (Some subscript) =
    keeps_of_index nodes subscript.index (number_at nodes subscript.index)

-- the registers that the code for the sum of up to two computed subscripts keeps
abbrev pub keeps_of_sum : (first second : Option Keeps) → Keeps
keeps_of_sum (Some first) (Some second) = record { a = first.a && second.a; de = false }
keeps_of_sum (Some first) None = first
keeps_of_sum None (Some second) = second
keeps_of_sum None None = keeps_both

abbrev pub is_static_location : Location → Bool
is_static_location (locations.Static place) = true
is_static_location (locations.Frame variable offset) = false

-- the registers that the code keeps which adds the address in a base
abbrev pub keeps_with_base : Location → (is_computed : Bool) → Keeps → Keeps
keeps_with_base base is_computed keeps =
    record { a = keeps.a && is_static_location base; de = keeps.de && not is_computed }

abbrev pub keeps_of_part : Home → (first second : Option Keeps) → Keeps
keeps_of_part (homes.Based base) first second =
    keeps_with_base base (is_some first || is_some second) (keeps_of_sum first second)
keeps_of_part home first second = keeps_of_sum first second

-- the registers that the code putting the address of an object or a part of it into HL keeps
abbrev pub keeps_of_address : Nodes → Reference → Keeps
keeps_of_address nodes reference =
    keeps_of_part (home_at nodes.homes reference.object) (keeps_of_subscript nodes reference.subscript)
    (keeps_of_subscript nodes reference.member_subscript)

-- the registers that the code for the value of a scalar keeps
abbrev pub keeps_of_value : Nodes → ScalarType → Reference → Keeps
keeps_of_value nodes scalars.Byte reference = keeps_of_address nodes reference
keeps_of_value nodes scalars.Address reference =
    record { a = is_some (place_of_reference nodes reference); de = (keeps_of_address nodes reference).de }

-- the registers that the code for the low byte of an expression, zero-extended, keeps
abbrev pub keeps_of_byte : Nodes → ExpressionForm → Keeps
keeps_of_byte nodes form = option_map_or (keeps_of_address nodes) (memory_of_form nodes form) keeps_none

-- the registers that the code of an operand as an ADDRESS keeps
abbrev pub keeps_of_extended : Nodes → ExpressionForm → Traits → Keeps
keeps_of_extended nodes form traits = by_type traits.scalar
  where
    by_type : ScalarType → Keeps
    by_type scalars.Byte = keeps_of_byte nodes form
    by_type scalars.Address = traits.keeps

-- the registers that the code of an operator on two ADDRESS values keeps
abbrev pub keeps_of_binary : Nodes → BinaryOperator → (left right : ExpressionNumber) → Keeps
keeps_of_binary nodes operators.Add left right =
    if is_some (known_at nodes right) then keeps_at nodes left
    else if is_some (known_at nodes left) then keeps_at nodes right
    else keeps_none
keeps_of_binary nodes operators.Multiply left right =
    if is_some (number_at nodes right) then keeps_at nodes left
    else if is_some (number_at nodes left) then keeps_at nodes right
    else keeps_none
keeps_of_binary nodes operators.Subtract left right =
    if is_some (number_at nodes right) then keeps_at nodes left else keeps_none
keeps_of_binary nodes operator left right = keeps_none

-- the registers that the code of a shift of an ADDRESS keeps; for a shift left by less than 8, those that the
-- code of the value keeps
abbrev pub keeps_of_shift : Nodes → ShiftFunction → (value : ExpressionNumber) → (count : Option ℕ) → Keeps
keeps_of_shift nodes ShiftLeft value (Some count) =
    if nat_lt count 8 then keeps_at nodes value else keeps_none
keeps_of_shift nodes function value count = keeps_none

-- the same, if no value is known
abbrev pub keeps_of_form : Nodes → ScalarType → ExpressionForm → Keeps
keeps_of_form nodes scalar (forms.Value reference) = keeps_of_value nodes scalar reference
keeps_of_form nodes scalar (forms.Location reference) = keeps_of_address nodes reference
keeps_of_form nodes scalars.Address (forms.Conversion inner) =
    keeps_of_extended nodes (forms.Conversion inner) (traits_at nodes inner)
keeps_of_form nodes scalars.Byte (forms.Conversion inner) = keeps_of_byte nodes (forms.Conversion inner)
keeps_of_form nodes scalars.Address (forms.Function function operand) =
    keeps_of_extended nodes (forms.Function function operand) (traits_at nodes operand)
keeps_of_form nodes scalars.Byte (forms.Function function operand) =
    keeps_of_byte nodes (forms.Function function operand)
keeps_of_form nodes scalars.Address (forms.Binary operands operator left right) =
    keeps_of_binary nodes operator left right
keeps_of_form nodes scalars.Address (forms.Shift function value count) =
    keeps_of_shift nodes function value (number_at nodes count)
keeps_of_form nodes scalar form = keeps_none

-- The registers that the code putting the value of an expression into HL keeps.
abbrev pub keeps_of : Nodes → ScalarType → Option Place → ExpressionForm → Keeps
keeps_of nodes scalar (Some place) form = keeps_both
keeps_of nodes scalar None form = keeps_of_form nodes scalar form

-- the traits of an expression of a type and a form
unfoldable pub traits_of : Nodes → ScalarType → ExpressionForm → Traits
traits_of nodes scalar form = record {
  known = known_of nodes scalar form;
  height = height_of_form nodes form;
  scalar = scalar;
  is_quiet = is_quiet_form nodes form;
  stores_nothing = stores_nothing_in_form nodes form;
  is_free = is_free_of nodes scalar (known_of nodes scalar form) form;
  keeps = keeps_of nodes scalar (known_of nodes scalar form) form;
}

-- the expression of a type and a form; its parts have been added before
abbrev pub expression_of : Nodes → ScalarType → ExpressionForm → Expression
expression_of nodes scalar form = record { form = form; traits = traits_of nodes scalar form }

-- the traits of each expression follow from its type, its form and its parts
abbrev pub KeepTraits : Nodes → Type 0
KeepTraits nodes =
    (number : ℕ) (expression : Expression) → slice_get nodes.expressions number ≡ Some expression
    → expression.traits ≡ traits_of nodes expression.traits.scalar expression.form
