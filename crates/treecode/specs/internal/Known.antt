-- Values that are known as numbers or relocatable addresses.
use Rattle.std.specs.Prelude.{ℕ, ◌-◌, ◌*◌, ◌%◌, List, Option, Some, None, option_map, slice_get}
use Rattle.std.specs.Option.{option_map_or, option_and_then}
use Rattle.trees.specs.declared.declaration.ScalarType.{ScalarType}
use Rattle.trees.specs.declared.declaration.ScalarType.TheVariants.{Byte, Address}
use Rattle.trees.specs.declared.expression.BinaryOperator.{BinaryOperator}
use Rattle.trees.specs.declared.expression.BinaryOperator.TheVariants.{Add, Subtract}
use Rattle.trees.specs.declared.functions.UnaryFunction.{UnaryFunction}
use Rattle.trees.specs.Functions.{type_of_function}
use Rattle.typed_trees.specs.TypedTrees.{TypedExpression, NumberNode, ValueNode, LocationNode, ListNode, ConversionNode, AssignmentNode, UnaryNode, BinaryNode, CallNode, FunctionNode, ShiftNode, InputNode, TypedReference, PartOf, Subscript, NoSubscript, At}
use Rattle.layout.specs.declared.slot.Slot.{Slot}
use Rattle.layout.specs.Storage.{Storage}
use Rattle.meaning.specs.Values.{as_type, function_of, result_of, result_of_one, shifted}
use Rattle.treecode.specs.declared.place.Home.{Home}
use Rattle.treecode.specs.declared.place.Home.TheVariants as homes
use Rattle.treecode.specs.declared.place.Place.{Place}
use Rattle.treecode.specs.declared.place.Place.TheVariants.{Number, Code}
use Rattle.treecode.specs.internal.Homes.{number_of_place, place_after}
use Rattle.treecode.specs.internal.Nodes.{home_at}

-- the value, if it is a number
abbrev pub known_number : Option Place → Option ℕ
known_number known = option_and_then number_of_place known

-- a relocatable address converted to a type; its low byte is not known
abbrev pub converted_address : ScalarType → Place → Option Place
converted_address Address place = Some place
converted_address Byte place = None

-- a known value converted to a type
abbrev pub converted_place : ScalarType → Place → Option Place
converted_place scalar (Number number) = Some (Number (as_type scalar number))
converted_place scalar place = converted_address scalar place

-- the result of a function of one known value; an ADDRESS that it gives is that value, and bytes of a relocatable address
-- are not known
abbrev pub function_of_place : UnaryFunction → Place → Option Place
function_of_place function (Number number) = Some (Number (function_of function number))
function_of_place function place = converted_address (type_of_function function) place

-- the result of an operator on two known ADDRESS values that are not both numbers
abbrev pub result_of_place : BinaryOperator → (left right : Place) → Option Place
result_of_place Add left (Number distance) = Some (place_after left distance)
result_of_place Add (Number distance) right = Some (place_after right distance)
result_of_place Subtract left (Number distance) = Some (place_after left ((65536 - distance) % 65536))
result_of_place operator left right = None

-- the result of an operator on two known values
abbrev pub result_of_places : ScalarType → BinaryOperator → (left right : Place) → Option Place
result_of_places operands operator (Number left) (Number right) =
    option_map Number (result_of operands operator left right)
result_of_places operands operator left right = result_of_place operator left right

abbrev pub result_of_known : ScalarType → BinaryOperator → (left right : Option Place) → Option Place
result_of_known operands operator left right =
    option_and_then (λ first. option_and_then (result_of_places operands operator first) right) left

-- the result of a shift on two known numbers
abbrev pub shift_of_known : (ℕ → ℕ → ℕ) → (number count : Option ℕ) → Option Place
shift_of_known shift number count =
    option_and_then (λ value. option_map (λ by. Number (shift value by)) count) number

-- the number of bytes that a subscript with a known value adds to an address
abbrev pub known_distance : (stride : ℕ) → (index : Option ℕ) → Option ℕ
known_distance stride index = option_map (λ number. (number * stride) % 65536) index

-- the place of a part of an object, from the number of bytes that each subscript adds
abbrev pub place_of_part : Home → (offset : ℕ) → (first second : Option ℕ) → Option Place
place_of_part (homes.Static place) offset first second =
    option_and_then
    (λ one. option_map (λ two. place_after (place_after (place_after place offset) one) two) second)
    first
place_of_part home offset first second = None

-- the address of a constant list, as an offset from the start of the code segment
abbrev pub offset_of_list : Storage → (list : ℕ) → ℕ
offset_of_list storage list =
    option_map_or (λ (slot : Slot). slot.offset % 65536) (slice_get storage.lists list) 0

abbrev mutual
  -- The value of an expression, exact in its type, if it is known as a number or a relocatable address.
  pub known_value : List Home → Storage → TypedExpression → Option Place
  known_value starts storage (NumberNode scalar number origin) = Some (Number number)
  known_value starts storage (ValueNode scalar reference) = None
  known_value starts storage (LocationNode reference) = known_place starts storage reference
  known_value starts storage (ListNode list) = Some (Code (offset_of_list storage list))
  known_value starts storage (ConversionNode scalar inner) =
      option_and_then (converted_place scalar) (known_value starts storage inner)
  known_value starts storage (AssignmentNode target value) = None
  known_value starts storage (UnaryNode scalar operator operand) =
      option_map (λ number. Number (result_of_one scalar operator number))
      (known_number (known_value starts storage operand))
  known_value starts storage (BinaryNode operands operator left right) =
      result_of_known operands operator (known_value starts storage left) (known_value starts storage right)
  known_value starts storage (CallNode procedure scalar given) = None
  known_value starts storage (FunctionNode function operand) =
      option_and_then (function_of_place function) (known_value starts storage operand)
  known_value starts storage (ShiftNode scalar function value count) =
      shift_of_known (shifted scalar function) (known_number (known_value starts storage value))
      (known_number (known_value starts storage count))
  known_value starts storage (InputNode port) = None

  -- the place of an object or a part of it, if known
  pub known_place : List Home → Storage → TypedReference → Option Place
  known_place starts storage (PartOf object subscript member offset member_subscript) =
      place_of_part (home_at starts object) (offset % 65536) (known_subscript starts storage subscript)
      (known_subscript starts storage member_subscript)

  -- the number of bytes that a subscript, if there is one, adds to an address, if known
  pub known_subscript : List Home → Storage → Subscript → Option ℕ
  known_subscript starts storage NoSubscript = Some 0
  known_subscript starts storage (At stride count index) =
      known_distance (stride % 65536) (known_number (known_value starts storage index))
