-- The typing of calls of procedures and of built-in functions, by functions.
use Rattle.std.specs.Prelude.{ℕ, ◌-◌, ◌==◌, length, Some, None, Ok}
use Rattle.trees.specs.declared.identifier.Identifier.{Identifier}
use Rattle.trees.specs.declared.identifier.Place.{Place}
use Rattle.trees.specs.Trees.{ReferenceLeaf, ReferenceTo, MemberTree, NoMember, MemberOf, ArgumentTrees, NoArguments, MoreArguments}
use Rattle.names.specs.declared.entity.Binding.{Binding}
use Rattle.names.specs.declared.entity.Binding.TheVariants.{Declared, BuiltInName}
use Rattle.names.specs.declared.entity.BuiltIn.{BuiltIn}
use Rattle.names.specs.declared.entity.BuiltIn.TheVariants as built_ins
use Rattle.names.specs.declared.entity.Entity.TheVariants.{Object, Procedure}
use Rattle.typing.specs.declared.fault.Cause.TheVariants.{UnknownName, MemberMismatch, ArgumentCount, ValueOfUntyped, NoVariable, NotMeasurable}
use Rattle.typed_trees.specs.declared.parts.Measure.{Measure}
use Rattle.typed_trees.specs.declared.parts.Measure.TheVariants as measures
use Rattle.typed_trees.specs.declared.parts.ShiftFunction.{ShiftFunction}
use Rattle.typed_trees.specs.declared.parts.ShiftFunction.TheVariants as shifts
use Rattle.trees.specs.declared.functions.UnaryFunction.{UnaryFunction}
use Rattle.typed_trees.specs.declared.parts.NumberOrigin.TheVariants.{FromMeasure}
use Rattle.typed_trees.specs.TypedTrees.{TypedExpression, NumberNode, ValueNode, CallNode, FunctionNode, InputNode, TypedArguments, NoArguments as NoTyped, MoreArguments as MoreTyped, TypedObject, TypedProcedure, Constants}
use Rattle.typed_trees.specs.Sizes.{size_of_member, size_of_object, member_named}
use Rattle.typing.specs.internal.Checks.{Checked, ◌>>=◌, refuse, require, found}
use Rattle.typing.specs.Constants.{type_of_number}
use Rattle.typing.specs.Nodes.{shift_node, arguments_as}
use Rattle.typing.specs.References.{Known, place_of, members_of, Measured}
use Rattle.typing.specs.internal.ReferenceChecks.{Given, GivenReference, count_of_given, bound, object_of, procedure_of, scalar_part, port_of, without_member}

-- the arguments of a call, as many as there are parameters, and of their types
abbrev pub call_arguments :
    TypedProcedure → (place : Place) → Given → Constants → Checked (TypedArguments × Constants)
call_arguments procedure place given constants = do
  _ ← require (count_of_given given == length procedure.parameter_types) ArgumentCount place
  typed ← given.typed constants
  Ok (arguments_as procedure.parameter_types typed.0, typed.1)

-- a call of a typed procedure
abbrev pub call_of :
    (number : ℕ) → TypedProcedure → GivenReference → Constants → Checked (TypedExpression × Constants)
call_of number procedure given constants = do
  result ← found procedure.result ValueOfUntyped (place_of given.name)
  typed ← call_arguments procedure (place_of given.name) given.arguments constants
  _ ← without_member given.member
  Ok (CallNode number result typed.0, typed.1)

abbrev pub measured_member : (number : ℕ) → TypedObject → MemberTree → Checked Measured
measured_member number object NoMember =
    Ok (record { object = number; member = None; dimension = object.dimension; size = size_of_object object })
measured_member number object (MemberOf name NoArguments) = do
  members ← found (members_of object.object_type) MemberMismatch (place_of name)
  place ← found (member_named members name.name) UnknownName (place_of name)
  Ok (record {
    object = number;
    member = Some place.position;
    dimension = place.member.dimension;
    size = size_of_member place.member;
  })
measured_member number object (MemberOf name subscripts) = refuse NotMeasurable (place_of name)

abbrev pub measured_object : Known → Binding → Identifier → MemberTree → Checked Measured
measured_object known (Declared (Object number)) name part = do
  object ← object_of known name number
  measured_member number object part
measured_object known binding name part = refuse NoVariable (place_of name)

-- the number that a measure is: LENGTH and LAST of an array alone
abbrev pub measure_of : Measure → Measured → (place : Place) → Checked ℕ
measure_of measures.Length measured place = found measured.dimension NotMeasurable place
measure_of measures.Last measured place = do
  count ← found measured.dimension NotMeasurable place
  Ok (count - 1)
measure_of measures.Size measured place = Ok measured.size

abbrev pub measure_node : Measure → Measured → (value : ℕ) → TypedExpression
measure_node measure measured value =
    NumberNode (type_of_number value) value (FromMeasure measure measured.object measured.member)

-- LENGTH, LAST or SIZE of a variable, which stands there alone, without subscripts
abbrev pub measurement : Known → Measure → (place : Place) → ArgumentTrees → Checked TypedExpression
measurement known of place (MoreArguments (ReferenceLeaf (ReferenceTo name NoArguments part)) NoArguments) = do
  binding ← bound known name
  measured ← measured_object known binding name part
  value ← measure_of of measured (place_of name)
  Ok (measure_node of measured value)
measurement known measure place trees = refuse NotMeasurable place

-- a built-in function of one value
abbrev pub function_of : UnaryFunction → (place : Place) → TypedArguments → Checked TypedExpression
function_of function place (MoreTyped operand NoTyped) = Ok (FunctionNode function operand)
function_of function place values = refuse ArgumentCount place

abbrev pub unary_function : UnaryFunction → GivenReference → Constants → Checked (TypedExpression × Constants)
unary_function function given constants = do
  _ ← require (count_of_given given.arguments == 1) ArgumentCount (place_of given.name)
  typed ← given.arguments.typed constants
  _ ← without_member given.member
  node ← function_of function (place_of given.name) typed.0
  Ok (node, typed.1)

-- SHL, SHR, ROL and ROR of a value and a count
abbrev pub shift_of : ShiftFunction → (place : Place) → TypedArguments → Checked TypedExpression
shift_of function place (MoreTyped value (MoreTyped count NoTyped)) = Ok (shift_node function value count)
shift_of function place values = refuse ArgumentCount place

abbrev pub shift_function : ShiftFunction → GivenReference → Constants → Checked (TypedExpression × Constants)
shift_function function given constants = do
  _ ← require (count_of_given given.arguments == 2) ArgumentCount (place_of given.name)
  typed ← given.arguments.typed constants
  _ ← without_member given.member
  node ← shift_of function (place_of given.name) typed.0
  Ok (node, typed.1)

-- INPUT of a port
abbrev pub input_value : GivenReference → Constants → Checked (TypedExpression × Constants)
input_value given constants = do
  port ← port_of (place_of given.name) given.arguments.trees
  _ ← without_member given.member
  Ok (InputNode port, constants)

abbrev pub number_of_variable :
    Known → Measure → GivenReference → Constants → Checked (TypedExpression × Constants)
number_of_variable known measure given constants = do
  node ← measurement known measure (place_of given.name) given.arguments.trees
  _ ← without_member given.member
  Ok (node, constants)

-- a built-in function; OUTPUT and MOVE give no value
abbrev pub built_in_value :
    Known → BuiltIn → GivenReference → Constants → Checked (TypedExpression × Constants)
built_in_value known built_ins.Input given constants = input_value given constants
built_in_value known built_ins.Output given constants = refuse ValueOfUntyped (place_of given.name)
built_in_value known (built_ins.Unary function) given constants = unary_function function given constants
built_in_value known built_ins.Length given constants =
    number_of_variable known measures.Length given constants
built_in_value known built_ins.Last given constants = number_of_variable known measures.Last given constants
built_in_value known built_ins.Size given constants = number_of_variable known measures.Size given constants
built_in_value known built_ins.ShiftLeft given constants = shift_function shifts.ShiftLeft given constants
built_in_value known built_ins.ShiftRight given constants = shift_function shifts.ShiftRight given constants
built_in_value known built_ins.RotateLeft given constants = shift_function shifts.RotateLeft given constants
built_in_value known built_ins.RotateRight given constants = shift_function shifts.RotateRight given constants
built_in_value known built_ins.Move given constants = refuse ValueOfUntyped (place_of given.name)

-- The value of a name by its binding: of a scalar, a typed procedure or a built-in function. A label, a
-- name that LITERALLY defines and an untyped procedure have none.
abbrev pub value_of_bound :
    Known → Binding → GivenReference → Constants → Checked (TypedExpression × Constants)
value_of_bound known (Declared (Object number)) given constants = do
  object ← object_of known given.name number
  part ← scalar_part number object given constants
  Ok (ValueNode part.1 part.0, part.2)
value_of_bound known (Declared (Procedure number)) given constants = do
  procedure ← procedure_of known given.name number
  call_of number procedure given constants
value_of_bound known (BuiltInName built_in) given constants = built_in_value known built_in given constants
value_of_bound known binding given constants = refuse NoVariable (place_of given.name)

abbrev pub value_of : Known → GivenReference → Constants → Checked (TypedExpression × Constants)
value_of known given constants = do
  binding ← bound known given.name
  value_of_bound known binding given constants
