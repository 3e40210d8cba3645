-- The names that the proofs of this crate cite, passed on from one place. Declares nothing.
pub use Rattle.std.proofs.Common.{◌≡◌, ◌∙◌, ℕ, zero, suc, ◌+◌, ◌-◌, ◌*◌, ◌<◌, ◌≤◌, ◌==◌, Bool, true, false, List, [], ◌∷◌, ◌++◌, length, Option, Some, None, Ok, Err, nat_le, inl, inr, ◌⊎◌, refl, sym, ap, subst, arith, slice_get}
pub use Rattle.std.specs.Prelude.{not}
pub use Rattle.std.proofs.lemmas.Bool.{not-false, not-true, leb-true, leb-false, le-leb, lt-leb, eqb-true, eqb-false, eq-eqb, ne_eqb}
pub use Rattle.trees.specs.declared.declaration.ScalarType.{ScalarType}
pub use Rattle.trees.specs.declared.identifier.Identifier.{Identifier}
pub use Rattle.trees.specs.declared.identifier.Place.{Place}
pub use Rattle.trees.specs.Trees.{ConstantTree, NumberConstant, StringConstant, StringTree, ExpressionTree, ConstantLeaf, ReferenceLeaf, LocationLeaf, ListLeaf, ParenthesizedNode, AssignmentNode, UnaryNode, BinaryNode, ReferenceTree, ReferenceTo, MemberTree, NoMember, MemberOf, ArgumentTrees, NoArguments, MoreArguments}
pub use Rattle.names.specs.declared.entity.Binding.{Binding}
pub use Rattle.names.specs.declared.entity.Binding.TheVariants.{Declared, BuiltInName, UnknownLabel}
pub use Rattle.names.specs.declared.entity.BuiltIn.{BuiltIn}
pub use Rattle.names.specs.declared.entity.Entity.TheVariants.{Object, Procedure, Label, Definition}
pub use Rattle.names.specs.BuiltIns.{binding_of}
pub use Rattle.typed_trees.specs.declared.members.FoundMember.{FoundMember}
pub use Rattle.typed_trees.specs.declared.parts.Measure.{Measure}
pub use Rattle.typed_trees.specs.declared.parts.ShiftFunction.{ShiftFunction}
pub use Rattle.typed_trees.specs.declared.parts.TypedMember.{TypedMember}
pub use Rattle.trees.specs.declared.functions.UnaryFunction.{UnaryFunction}
pub use Rattle.typed_trees.specs.ExpressionTypes.{type_of}
pub use Rattle.typed_trees.specs.Sizes.{size_of_scalar, size_of_element, member_named}
pub use Rattle.typed_trees.specs.TypedTrees.{TypedExpression, CallNode, FunctionNode, InputNode, TypedReference, PartOf, Subscript, NoSubscript, TypedArguments, NoArguments as NoTyped, MoreArguments as MoreTyped, ObjectType, ScalarObject, StructureObject, TypedObject, TypedProcedure, Constants}
pub use Rattle.typing.specs.declared.fault.Cause.{Cause}
pub use Rattle.typing.specs.declared.fault.Cause.TheVariants.{ArgumentCount, CallOfNoProcedure, ConstantWritten, MemberMismatch, NoLocation, NoVariable, NotMeasurable, PortNotConstant, PortTooLarge, StringNotNumber, SubscriptMismatch, UnknownName, ValueOfUntyped}
pub use Rattle.typing.specs.declared.fault.Fault.{Fault}
pub use Rattle.typing.specs.internal.Checks.{Checked, ◌>>=◌, require, found}
pub use Rattle.typing.specs.Constants.{number_of_characters}
pub use Rattle.typing.specs.internal.ConstantChecks.{number_of_constant}
pub use Rattle.typing.specs.internal.Expressions.{number_node, expression, given_reference, given_member, arguments}
pub use Rattle.typing.specs.internal.Functions.{call_arguments, call_of, measured_member, measured_object, measure_of, measurement, number_of_variable, function_of, unary_function, shift_of, shift_function, input_value, built_in_value, value_of_bound, value_of}
pub use Rattle.typing.specs.References.{Measured, Known, Extent, AnElement, AlsoTheWhole, number_of_arguments, members_of, scalar_of, has_location, is_constant}
pub use Rattle.typing.specs.Nodes.{as_type, arguments_as, shift_node, Destination, Variable, Port, target_of}
pub use Rattle.typing.specs.internal.ReferenceChecks.{Given, GivenMember, GivenReference, takes_subscripts, subscript_of, FoundPart, whole_part, part_with_member, part_of, scalar_part, location_of_bound, location_of, port_of, port_of_character, without_member, destination_of_bound, destination_of}
pub use Rattle.typing_rules.specs.Constants.{IsNumber, digits, one_character, two_characters, IsPort, port_number, port_character}
pub use Rattle.typing_rules.specs.Names.{StandsFor, IsUnknown, IsVariable, IsProcedure, IsBuiltIn, IsNoVariable, IsNoProcedure, at_name}
pub use Rattle.typing_rules.specs.Expressions.{named_shift, named_measure, IsMember, IsMeasured, a_variable, a_member, IsMeasure, a_length, a_last, a_size, ExpressionTyping, constant, scalar_value, typed_call, input, function_call, shift_call, measure_call, location, constant_list, parenthesized, embedded_assignment, unary, binary, ValuesTyping, no_values, next_value, SubscriptTyping, no_array, element, whole_array, PartTyping, without_member as has_no_member, with_member as has_member, TargetTyping, scalar_target, output}
pub use Rattle.typing_rules.specs.ExpressionFaults.{IsNoNumber, PortFault, number_too_great, character_too_great, no_character, no_constant, MemberFault, no_structure, no_such_member, MeasureFault, no_reference, unknown_variable, no_variable, subscripted, in_member, no_dimension, IsWrongNumber, of_no_array, more_than_one, no_element, HasNoValue, TakesValues, takes_one, takes_two, ExpressionFault, no_number, in_value, in_location, in_parentheses, in_target, in_assigned_value, in_operand, in_left, in_right, ValuesFault, in_first, in_others, ValueFault, unknown_value, no_value, in_part, no_scalar, no_procedure, untyped, value_of_output, value_of_move, wrong_count, in_argument, wrong_count_of_values, in_values, in_port, in_measure, member_of_result, LocationFault, unknown_location, location_of_procedure, location_in_frame, location_of_no_variable, in_located_part, TargetFault, unknown_target, no_target, target_with_data, in_target_part, no_scalar_target, in_output, member_of_output, SubscriptFault, wrong_number, in_subscript, PartFault, in_subscripts, no_member, in_member_subscripts}
