-- The names that the proofs of this crate cite, passed on from one place. Declares nothing.
pub use Rattle.std.proofs.{Common.{Err, List, None, Ok, Option, Some, [], add-one, ap, append_assoc, arith, drop, false, get_or, length, length-append, map, min, nat_le, nat_lt, refl, replicate, rules, slice_get, subst, suc, sym, tests, true, zero, ℕ, ◌++◌, ◌+◌, ◌-◌, ◌/◌, ◌<◌, ◌∙◌, ◌∷◌, ◌≡◌, ◌≤◌}, Math.ListN.{drop_of_length-le}, Math.Nat.{add-div_right}, lemmas.List.{append-nil, length-replicate}, lemmas.List.Folds.{flat_map-map}, lemmas.Option.{slice_get-get_or}}
pub use Rattle.std.specs.{List.{flat_map, repeat}, Option.{option_map}, Vec.Iter.{into_iter_items, into_iter_len}}
pub use Rattle.trees.proofs.Lists.{drop_found, drop_item}
pub use Rattle.trees.specs.{Trees.{ArgumentTrees, AssignmentNode, BinaryNode, ConstantLeaf, ConstantOrigin, ListLeaf, LocationLeaf, LocationOrigin, MemberOf, MemberTree, MoreArguments, NoArguments, NumberConstant, OffsetTree, OriginTree, ParenthesizedNode, ReferenceLeaf, ReferenceTo, RestrictedTree, StringConstant, StringTree, UnaryNode}, internal.Views.{argument_trees, constant_tree, expression_tree, offset_tree, reference_tree, restricted_tree, string_tree, target_trees}, declared.declaration.{Offset.{Offset}, Restricted.{Restricted}}, declared.declaration.ScalarType.{ScalarType, TheVariants.{Address, Byte}}, declared.expression.Expression.{Expression}, declared.expression.Reference.{None', Reference, Reference', Some', out-Reference, the_lemmas}, declared.identifier.Constant.{Constant}, declared.identifier.Identifier.{Identifier}, declared.identifier.Place.{Place}, declared.functions.UnaryFunction.{UnaryFunction}}
pub use Rattle.typed_trees.specs.{Sizes.{capped, scalars_of_element, scalars_of_elements}, TypedTrees.{Constants, MoreArguments as More, NoSubscript, ObjectType, ScalarObject, StructureObject, TypedArguments, TypedObject}, Views.{arguments_view, expression_view, type_view}, declared.expression.TypedExpression.{TypedExpression as Typed, TypedExpression}, declared.members.FoundMember.{FoundMember}, declared.parts.InitialValue.{InitialValue, TheVariants.{ByteValue, LocationValue, WordValue}}, declared.parts.Measure.{Measure}, declared.parts.ShiftFunction.{ShiftFunction}}
pub use Rattle.typing.proofs.Loops.{answers_fault, fails_more, made_ended, made_fails, made_goes_on, state_ended, state_fails, state_goes_on, then_then}
pub use Rattle.typing.specs.{Constants.{bytes_of_constant, bytes_of_constants, number_of_characters}, Filling.{ANumber, AsListed, Filled, FromObject, OtherModulesToo, RestrictedValue, and_before, elements_for, enough_elements, enough_elements as elements_enough, filled_with, place_of_origin}, Nodes.{Destination, arguments_as}, References.{Known, number_of_arguments}, declared.fault.Cause.TheVariants.{ArgumentCount, ImpliedWithoutValues, NotByte, NotMeasurable, PortNotConstant, StringNotNumber}, declared.fault.Fault.{Fault}, internal.Checks.{Checked, found, refuse, require, ◌>>=◌}, internal.ConstantChecks.{with_offsets as sum_with_offsets}, internal.Expressions.{arguments, expression, given_reference}, internal.FillingChecks.{contents, contents_as_listed, fill, fill_characters, fill_characters as fill_from, fill_scalar, fill_string, fill_value, restricted_value}, internal.Functions.{function_of, measured_member, measurement, shift_of}, internal.ReferenceChecks.{destination_of, port_of, subscript_of}, internal.Results.{FailsBy, fault_in, in_front as put_in_front}, internal.StatementChecks.{destinations}}
pub use Rattle.typed_expressions.specs.internal.Views.{constants_view, contents_view, destination_view, known_view}
pub use Rattle.typed_expressions.specs.declared.known.Known.{Known as CodeKnown}
pub use Rattle.typed_expressions.specs.internal.Fillings.{elements_listed, filled_view, onto, run_of_member, runs_from, runs_of, scalars_of_run, values_filled}
unfoldable pub use Rattle.typed_expressions.specs.internal.Fillings.{left_of}
pub use Rattle.typed_expressions.specs.internal.Fronts.{after_destinations, in_front}
pub use Rattle.typed_expressions.specs.internal.Given.{as_given, given, is_plain, only_tree, plain_tree, selector_tree}
