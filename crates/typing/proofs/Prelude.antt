-- The names that the proofs of this crate cite, passed on from one place. Declares nothing.
pub use mathlib.Core.Bool.{or_assoc}
pub use Rattle.indexmap.specs.{IndexMap.{insert_entry}, IndexSet.{insert_key}}
pub use Rattle.std.proofs.{Common.{Bool, Err, List, None, Ok, Option, Result, Some, [], ap, append-nil, append_assoc, ap₂, arith, cond, div-add-mod', drop, false, get_or, if◌then◌else◌, inl, inr, length, length-append, map, min, mod-lt, nat_le, one-mul, refl, replicate, slice_get, slice_index_or, slice_set, subst, suc, suc-mul, sum_by, sym, take, true, unwrap_or, zero, zero-le, zero-mul, ℕ, ◌*◌, ◌++◌, ◌+◌, ◌-◌, ◌<◌, ◌==◌, ◌∙◌, ◌∷◌, ◌≡◌, ◌≢◌, ◌≤◌, ◌⊎◌}, Math.ListN.{drop_of_length-le}, Math.Seq.{set-append_seam}, lemmas.Bool.{and_parts, eq-eqb, eqb-false, eqb-true, leb-true, ne_eqb, not-true, or_left, or_parts, or_right}, lemmas.List.{length-map, map-append, take-append-drop}, lemmas.List.Concat.{flat_map-append}, lemmas.List.Elements.{All-append, All-cons, All-from_recursion, All-nil, All-set, All-weaker, Contains-append_left, Contains-append_right, filter_map-append, recursion_from_All}, lemmas.List.Kept.{AllPairs-cons}, lemmas.List.Sums.{sum_by-append, sum_by-cons}, lemmas.Option.{none-some, slice_get-map, slice_get_within}, lemmas.Slice.Eq.{bytes_eq-Decides}}
pub use Rattle.std.specs.{List.{AllByRecursion, cons_option, enumerate_from, flat_map, list_any, repeat}, Map.{lookup}, Option.{option_map, option_map_or, option_or}, Prelude.{All, AllPairs, Any, Contains, IfOk, IfSome, IsSomeAnd, codes, filter_map, is_none, is_some, nat_lt, not, ◌&&◌, ◌||◌}, Str.{bytes_eq}}
pub use Rattle.failure.specs.declared.Failure.{Failure}
pub use Rattle.trees.proofs.Lists.{any_later, drop_item, got_first, some_and}
pub use Rattle.trees.specs.{Trees.{ArgumentTrees, AssignmentNode, AssignmentStatement, AtTree, BinaryNode, CallStatement, CaseStatement, ConstantLeaf, ConstantOrigin, ConstantTree, DeclarationTree, DeclarationTrees, DeclareTree, DoStatement, ElementTree, ElseStatement, ElseTree, ExpressionTree, GotoStatement, GroupSubject, HaltStatement, HeadingTree, IfStatement, ItemElement, ItemTree, ItemTypeTree, IterationTree, LabelledStatement, ListLeaf, LiterallyElement, LocationLeaf, LocationOrigin, LoopHeadTree, LoopStatement, MemberOf, MemberTree, ModuleTree, MoreArguments, MoreDeclarations, MoreStatements, NoArguments, NoDeclarations, NoElse, NoMember, NoStatements, NullStatement, NumberConstant, OffsetTree, OriginTree, ParenthesizedNode, ProcedureTree, ReferenceLeaf, ReferenceTo, ReferenceTree, RestrictedTree, ReturnStatement, ScalarItem, SingleSubject, StatementKindTree, StatementTree, StatementTrees, StringConstant, StringTree, StructureItem, SubjectTree, UnaryNode, ValueListTree}, declared.declaration.Dimension.{Dimension, TheVariants.{Count, Implied}}, declared.declaration.Linkage.{Linkage, TheVariants.{External, Public}}, declared.declaration.Member.{Member}, declared.declaration.ScalarType.{ScalarType, TheVariants.{Address, Byte}}, declared.expression.BinaryOperator.{BinaryOperator, TheVariants.{Divide, Modulo, Multiply}}, declared.identifier.Identifier.{Identifier}, declared.identifier.Number.{Number}, declared.identifier.Place.{Place}, declared.functions.UnaryFunction.{UnaryFunction}}
pub use Rattle.names.specs.{internal.Binding.{IsFirstFault, fault_of, first_fault}, BuiltIns.{binding_of, built_ins, jump_of}, Environment.{Body, Here, Names, after_body, at_the_start, body_after_block, body_with_name, declared_around, declared_in, empty_body, entity_of, into_block, into_body, into_list, is_among, is_declared_again, is_label_again, is_parameter_again, known_in, label_of, numbered_from, out_of_block, out_of_body, out_of_list, with_definition, with_label, with_object, with_parameter, with_procedure}, internal.Events.{Declaration, Event, Seen, Use, declares_label, declares_object, declares_procedure, events_of, in_list, see_all, see_alone, see_cases, see_declaration, see_declarations, see_element, see_else, see_kind, see_statements, uses_at}, DeclaredNames.{labels_of}, internal.Uses.{names_in_arguments, names_in_expression, names_in_head, names_in_item, names_in_iteration, names_in_member, names_in_optional, names_in_reference, names_in_restricted, names_in_subject}, DeclaredNames.{declared_by}, declared.entity.Binding.{Binding, TheVariants.{BuiltInName, Declared, UnknownLabel}}, declared.entity.BuiltIn.{BuiltIn, TheVariants.{Move}}, declared.entity.Entity.{Entity, TheVariants.{Definition, Label, Object, Procedure}}}
unfoldable pub use Rattle.names.specs.{BuiltIns.{built_in_of}, internal.Events.{declares, in_turn, jumps_to, moves, nothing, see_item, uses_of}}
pub use Rattle.typed_trees.specs.{ExpressionTypes.{type_of}, Frames.{AreParameters, FrameFits, FramesFit, HasParameters, IsParameter, ParametersFit, home_of_parameters, is_in_frame, variable_bytes}, Globals.{IsHereIfPublic, ListsGlobals, global_object, global_procedure, is_global, is_shared, shared_object, shared_procedure}, Jumps.{BodyIsSound, IsAmongLabels, IsNoLabel, JumpsAreSound, JumpsStay, JumpsStayInElse, JumpsStayInList, JumpsStayInStatements, LabelsOf, LabelsStand, ListStands, ListsStand, ListsStandInCases, ListsStandInElse, ListsStandInStatements, labels_in, labels_in_else, labels_in_list, labels_in_module, labels_in_procedure, labels_in_statements, labels_of_list}, ObjectParts.{IsInElement, IsMemberOf, IsOneOf, IsPartOf, IsScalar, IsScalarIn, IsScalarOf, IsSubscriptOf}, Sizes.{after_member, count_of, has_member, member_named, scalars_of_element, scalars_of_elements, scalars_of_member, size_of_element, size_of_member, size_of_object, size_of_scalar}, Storable.{HasPlace, IsStorable, LooksAtPlace, LooksBack, bytes_filled, constant_number, list_in, numbered_constant, numbers_from, object_in, size_of_value}, TypedTrees.{BasedOn, Constants, Elsewhere, Home, InConstants, InData, InFrame, LabelStatement, ListNode, ListOf, MoreArguments as MoreTyped, NoArguments as NoTyped, NoSubscript, Nowhere, NumberNode, ObjectType, PartOf, Placed, ScalarObject, StructureObject, Subscript, TypedArguments, TypedElse, TypedExpression, TypedHead, TypedIteration, TypedList, TypedModule, TypedObject, TypedProcedure, TypedReference, TypedStatement, TypedStatements}, WellTyped.{HasLocation, HasType, IsNumberOf, IsSeen, IsWellTyped, LiesFor, RefersToLocation, RefersToScalar, ShiftsIn, Takes, TypesHold, TypesHoldIn, TypesHoldInArguments, TypesHoldInElse, TypesHoldInHead, TypesHoldInList, TypesHoldInProcedure, TypesHoldInReference, TypesHoldInStatements, TypesHoldInSubscript, TypesHoldInTarget, TypesHoldInTargets, Within, WithinMain, WithinProcedure, WorksOn, types_of}, declared.limits.TheConstants.{FRAME_LIMIT, OBJECT_LIMIT, PARAMETER_LIMIT}, declared.members.FoundMember.{FoundMember}, declared.parts.AtAddress.{AtAddress, TheVariants.{AtNumber, AtObject}}, declared.parts.ConstantItem.{ConstantItem, TheVariants.{ConstantList, ConstantObject}}, declared.parts.GlobalItem.{GlobalItem, TheVariants.{GlobalObject, GlobalProcedure}}, declared.parts.InitialValue.{InitialValue, TheVariants.{ByteValue, LocationValue, WordValue}}, declared.parts.Measure.{Measure}, declared.parts.NumberOrigin.TheVariants.{FromDigits}, declared.parts.ShiftFunction.{ShiftFunction}, declared.parts.TypedMember.{TypedMember}, declared.parts.Visibility.{Visibility, TheVariants.{Private}}}
pub use Rattle.typing.specs.Blocks.{Block, OfProcedure, Owner, Progress, TheModule, declares_parameter, declares_parameter as declares_its_parameter, is_external, is_external_linkage, is_module_level, is_public_linkage, is_reentrant, place_of_linkage, with_global}
pub use Rattle.typing.specs.internal.Checks.{Checked, found, refuse, require, ◌>>=◌}
pub use Rattle.typing.specs.Constants.{bytes_of_constants, moved_by, number_of_characters, type_of_number, with_list}
pub use Rattle.typing.specs.internal.ConstantChecks.{number_of_constant, with_offsets}
pub use Rattle.typing.specs.internal.Expressions.{arguments, expression, given_member, given_reference, number_node}
pub use Rattle.typing.specs.Filling.{ANumber, AsListed, Contents, Elements, Extents, Filled, FromObject, NoArray, OtherModulesToo, Reach, RestrictedValue, ThisModule, address_of, and_before, elements_for, enough_elements, place_of_origin}
pub use Rattle.typing.specs.internal.FillingChecks.{at_address, contents, contents_as_listed, fill, fill_characters, fill_scalar, fill_string, fill_value, restricted_value, static_bound, static_object, with_address}
pub use Rattle.typing.specs.References.{Measured, AlsoTheWhole, AnElement, Extent, Known, has_location, is_constant, members_of, number_of_arguments, place_of, scalar_of}
pub use Rattle.typing.specs.internal.Functions.{built_in_value, call_arguments, call_of, function_of, input_value, measure_of, measured_member, measured_object, measurement, number_of_variable, shift_function, shift_of, unary_function, value_of, value_of_bound}
pub use Rattle.typing.specs.Items.{TypedItem, base_of, bytes_in_frame, home_in, home_of, home_with_values, is_address, is_base, is_data, is_group, is_not_based, is_plain, names_parameter, object_named, place_of_item, place_of_storage, size_of_item, with_constant, with_typed_object}
pub use Rattle.typing.specs.internal.ItemChecks.{check_linkage, declare_definition, declare_element, declare_elements, declare_item, declare_names, extents_of, member_dimension, object_bound, typed_at, typed_base, typed_contents, typed_item, typed_members, typed_type, with_objects}
pub use Rattle.typing.specs.internal.Members.{members_in_arguments, members_in_declaration, members_in_declarations, members_in_element, members_in_else, members_in_expression, members_in_head, members_in_iteration, members_in_kind, members_in_member, members_in_module, members_in_reference, members_in_statement, members_in_statements, members_in_type, twice_declared, unknown_member}
pub use Rattle.typing.specs.internal.NameFaults.{IsFaultOfNames, IsOfNames, IsRefusedBeside, NamesAreBound, as_refusal}
pub use Rattle.typing.specs.Nodes.{Destination, arguments_as, as_type, binary_node, converted, shift_node, target_of, type_of_operands, type_of_shift}
pub use Rattle.typing.specs.internal.ProcedureChecks.{check_body, check_reentrant, check_visibility, declare_parameters, no_more_parameters, open_procedure, parameter_object, parameter_objects}
pub use Rattle.typing.specs.Procedures.{close_procedure, empty_list, own_block, parameter_types, procedure_with, scalar_in_block, scalar_in_declaration, scalar_in_element, scalar_in_elements, scalar_of_type, visibility_of, with_heading}
pub use Rattle.typing.specs.internal.ReferenceChecks.{FoundPart, Given, GivenMember, GivenReference, WithMember, WithoutMember, bound, count_of_given, destination_of, destination_of_bound, is_writable, location_of, location_of_bound, object_of, part_of, part_with_member, port_from, port_of, port_of_character, procedure_of, scalar_part, subscript_of, takes_subscripts, whole_part, without_member}
pub use Rattle.typing.specs.internal.Results.{Answers, FailsBy, Gives, Leaves, fault_in, in_front}
pub use Rattle.typing.specs.internal.StatementChecks.{Counter, assignment, call, call_bound, counter_bound, declare_labels, destinations, goto, goto_bound, iteration, list_of, loop_head, moved, return_from, return_with, step, value, without_label}
pub use Rattle.typing.specs.Statements.{after_labels, labels_before, place_of_statement, places_from, places_of, with_constants, with_here}
pub use Rattle.typing.specs.internal.Typing.{alone, cases, declaration, declarations, else_part, kind, labelled, statements}
pub use Rattle.typing.specs.Modules.{at_the_beginning, entered, inner_block, left, module_block, module_with}
unfoldable pub use Rattle.typing.specs.internal.Typing.{typing_of}
pub use Rattle.typing.specs.internal.Untyped.{GivesBack, bodies_in, bodies_in_declaration, bodies_in_else, bodies_in_kind, bodies_in_statement, bodies_in_statements, byte_list, call_tree, function_name, measure_name, member_name, member_tree, members_of_object, named, nameless, nowhere, number_in, number_leaf, object_name, one_argument, plain_arguments, plain_else, plain_expression, plain_head, plain_iteration, plain_kind, plain_member, plain_reference, plain_statement, plain_statements, procedure_name, shift_name, untyped_arguments, untyped_else, untyped_expression, untyped_head, untyped_iteration, untyped_kind, untyped_list, untyped_reference, untyped_statements, untyped_subscript, untyped_target, without_names}
pub use Rattle.typing.specs.declared.fault.Cause.{Cause}
pub use Rattle.typing.specs.declared.fault.Cause.TheVariants.{ArgumentCount, BasedParameter, CallOfNoProcedure, CallOfTyped, ConstantWritten, DeclaredTwice, ExternalContents, ImpliedForGroup, ImpliedWithoutValues, MemberMismatch, MisplacedAt, MisplacedLabel, MisplacedLinkage, MisplacedValues, NestedProcedure, NoBase, NoCounter, NoFixedAddress, NoLocation, NoVariable, NotByte, NotMeasurable, ParameterNotDeclared, ParameterNotScalar, PortNotConstant, PortTooLarge, ReentrantExternal, ReturnMismatch, ReturnOutside, StringNotNumber, SubscriptMismatch, TooLarge, TooManyParameters, TooManyValues, UnknownLabel as NoLabel, UnknownName, ValueOfUntyped, ZeroDimension}
pub use Rattle.typing.specs.declared.fault.Fault.{Fault}
pub use Rattle.typing.specs.internal.Tables.{Agrees, AgreesOnObjects, AgreesOnProcedures, Grows, HasLists}
