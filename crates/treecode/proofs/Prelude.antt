-- The names that the proofs of this crate cite, passed on from one place. Declares nothing.
pub use Rattle.std.proofs.{Common.{Any, Bool, Err, Global, IfOk, List, None, Ok, OnOk, Option, Result, Some, [], add-one, ap, ap₂, arith, cond, drop, false, filter, filter_map, get_or, inl, inr, is_some, length, map, max, min, mul_comm, nat_lt, option_map, refl, replicate, rules, set, slice_get, slice_index_or, slice_set, subst, suc, sym, take, true, unwrap_or, zero, zip, ℕ, ◌%◌, ◌&&◌, ◌++◌, ◌+◌, ◌-◌, ◌<◌, ◌==◌, ◌||◌, ◌∙◌, ◌∷◌, ◌≡◌, ◌≢◌, ◌≤◌, ◌⊎◌}, Math.Seq.{take-append_seam}, lemmas.Bool.{le-ltb, lt-ltb, ltb-false, ltb-true}, lemmas.Bool.Decides.{eqb_tells}, lemmas.List.{append-nil, append_assoc, at_drop_all, length-append, length-map, length-set, map-set}, lemmas.List.Elements.{filter-append}, lemmas.Nat.{mul-mod_second}, lemmas.Option.{get_or_from_slice_get, none-some, same_Some, slice_get-get_or, slice_get-map, slice_get_past, slice_get_within}, lemmas.Result.{IfOk-weaker, on_ok_weaker}}
pub use Rattle.std.specs.{List.{cons_option, enumerate_from}, Option.{option_and_then, option_map_or}, Prelude.{Vec, sum_by, vec_items}}
pub use Rattle.mem80.proofs.{Lists.{got_before, take_whole}, Numbers.{sum_turned}, Results.{if_ok_then}}
pub use Rattle.trees.proofs.Lists.{any_later, drop_item, got_first}
pub use Rattle.trees.specs.{declared.declaration.ScalarType.{ScalarType, TheVariants.{Address, Byte}}, declared.expression.BinaryOperator.{BinaryOperator}, declared.expression.UnaryOperator.{UnaryOperator}, declared.functions.ByteOfValue.{TheVariants.{HighByte, LowByte}}, declared.functions.UnaryFunction.{UnaryFunction}, Functions.{type_of_function}, internal.Functions.{byte_taken, for_byte}}
pub use Rattle.typed_trees.specs.{Charge.{count_of_arguments, height_of, height_of_arguments as height_of_trees, height_of_else, height_of_head, height_of_iteration, height_of_list, height_of_optional, height_of_reference as height_of_part, height_of_statement, height_of_statements, height_of_subscript as height_of_index, height_of_target as height_of_goal, height_of_targets}, ExpressionTypes.{type_of, type_of_result}, Jumps.{BodyIsSound, IsAmongLabels, IsNoLabel, JumpsStay, JumpsStayInElse, JumpsStayInList, JumpsStayInStatements, LabelsOf, LabelsStand, ListStands, ListsStand, ListsStandInCases, ListsStandInElse, ListsStandInStatements, labels_of_list}, TypedTrees.{AssignmentNode, AssignmentStatement, At, BasedOn, BinaryNode, CallNode, CallStatement, CaseStatement, ConversionNode, DoStatement, ElseStatement, Elsewhere, FunctionNode, GotoStatement, HaltStatement, Home as TypedHome, IfStatement, InConstants, InData, InFrame, InputNode, LabelStatement, ListNode, ListOf, LocationNode, LoopStatement, MoreArguments, MoreStatements, MoveStatement, NoArguments, NoElse, NoStatements, NoSubscript, Nowhere, NullStatement, NumberNode, PartOf, Placed, ReturnStatement, SentTo, ShiftNode, StoredIn, Subscript, TypedArguments, TypedElse, TypedExpression, TypedHead, TypedIteration, TypedList, TypedModule, TypedObject, TypedProcedure, TypedReference, TypedStatement, TypedStatements, TypedTarget, UnaryNode, ValueNode}, Views.{arguments_view, expression_view, head_view, list_view, module_view, object_view, procedure_view, statement_view, statements_view, target_view}, declared.module.TypedObject.{TypedObject as Object}, declared.module.TypedProcedure.{TypedProcedure as Procedure}, declared.parts.AtAddress.TheVariants.{AtNumber, AtObject}, declared.parts.GlobalItem.{GlobalItem, TheVariants.{GlobalObject, GlobalProcedure}}, declared.parts.ShiftFunction.{ShiftFunction, TheVariants.{RotateLeft, RotateRight, ShiftLeft, ShiftRight}}, declared.statement.TypedStatement.{the_lemmas}}
pub use Rattle.layout.specs.{Storage.{Storage}, Views.{layout_view}}
pub use Rattle.meaning.specs.{Access.{Surroundings, home_of}, Meaning.{Displacement, Later, address_in_memory, based_place, computed, displaced, displacement, located, no_displacement, value}, Outcomes.{Gave, Outcome, State, then_do}, Values.{as_type, function_of, result_of, result_of_one, shifted}}
pub use Rattle.treecode.specs.internal.Contents.{constants_from, content_of, public_item, size_of_value, variables_from, with_gap}
pub use Rattle.treecode.specs.internal.ExpressionWords.{ExpressionsAreWords, FormIsWord}
pub use Rattle.treecode.specs.internal.HomeWords.{HomeIsWord, HomesAreWords}
pub use Rattle.treecode.specs.internal.Homes.{external_from, external_name, external_number, external_place, externals_of, frame_number, frame_variable, home_of_object, homes_from, is_global_object, is_global_procedure, kind_with, latest, lives_in_frame, numbered_in_frame, parameter_at, parameter_from, parameter_number, parameters_of, place_after}
unfoldable pub use Rattle.treecode.specs.internal.Homes.{homes_of}
pub use Rattle.treecode.specs.internal.Known.{converted_address, converted_place, function_of_place, known_distance, known_number, known_place, known_subscript, known_value, place_of_part, result_of_known, shift_of_known}
pub use Rattle.treecode.specs.internal.Lowered.{AreArguments, AreMore, AreMoreStatements, AreNoStatements, AreNone, AreStatements, AreTargets, HasBody, IsAbsent, IsAssignment, IsBinary, IsCall, IsCallOf, IsCase, IsConstantList, IsConversion, IsCountHead, IsDo, IsElse, IsEmbedded, IsExpression, IsExpressionIn, IsForm, IsFunction, IsGoto, IsHalt, IsHead, IsIf, IsIndex, IsInput, IsIteration, IsLabel, IsList, IsListOf, IsLocation, IsLoop, IsMove, IsNoElse, IsNoValue, IsNode, IsNull, IsNumber, IsOptional, IsPart, IsProcedure, IsReference, IsReturn, IsSent, IsShift, IsSomeElse, IsSomeValue, IsStatement, IsStatementForm, IsStatementNode, IsStored, IsSubscript, IsTarget, IsUnary, IsValue, IsWhileHead, MoreTargets, NoTargets, ends_by, head_ends, labels_numbered, labels_numbered_in_else, labels_numbered_in_list, labels_numbered_in_statements, numbers_from, reaches_end, reaches_end_of_else, reaches_end_of_list, reaches_end_of_statements}
pub use Rattle.treecode.specs.internal.Nodes.{Nodes, home_at, item_of, nodes_of}
pub use Rattle.treecode.specs.internal.Traits.{KeepTraits, byte_after, distance_of, expression_of, form_at, has_immediate, height_at, height_of_argument, height_of_arguments, height_of_call, height_of_form, height_of_reference, height_of_subscript, height_of_target, high_in_memory, is_direct, is_free_form, is_free_of, is_free_with, is_of_low_byte, is_quiet_form, keeps_none, keeps_of, keeps_of_address, keeps_of_binary, keeps_of_byte, keeps_of_extended, keeps_of_form, keeps_of_index, keeps_of_part, keeps_of_shift, keeps_of_subscript, keeps_of_value, known_at, known_of, memory_of_form, memory_of_inner, no_traits, number_at, place_of_reference, reference_is_quiet, reference_stores_nothing, same_low_byte, stores_nothing_in_form, subscript_is_quiet, subscript_stores_nothing, traits_at}
unfoldable pub use Rattle.treecode.specs.internal.Traits.{traits_of}
pub use Rattle.treecode.specs.declared.expression.Expression.{Expression}
pub use Rattle.treecode.specs.declared.expression.ExpressionForm.{ExpressionForm}
pub use Rattle.treecode.specs.declared.expression.ExpressionNumber.{ExpressionNumber}
pub use Rattle.treecode.specs.declared.lists.Range.{Range}
pub use Rattle.treecode.specs.declared.lowering.Lowering.{Lowering}
pub use Rattle.treecode.specs.declared.module.ExternalName.{ExternalName}
pub use Rattle.treecode.specs.declared.module.TreeModule.{TreeModule}
pub use Rattle.treecode.specs.declared.place.Home.{Home}
pub use Rattle.treecode.specs.declared.place.Place.{Place}
pub use Rattle.treecode.specs.declared.place.Place.TheVariants.{Code, Data, External, Number}
pub use Rattle.treecode.specs.declared.procedure.FrameVariable.{FrameVariable}
pub use Rattle.treecode.specs.declared.procedure.TreeProcedure.{TreeProcedure}
pub use Rattle.treecode.specs.declared.reference.Reference.{Reference}
pub use Rattle.treecode.specs.declared.reference.Subscript.{Subscript as IndexNode}
pub use Rattle.treecode.specs.declared.reference.Target.{Target}
pub use Rattle.treecode.specs.declared.statement.Iteration.{Iteration}
pub use Rattle.treecode.specs.declared.statement.LoopHead.{LoopHead}
pub use Rattle.treecode.specs.declared.statement.Statement.{Statement}
pub use Rattle.treecode.specs.declared.statement.StatementNumber.{StatementNumber}
pub use Rattle.treecode.specs.declared.statements.AddedList.{AddedList}
pub use Rattle.treecode.specs.declared.statements.AddedStatement.{AddedStatement}
pub use Rattle.treecode.specs.declared.traits.Traits.{Traits}
pub use Rattle.treecode.specs.internal.Adding.{arguments_in, element_of, expression_in, form_in, numbers_in, part_of, put_arguments, put_expression, reference_in, subscript_in, target_in, with_both, with_item}
pub use Rattle.treecode.specs.internal.Beside.{Beside, Outside, outside, walk_of, walk_with}
unfoldable pub use Rattle.treecode.specs.internal.Beside.{beside}
pub use Rattle.treecode.specs.internal.Completed.{AreComplete, BodiesAreAdded, BodiesAreSound, HasHeading, IsBody, MainIsComplete, SameHeading, completed, with_body, with_main}
pub use Rattle.treecode.specs.internal.Gathered.{Gathered, all_gathered, gathered_view, none_gathered, with_external, with_external_object, with_external_procedure}
pub use Rattle.treecode.specs.internal.Growth.{Grows, Holds}
pub use Rattle.treecode.specs.internal.Numbers.{number_in, reaching, with_number}
pub use Rattle.treecode.specs.internal.Placed.{Heading, HeadingsAre, PlacedSoFar, all_placed, heading_at, heading_in, heading_of, headings_after, headings_in, headings_of, home_in, placed_in, variable_number, variable_of, with_all_parameters, with_parameters, with_placed, with_variable, with_variable_in}
pub use Rattle.treecode.specs.internal.Rising.{ArgumentsAreBelow, NumbersRise, PartsAreBelow, ReferenceIsBelow, SubscriptIsBelow, TargetIsBelow}
pub use Rattle.treecode.specs.internal.Sound.{AreSound, Leads}
pub use Rattle.treecode.specs.internal.Walking.{Items, Walk, assigned_in, begun, call_in, either_ends, else_in, goal_with, goals_in, head_in, height_of_move, items_after, items_in, iteration_in, label_in, list_in, loop_ends, moved_in, noted, number_of_added, numbered, optional_in, put_case, put_do, put_if, put_list, put_loop, put_statement, put_targets, returned_in, statement_in, statements_in, targets_in, value_in, with_label}
