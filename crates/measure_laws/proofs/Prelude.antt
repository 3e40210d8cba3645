-- The names that the proofs of this crate cite, passed on from one place. Declares nothing.
pub use Rattle.std.proofs.{Common.{Any, Bool, IfSome, IsSomeAnd, List, None, Ok, Option, Some, [], ap, append_assoc, arith, drop, drop-cons, false, get_or, if◌then◌else◌, inl, inr, is_some, length, length-take, map, min, nat_eq, nat_le, nat_lt, not, option_and_then, option_map, refl, replicate, slice_get, subst, suc, sum_by, sym, take, true, true≢false, unwrap_or, zero, ℕ, ◌%◌, ◌&&◌, ◌*◌, ◌++◌, ◌+◌, ◌-◌, ◌/◌, ◌<◌, ◌==◌, ◌^◌, ◌||◌, ◌∙◌, ◌∷◌, ◌≡◌, ◌≤◌, ◌⊎◌}, lemmas.Bool.{cases_lt, eq-eqb, eqb-true, false≢true, leb-false, leb-true, lt-ltb, ltb-true, or_parts}, lemmas.List.Elements.{recursion_from_All}, lemmas.List.Sums.{sum_by-append, sum_by-cons}, lemmas.Option.{get_or_from_slice_get, none-some, same_Some, slice_get_cases, slice_get_within}}
pub use Rattle.std.specs.{List.{AllByRecursion, cons_option, enumerate_from}, Option.{option_map_or}, Prelude.{All, filter_map}}
pub use Rattle.trees.proofs.Lists.{holds_for_item}
pub use Rattle.trees.specs.{declared.declaration.ScalarType.{ScalarType, TheVariants.{Address, Byte}}, declared.expression.BinaryOperator.{BinaryOperator}, declared.expression.UnaryOperator.{UnaryOperator, TheVariants.{Negate, Not}}, internal.Functions.{byte_taken}}
pub use Rattle.typed_trees.proofs.Counted.{types_count}
pub use Rattle.typed_trees.specs.{Charge.{count_of_arguments, height_of, height_of_arguments, height_of_else, height_of_list, height_of_optional, height_of_reference, height_of_statement, height_of_statements, height_of_subscript, height_of_target, height_of_targets}, ExpressionTypes.{type_of}, Frames.{AreParameters, FramesFit, HasParameters, ParametersFit, home_of_parameters}, Jumps.{BodyIsSound, IsAmongLabels, IsNoLabel, JumpsAreSound, JumpsStay, JumpsStayInElse, JumpsStayInList, JumpsStayInStatements, LabelsOf, LabelsStand, ListStands, ListsStand, ListsStandInCases, ListsStandInElse, ListsStandInStatements, labels_of_list}, Sizes.{size_of_object}, Storable.{IsStorable, bytes_filled, constant_number, numbered_constant, object_in, size_of_value}, TypedTrees.{AssignmentStatement, BasedOn, CallStatement, CaseStatement, DoStatement, Elsewhere, GotoStatement, HaltStatement, Home as TypedHome, IfStatement, InConstants, InData, InFrame, LabelStatement, MoreStatements, MoveStatement, NoStatements, NoSubscript, Nowhere, NullStatement, PartOf, Placed, ReturnStatement, SentTo, StoredIn, Subscript as TypedSubscript, TypedArguments, TypedElse, TypedExpression, TypedIteration, TypedList, TypedModule, TypedObject, TypedProcedure, TypedReference, TypedStatement, TypedStatements, TypedTarget}, Weight.{constant_bytes, size_of_constant, weight_of_arguments, weight_of_else, weight_of_expression, weight_of_iteration, weight_of_list, weight_of_optional, weight_of_reference, weight_of_statement, weight_of_statements, weight_of_storing, weight_of_subscript, weight_of_target}, WellTyped.{IsReturned, IsWellTyped, Takes, TypesHold, TypesHoldIn, TypesHoldInArguments, TypesHoldInElse, TypesHoldInList, TypesHoldInProcedure, TypesHoldInReference, TypesHoldInStatements, TypesHoldInSubscript, TypesHoldInTarget, TypesHoldInTargets, Within, WithinMain, WithinProcedure, types_of}, declared.limits.TheConstants.{FRAME_LIMIT}, declared.parts.ConstantItem.{ConstantItem, TheVariants.{ConstantList, ConstantObject}}, declared.parts.InitialValue.{InitialValue, TheVariants.{ByteValue, LocationValue, WordValue}}, declared.parts.ShiftFunction.{ShiftFunction, TheVariants.{RotateLeft, RotateRight, ShiftLeft, ShiftRight}}}
unfoldable pub use Rattle.typed_trees.specs.{Charge.{charge_of}, Weight.{code_bound, weight_of}}
pub use Rattle.layout.specs.Storage.{Storage, bytes_in_constants, bytes_in_data, data_bytes}
unfoldable pub use Rattle.layout.specs.Storage.{storage_of}
pub use Rattle.object_modules.specs.{Module.{ObjectModule, length_of}, declared.segment.Segment.TheVariants.{Code}, declared.segment.TheConstants.{SEGMENT_LIMIT}}
pub use Rattle.isa8080.specs.{Act.{act, with_operand}, Arithmetic.{decrement_of, increment_of}, State.{Registers, State, register_of, two_less, wrap}, declared.instr.Condition.{Condition, TheVariants.{Carry, NoCarry, NotZero, Zero}}, declared.instr.Instr.{Instr, TheVariants.{AccumulateImmediate, Cma, Dad, Dcr, Dcx, Hlt, Inr, Inx, Lxi, MovToMemory, Mvi, Nop, Pchl, Pop, Push, Ret, Rlc, Rrc, Sphl, Xchg, Xthl}}, declared.instr.Operand.{Operand, TheVariants.{M, Of}}, declared.instr.Operation.{Operation, TheVariants.{Add, AddWithCarry, And, Compare, ExclusiveOr, Or, Subtract, SubtractWithBorrow}}, declared.instr.Pair.TheVariants.{Bc, De, Hl, Sp}, declared.instr.Register.{Register, TheVariants.{A, B, C, D, E, H, L}}, declared.instr.StackPair.{StackPair, TheVariants.{Psw, StackBc, StackDe, StackHl}}}
pub use Rattle.asm8080.proofs.{CodeInParts.{size_in_parts}, Segments.{places_length, set_length}}
pub use Rattle.asm8080.specs.{Assembled.{set_bytes}, Items.{instruction_with, size_of, size_of_items}, Standing.{size_of_instruction}, declared.item.Item.{Item, TheVariants.{Plain, WithWord}}, declared.item.WordForm.{WordForm, TheVariants.{Jump, JumpWhere, LoadA, LoadHl, LoadPair, StoreA, StoreHl}}}
pub use Rattle.runtime8080.specs.{internal.Routines.{size_of_routine}, declared.routine.Routine.{Routine, TheVariants.{Move}}}
pub use Rattle.treecode.proofs.LabelNumbers.{at_or_after}
pub use Rattle.treecode.specs.{internal.Contents.{constant_object, constants_from, content_of, size_of_value as bytes_of_value, static_object, variables_from, with_constant, with_gap, with_gap_if_any, with_object}, internal.Homes.{location_after, place_after}, internal.Lowered.{AreArguments, AreMore, AreMoreStatements, AreNoStatements, AreNone, AreStatements, AreTargets, HasBody, IsAbsent, IsAssignment, IsBinary, IsCall, IsCallOf, IsCase, IsConstantList, IsConversion, IsDo, IsElse, IsEmbedded, IsExpression, IsExpressionIn, IsForm, IsFunction, IsGoto, IsHalt, IsIf, IsIndex, IsInput, IsIteration, IsLabel, IsList, IsListOf, IsLocation, IsLowered, IsMove, IsNoElse, IsNoValue, IsNode, IsNull, IsNumber, IsOptional, IsPart, IsProcedure, IsReference, IsReturn, IsSent, IsShift, IsSomeElse, IsSomeValue, IsStatement, IsStatementForm, IsStatementNode, IsStored, IsSubscript, IsTarget, IsUnary, IsValue, MoreTargets, NoTargets, labels_numbered_in_list}, internal.Nodes.{Nodes, item_of, nodes_of}, internal.Queries.{argument, home, inside, item, place_number, source as source_of, statement, target as target_at}, internal.Traits.{no_traits, traits_at}, declared.expression.Expression.{Expression}, declared.expression.ExpressionForm.{ExpressionForm, TheVariants.{Binary}}, declared.expression.ExpressionNumber.{ExpressionNumber}, declared.lists.Range.{Range}, declared.module.Content.{Content, TheVariants.{Gap, Word}}, declared.module.TreeModule.{TreeModule}, declared.place.Home.{Home}, declared.place.Location.{Location, TheVariants.{Frame, Static}}, declared.place.Place.{Place, TheVariants.{Data, External, Number}}, declared.procedure.Parameter.{Parameter}, declared.procedure.ProcedureKind.{ProcedureKind}, declared.procedure.TreeProcedure.{TreeProcedure}, declared.reference.Reference.{Reference}, declared.reference.Subscript.{Subscript as IndexNode, Subscript}, declared.reference.Target.{Target, TheVariants.{Sent, Stored}}, declared.statement.Iteration.{Iteration}, declared.statement.Statement.{Statement as TreeStatement}, declared.statement.StatementNumber.{StatementNumber}}
unfoldable pub use Rattle.treecode.specs.internal.Contents.{constants_of, variables_of}
pub use Rattle.treecode_laws.proofs.{Contents.{same_sizes}, Slots.{constant_small, stored}}
pub use Rattle.frames.proofs.{Frames.{has_frame, parameter_count}, Parameters.{frame_fits, has_parameters, numbered_at}}
pub use Rattle.steps8080.specs.{internal.Externals.{entry}, internal.Facts.{before, byte_for_l, byte_from_hl, is_at, no_facts}, internal.Instructions.{clear_a, copy, high, load, low, set, with_memory, with_register}, internal.Queries.{base_after, base_of, form_in_memory, high_of, located_at, reference_after, split_form, split_sum, split_whole}, internal.Questions.{agree, mirrored, question_of, relation_by, relation_of_form, relation_with_number}, internal.Step.{extension_steps, label_of, repeat_steps}, internal.Widths.{power_from, unknown, word_of}, internal.Writer.{Written, in_front, jump_item, numbered, numbered_item, numbered_reference, word_item}, declared.facts.Facts.{Facts}, declared.sites.queries.Base.{Base}, declared.sites.queries.Located.{Located}, declared.sites.queries.Split.{Split}, declared.sites.questions.Comparison.{Comparison}, declared.sites.questions.Inquiry.{Inquiry, TheVariants.{Between, WithNumber}}, declared.sites.questions.NumberQuestion.{NumberQuestion, TheVariants.{Below, Is, Never}}, declared.sites.questions.Question.{Question, TheVariants.{Equal, LeftBelow, RightBelow}}, declared.sites.questions.Relation.{Relation}, declared.sites.site.Site.{Site}, declared.step.LabelNumber.{LabelNumber}, declared.step.Part.{Part}, declared.step.Step.{Step, TheVariants.{CallRoutine}}, declared.step.Task.{Task}}
unfoldable pub use Rattle.steps8080.specs.{internal.Queries.{direct, high_in_memory, is_free, is_quiet, keeps, keeps_of_address, known, located, location_of, may_exchange, memory, number, number as number_of, plain_in_memory, same_low_byte, split, split_computed}, internal.Questions.{relation_between, relation_of}, internal.Site.{distance, expression, scalar}, internal.Widths.{direct_word, fits_byte, high_byte_in_memory, is_byte_in_register, is_word_in_hl, low_number, operand_in_memory, power, power_of_two, word_in_memory}}
pub use Rattle.operands8080.specs.{internal.Addresses.{addition_steps, address_steps, base_added_steps, base_steps, frame_word_steps, note_address_steps, located_steps, location_address_steps, location_word_steps, negated, new_address_steps, number_added_steps, second_steps, word_at_hl_steps}, internal.Branches.{branch_part, branch_setting, branch_steps, by_bit_steps, equality_steps, is_odd, joined_steps, known_branch_steps, other_steps, outcome_branch_steps, relation_branch_steps, shape_of_binary, shape_of_form, shape_of_junction, shape_steps, shape_with_number}, internal.ByteRelations.{better_form, byte_is_steps, byte_relation_steps, comparing, exchanged, form_of_equality, form_or_push, in_order, is_zero_steps, known_answer, left_back_steps, may_begin_with, memory_form, number_in_a_steps, pushed_steps, register_form}, internal.Loads.{byte_in_memory_steps, byte_to_l_steps, extended_byte_in_memory_steps, frame_byte_steps, frame_byte_to_l_steps, location_byte_steps, word_in_memory_steps}, internal.Pairs.{form_steps, order_of, pair_form, pair_in_order_steps, pair_order, pair_steps, wish_for_left, wished_steps}, internal.Products.{bit_steps, byte_multiple_steps, byte_product_steps, multiple_steps, product_steps, small_multiple_steps}, internal.Relations.{carry_steps, inquiry_steps, outcome_value_steps, relation_outcome, relation_steps, relation_value_steps, value_setting}, internal.Stores.{address_beside_a_steps, address_beside_de_steps, byte_is_here_steps, goal_of, goal_steps, high_zero_steps, send_steps, store_a_at_steps, store_a_steps, store_extended_steps, store_hl_at_steps, store_low_byte_at_steps, store_low_byte_steps, store_near_steps, store_steps, store_word_steps, value_back_steps, word_is_here_steps, word_near}, internal.WordRelations.{apart_of, high_difference_steps, high_steps, in_hl, left_apart, load_a_steps, low_difference_steps, low_steps, masked_form, masked_steps, other_word, place_apart, right_apart, taken_steps, with_place_steps, word_below_steps, word_is_steps, word_number_steps, word_question_steps, word_relation_steps, word_taken_from, words_asked, words_compared, words_of, words_steps, zero_by_hl_steps}, declared.answers.Answer.{Answer}, declared.answers.Purpose.{Purpose, TheVariants.{Branch, Value}}, declared.answers.Setting.{Setting}, declared.branches.Junction.{Junction}, declared.branches.Shape.{Shape, TheVariants.{Joined, Known, Opposite, Other, SameAs, Whatever}}, declared.byte_relations.Form.{Form, TheVariants.{WithE, WithMemory}}, declared.byte_relations.Sides.{Sides}, declared.pairs.PairForm.{PairForm, TheVariants.{LeftKeeps, LeftKnown, RightKeeps, RightKnown}}, declared.pairs.PairOrder.{PairOrder, TheVariants.{LeftInHl, RightInHl}}, declared.relations.Outcome.{Outcome}, declared.stores.Goal.{Goal}, declared.stores.Near.{Near, TheVariants.{First, Second}}, declared.word_relations.Apart.{Apart}, declared.word_relations.Word.{Word as WordRegisters}, declared.word_relations.Words.{Words, TheVariants.{DeAndHl, PlaceAndHl}}}
unfoldable pub use Rattle.operands8080.specs.{internal.Branches.{shape_of}, internal.ByteRelations.{is_better_exchanged, without_push}, internal.Products.{chain_from, has_bit}, internal.WordRelations.{equality_of_words, masked, operand_apart, word_is_zero_steps}}
pub use Rattle.exprgen8080.specs.{internal.Emission.{AreWritten, CallWritten, ChangeWritten, HoldsWritten, IsWritten, JumpWritten, MarkWritten, NoneWritten, PartWritten, PlainWritten, Planned as PartPlanned, RoutineWritten, TestWritten, WordWritten, call_items, has_routine, items_of_call, knowing, module_call_items, module_label_of_routine, test_items, test_of_a}, declared.byte_operators.ByteForm.{ByteForm, TheVariants.{LeftFree, LeftInMemory, Pushed, RightFree, RightInMemory}}, declared.byte_operators.Operands.{Operands}, declared.byte_shifts.Shifted.{Shifted}, declared.word_operators.Simple.{Simple}}
unfoldable pub use Rattle.exprgen8080.specs.{internal.ByteOperators.{added_steps, byte_binary_steps, byte_operation_steps, commutes, form_after_right, form_from_register, form_of, form_with_left, form_without_memory, from_number_steps, immediate_steps, in_form_steps, number_of_two, product_byte_steps, quotient_byte_steps, remainder_byte_steps, with_e_steps, with_memory_steps, with_number_steps, with_stack_steps}, internal.ByteShifts.{by_number_steps, byte_routine, byte_shift_steps, byte_shifted_right_steps, count_in_memory_steps, low_byte_shifted_right_steps, middle_byte_steps, operands_steps, right_shift_steps, rotation_steps, shifted_left_steps, turned_right_steps, zero_steps}, internal.Bytes.{byte_form_steps, byte_function_steps, byte_of_two_steps, byte_steps, byte_unary_steps, called_byte_steps, embedded_steps, known_byte_steps, low_of_value_steps}, internal.Calls.{argument_steps, arguments_steps, call_steps, last_argument_steps, push_of, pushed_argument_steps, value_task}, internal.Effects.{both_effects_steps, effects_steps, form_effects_steps, reference_effects_steps, subscript_effects_steps}, internal.Forms.{steps_of, task_steps}, internal.Halves.{byte_number_steps, high_byte_steps, low_of_word_steps}, internal.Routines.{computed_product_steps, division_steps, product_order}, internal.WordOperators.{and_with_number_steps, both_halves_steps, computed_logic_steps, difference_steps, exchanged_operand, first_and_simple, half_steps, half_through_a_steps, high_half_steps, is_of_bytes, left_word, logic_steps, logic_with_byte_steps, logic_with_number_steps, logic_with_simple_steps, paired_steps, product_word_steps, quotient_steps, remainder_steps, simple_operand, sum_steps, taken_from_number_steps, with_pair_steps, with_simple, with_word_steps, word_binary_steps}, internal.WordShifts.{computed_count_steps, count_beside_word_steps, half_steps as shifted_half_steps, quarter_steps, shifted_right_little_steps, word_by_number_steps, word_shift_steps, word_shifted_right_steps}, internal.Words.{computed_word_steps, extended_byte_steps, word_form_steps, word_of_two_steps, word_steps, word_unary_steps}}
pub use Rattle.statements8080.specs.{internal.Assignments.{any_target, assignment_steps, count_by, count_of, count_of_form, each_at, each_steps, from_byte_steps, from_type, from_word_steps, is_address_first, is_one, is_value_of, number_steps, other_byte_steps, other_word_steps, several_by, several_steps, single_steps, store_at, takes_byte, takes_word, together_steps, types_by, value_steps}, internal.Bodies.{body_label, is_near, whole}, internal.Branches.{both_steps, branch, computed_if_steps, forever_steps, goto_label, goto_label_of, has_one_jump, if_steps, statement_if_any, tested_while_steps, then_steps, while_steps}, internal.Cases.{case_steps, entry_of, entry_of_statement, statement_at}, internal.Counters.{counter_of, counter_place, counts_by_one}, internal.Iterations.{add_byte_steps, add_de_steps, add_steps, add_word_to_byte_steps, asked_jump, asked_mark, below_steps, count_at_hl_steps, count_steps, counts_in_place, is_byte, is_byte_type, iteration_steps, loop_labels, next_byte_steps, next_steps, next_word_steps, step_in_de_steps, turns_if_any, turns_steps}, internal.Moves.{ends_steps, move_steps}, internal.Plans.{all, jump, label_at, mark, nth_label, part, plain, steps_from, word}, internal.Tests.{computed_test, facts_of_test, known_test, less_steps, word_at, word_test_by}, declared.body.Body.{Body}, declared.bound.Test.{Test}, declared.iteration.Counter.{Counter}, declared.plan.Planned.{Planned, TheVariants.{Again, JumpOn, Jumped, List as ListOf, Meet, Reaches, Statement, Turn}}}
unfoldable pub use Rattle.statements8080.specs.{internal.Cases.{cases_end_steps, choice_at_steps, into_table_steps, number_in_de_steps, statements_steps, table_at, table_steps}, internal.Counters.{has_a_turn}, internal.Iterations.{asked_test_steps, facts_of_turn, first_steps, first_test_steps, general_begin_steps, general_end_steps, general_steps, next_turn_steps, step_steps, sum_of_byte_steps, sum_of_word_steps, test_label_steps, to_known_steps}, internal.Tests.{test_of, test_steps}}
pub use Rattle.statements8080.proofs.Targets.{none_passes}
pub use Rattle.codegen8080.specs.{internal.Generated.{AreAllCarriedOut, AreCarriedOut, HoldsNoStatement, IsCarriedOut, IsListCarriedOut, ListCarriedOut, ListPlanned, NoneCarriedOut, StatementCarriedOut, StatementPlanned, StepCarriedOut, byte_at_steps, jump_on_steps, site_of, word_at_steps}, internal.Modules.{AreCodeOf, AreRoutines, IsCodeOf, IsCodeOfMain, IsCodeOfRoutine, IsCodeWritten, IsEndCode, IsFrameOf, IsGenerated, IsOwnCode, IsProcedureCode, all_routines, contents_items, has_main}, internal.Procedures.{argument_step, entry_steps, is_address, pair_of, return_steps, store_argument, with_argument}, internal.Refusals.{CodeIsNone, DataAreNone, MayRefuse}, internal.Statements.{returned_value_steps}, internal.Targets.{with_targets}, declared.fault.Fault.TheVariants.{TooLong}, declared.meeting.Here.{Here}}
unfoldable pub use Rattle.codegen8080.specs.{internal.Generated.{carried_steps, load_byte_steps, load_word_steps}, internal.Procedures.{below_return_steps, drop_steps, end_steps, entry_steps_by, exchanged_steps, frame_entry_steps, kept_steps, known_from, last_argument_facts, odd_byte_steps, popped_at, popped_from, pops_steps, push_loop_steps, pushed_arguments_steps, pushes_steps, return_of_frame_steps, return_over_any_steps, return_over_steps, return_steps_by, static_entry_steps, stores_steps, zero_result_steps, zeros_steps}, internal.Statements.{return_of_steps, statement_steps}}
pub use Rattle.measure_laws.specs.internal.Bounds.{size_of_content, size_of_contents, weight_of_body, weight_of_procedure, weight_of_range, weight_within}
unfoldable pub use Rattle.measure_laws.specs.internal.Bounds.{bound_of_tree, weight_of_tree}
pub use Rattle.measure_laws.specs.internal.Heights.{BranchThere, ByteDropped, BytesDropped, CallThere, FindsRoom, HaltThere, InstructionThere, JumpThere, LabelThere, NothingThere, PopThere, PushThere, PushesAtMost, ReturnThere, RoutineThere, TableJumpThere, WordThere, keeps_stack, keeps_stack_with, taken_by}
pub use Rattle.measure_laws.specs.internal.Sound.{IsSound}
pub use Rattle.measure_laws.specs.internal.Weights.{beside_within, weight_in_form, weight_in_target, weight_of_given, weight_of_index, weight_of_indices}
unfoldable pub use Rattle.measure_laws.specs.internal.Weights.{beside_at}
pub use Rattle.measure_laws.specs.internal.Fits.{BodyGround, HoldsWithinLevel, IsWithinLevel, ItemsMeasured, ListFootprint, MayBind, MayGo, MayGoTo, PlanMeasured, PlanFootprint, StatementFootprint, StatementMeasured, spared_by}
pub use Rattle.measure_laws.specs.internal.Footprints.{AimHolds, GoesOn, GoesOnWithLabel, GoesOnWithWord, Source, beside, given, indices, more_for_byte, more_for_word, size_of_step, size_of_steps, type_at}
pub use Rattle.codegen8080.proofs.PlacedLabels.{bound_after, bound_first, contents_go, items_both}
pub use Rattle.codegen8080.specs.internal.ItemLabels.{HasItsPlace, ItemGoes, ItemsBind, ItemsGo, LabelsHavePlaces, PlacesLabels}
pub use Rattle.measure_laws.specs.internal.ItemLabels.{Knows}
pub use Rattle.measure_laws.specs.internal.Plans.{JumpTo, JumpsTo, PlanBinds, PlannedBinds}
pub use Rattle.measure_laws.specs.internal.Sizes.{bytes_for}
pub use Rattle.measure_laws.specs.internal.Steps.{StepsBind}
