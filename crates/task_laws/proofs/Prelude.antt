-- The names that the proofs of this crate cite, passed on from one place. Declares nothing.
pub use lib.Bits.{and_comm, and_le_r, and_mod, or_comm, or_mod, xor_comm, xor_mod}
pub use mathlib.Core.Bool.{not-not}
pub use Rattle.std.proofs.{Common.{All, Bool, List, None, Option, Some, [], ap, append-nil, arith, bit_and, bit_or, bit_xor, false, get_or, if◌then◌else◌, inl, inr, is_some, length, lt_of_le_of_lt, max, min, mul_comm, nat_le, nat_lt, not, option_map, pow-add, refl, replicate, slice_get, slice_index, slice_index_or, slice_set, subst, suc, sym, true, unwrap_or, zero, ℕ, ◌%◌, ◌&&◌, ◌*◌, ◌++◌, ◌+◌, ◌-◌, ◌/◌, ◌<◌, ◌==◌, ◌^◌, ◌||◌, ◌∙◌, ◌∷◌, ◌≡◌, ◌≢◌, ◌≤◌, ◌⊎◌}, Math.Nat.{div-div-eq-div-mul, mod-le, mul-add, pow-le-pow_right, pow-suc}, lemmas.Bool.{and_from, and_parts, cases_eq, cases_lt, eq-eqb, eqb-false, eqb-true, false_from_ne_true, false≢true, le-leb, le-ltb, leb-false, leb-true, lt-leb, lt-ltb, ltb-false, ltb-true, ne_eqb, or_cases, true≢false}, lemmas.List.{append_assoc, get_or_append_left, get_or_past, get_or_push, length-set, length_push}, lemmas.List.Elements.{All-from_get_or, All-from_recursion, All-get_or, All-map, All-nil, All-replicate, All-set}, lemmas.Nat.{and_le_l, and_mask, and_shr, le_or_l, le_or_r, mul-mod, mul-mod_second, or_of_16, or_of_8, or_shr, pow_pos, xor_of_16, xor_of_8, xor_shr}, lemmas.Option.{cond_some, none-some, option_and_then_some, same_Some, slice_get_cases, slice_get_past, slice_get_within}}
pub use Rattle.std.specs.{Int.Bits.{and_zero_r, or_self, xor_add_and, xor_self}, List.{AllByRecursion}, Option.{option_and_then, option_map_or}, Prelude.{IfSome, IsSomeAnd}}
pub use Rattle.mem80.proofs.{MemoryLemmas.{byte_small}, Numbers.{byte_is_low, high_of_pair, low_is_byte, remainder_in_memory, sum_turned}}
pub use Rattle.mem80.specs.{Memory.{IsMemory, byte_at, word_at}, Range.{IsIn}, declared.memory.TheConstants.{MEMORY_SIZE}}
pub use Rattle.ports.specs.{Events.{read_event, write_event}, Input.{IsScript, input_value, queue_of, reads_of}, declared.event.Event.{Event}}
pub use Rattle.trees.proofs.Lists.{holds_for_item}
pub use Rattle.trees.specs.{declared.declaration.ScalarType.{ScalarType, TheVariants.{Address, Byte}}, declared.expression.BinaryOperator.{BinaryOperator, TheVariants.{Divide, Greater, GreaterOrEqual, Less, LessOrEqual, Modulo, Multiply, Unequal, Xor}}, declared.expression.UnaryOperator.{UnaryOperator, TheVariants.{Negate, Not}}, declared.functions.ByteOfValue.{ByteOfValue, TheVariants.{HighByte, LowByte}}, declared.functions.UnaryFunction.{UnaryFunction}, internal.Functions.{byte_taken, for_byte}, Functions.{type_of_function}}
pub use Rattle.typed_trees.specs.{Charge.{count_of_arguments, height_of, height_of_arguments, height_of_reference, height_of_subscript, height_of_target}, ExpressionTypes.{type_of, type_of_result, type_of_target}, Globals.{ListsGlobals}, Numbers.{NumbersFit, NumbersFitIfSome, NumbersFitIn, NumbersFitInArguments, NumbersFitInElse, NumbersFitInHead, NumbersFitInList, NumbersFitInModule, NumbersFitInProcedure, NumbersFitInReference, NumbersFitInStatements, NumbersFitInSubscript, NumbersFitInTarget, NumbersFitInTargets}, ObjectParts.{IsPartOf, IsScalar, IsScalarOf}, Sizes.{count_of, size_of_element, size_of_object, size_of_scalar}, TypedTrees.{AssignmentNode, AssignmentStatement, At, BasedOn, BinaryNode, CallNode, CallStatement, CaseStatement, ConversionNode, DoStatement, ElseStatement, Elsewhere, FunctionNode, GotoStatement, HaltStatement, Home as TypedHome, IfStatement, InConstants, InData, InFrame, InputNode, LabelStatement, ListNode, ListOf, LocationNode, LoopStatement, MoreArguments, MoreStatements, MoveStatement, NoArguments, NoElse, NoStatements, NoSubscript, Nowhere, NullStatement, NumberNode, ObjectType, PartOf, Placed, ReturnStatement, SentTo, ShiftNode, StoredIn, Subscript, TypedArguments, TypedElse, TypedExpression, TypedHead, TypedIteration, TypedList, TypedModule, TypedObject, TypedProcedure, TypedReference, TypedStatement, TypedStatements, TypedTarget, UnaryNode, ValueNode}, WellTyped.{HasLocation, IsReturned, IsSeen, IsWellTyped, LiesFor, RefersToLocation, RefersToScalar, ShiftsIn, Takes, TypesHold, TypesHoldIn, TypesHoldInArguments, TypesHoldInElse, TypesHoldInHead, TypesHoldInList, TypesHoldInProcedure, TypesHoldInReference, TypesHoldInStatements, TypesHoldInSubscript, TypesHoldInTarget, TypesHoldInTargets, Within, WithinMain, WithinProcedure, WorksOn, types_of}, declared.parts.AtAddress.TheVariants.{AtNumber, AtObject}, declared.parts.ShiftFunction.{ShiftFunction, TheVariants.{RotateLeft, RotateRight, ShiftLeft, ShiftRight}}, declared.parts.Visibility.{Visibility}}
unfoldable pub use Rattle.typed_trees.specs.Charge.{charge_of}
pub use Rattle.layout.specs.{Joined.{DeclaredProcedure, InProgram, IsJoined, is_public_procedure, procedure_meant}, Placement.{ModulePlacement}, Storage.{Storage}}
pub use Rattle.meaning.proofs.Powers.{left_far_number}
pub use Rattle.meaning.specs.{Access.{InMemory, InTheFrame, Place as SourcePlace, Surroundings, frame_bytes, home_in, home_of, is_constant, is_declared, next_place, place_in, place_of, read_byte, read_scalar, write_byte, write_scalar}, Meaning.{Displacement, Later, LoopTurn, Turn, address_in_memory, address_of_list, after_turn, based_place, begun as begun_loop, called, called_for, callee_in, caught_in, charged, computed, displaced, displacement, done, done_all, done_case, done_else, done_list, dropped, entered, frame_of, going_on, is_frame_of, iterated, landed, later_by, located, moved, next_turn, no_displacement, parameters_set, procedure_at, read_variable, rest_from, rest_of, returned, step_value, stepped, stored, stored_in_each, turn_of, turned as turned_loop, value, value_of_flow, values, write_variable}, Outcomes.{Ended, Flow, Gave, Jumped, More, Onward, Outcome, Outside, Program, Returned, State as SourceState, Stop, Stopped, taking_one, then_do}, Values.{as_type, function_of, is_true, result_of, result_of_one, shifted, truth, turned, values_of}, declared.reason.Reason.{Reason, TheVariants.{Byte as UndeclaredByte, Constant, Stack}}}
pub use Rattle.isa8080.proofs.{EncodingLemmas.{word_of_bytes}, FlagBytes.{flag_byte_small}, Words.{high_of_wrapped, wrapped_once, wrapped_small}}
pub use Rattle.isa8080.specs.{Act.{act}, Arithmetic.{add_of, decrement_of, increment_of, operate, rotate_right_of, subtract_of}, Code.{bytes_of}, Flags.{bit, flag_byte, flags_in}, State.{HoldBytes, Registers, State as Machine, State, high_byte, holds, low_byte, one_less, pushed_of, register_of, two_less, with_popped, word, wrap}, Step.{running}, declared.instr.Condition.{Condition, TheVariants.{Minus, NoCarry, NotZero, ParityEven, ParityOdd, Plus}}, declared.instr.Instr.{Instr, TheVariants.{Accumulate, AccumulateImmediate, Call, Cma, Dad, Dcr, Dcx, In, Inr, Inx, Lxi, Mov, MovToMemory, Mvi, Out, Pop, Push, Ral, Rar, Rlc, Rrc, Xchg}}, declared.instr.Operand.TheVariants.{M, Of}, declared.instr.Operation.{Operation, TheVariants.{Add, AddWithCarry, And, Compare, ExclusiveOr, Or, Subtract, SubtractWithBorrow}}, declared.instr.Pair.TheVariants.{Bc, De, Hl, Sp}, declared.instr.Register.{Register, TheVariants.{A, B, C, D, E, H, L}}, declared.instr.StackPair.{StackPair, TheVariants.{Psw, StackBc, StackDe, StackHl}}, declared.registers.Flags.{Flags}, declared.registers.Status.TheVariants.{Running}}
unfoldable pub use Rattle.isa8080.specs.Step.{step_of}
pub use Rattle.asm8080.proofs.{Calls.{IsPushed, pushed, pushed as pushed_memory, pushed as pushed_word, pushed_is_pushed, pushed_keeps}, Kept.{byte_kept, byte_put, bytes_alike, memory_put, stands_in, stands_size}, Stack.{pop_does, push_does}, Steps.{step_then}}
pub use Rattle.asm8080.specs.{Items.{Layout, instruction_with, size_of}, Standing.{AgreesIn, InstructionStands, below, size_of_instruction}, declared.item.Item.{Item}, declared.item.Reference.TheVariants.{AtLabel}, declared.item.WordForm.{WordForm, TheVariants.{CallTo, LoadA, LoadHl, LoadPair, StoreA, StoreHl}}}
pub use Rattle.runtime8080.proofs.{AddressBits.{by_eight, half_small, halves, none_left, quarter_high_small, quarter_low_small, quarters, turned_small}, Bits.{equal_below, none_right, shift_left, shifted_left, times, turn_left, turn_right, turned_left, turned_right}}
pub use Rattle.treecode.proofs.KeptValues.{known_kept, node_traits}
pub use Rattle.treecode.specs.{internal.Homes.{frame_number, home_after, home_of_object, homes_from, location_after, number_of_place, place_after}, internal.Known.{converted_address, converted_place, function_of_place, known_distance, known_number, known_subscript, known_value, place_of_part, result_of_known, result_of_place, shift_of_known}, internal.Lowered.{AreArguments, AreMore, AreMoreStatements, AreNoStatements, AreNone, AreStatements, AreTargets, IsAbsent, IsAssignment, IsBinary, IsCall, IsCallOf, IsCase, IsConstantList, IsConversion, IsDo, IsElse, IsEmbedded, IsExpression, IsForm, IsFunction, IsIf, IsIndex, IsInput, IsIteration, IsList, IsListOf, IsLocation, IsLowered, IsMove, IsNoElse, IsNoValue, IsNode, IsNumber, IsOptional, IsPart, IsReference, IsReturn, IsSent, IsShift, IsSomeElse, IsSomeValue, IsStatement, IsStatementForm, IsStatementNode, IsStored, IsStored as IsStoredIn, IsSubscript, IsTarget, IsUnary, IsValue, MoreTargets, NoTargets}, internal.Nodes.{Nodes, NumbersAreWords, home_at, nodes_of}, internal.Queries.{argument, home, inside, none_kept, place_number, source}, internal.Resolved.{HaveOperands, PartHasOperands, SubscriptHasOperands}, internal.Traits.{KeepTraits, byte_after, distance_of, form_at, free_at, has_immediate, is_direct, is_free_form, is_free_of, is_free_with, is_of_low_byte, is_quiet_form, is_static_location, keeps_at, keeps_none, keeps_of, keeps_of_binary, keeps_of_byte, keeps_of_extended, keeps_of_form, keeps_of_index, keeps_of_part, keeps_of_shift, keeps_of_subscript, keeps_of_sum, known_at, known_of, memory_of_form, memory_of_inner, no_traits, number_at, place_of_reference, quiet_at, reference_is_quiet, same_low_byte, storing_nothing_at, subscript_is_quiet, traits_at}, declared.expression.Expression.{Expression}, declared.expression.ExpressionForm.{ExpressionForm}, declared.expression.ExpressionNumber.{ExpressionNumber}, declared.lists.Range.{Range}, declared.module.TreeModule.{TreeModule}, declared.place.Home.{Home}, declared.place.Location.{Location, TheVariants.{Static}}, declared.place.Place.{Place, TheVariants.{Code, Data, External, Number}}, declared.procedure.ProcedureKind.{ProcedureKind}, declared.procedure.TreeProcedure.{TreeProcedure}, declared.reference.Reference.{Reference}, declared.reference.Subscript.{Subscript as IndexNode}, declared.reference.Target.{Target, TheVariants.{Sent, Stored}}, declared.statement.Iteration.{Iteration}, declared.statement.Statement.{Statement}, declared.statement.StatementNumber.{StatementNumber}, declared.traits.Keeps.{Keeps}, declared.traits.Traits.{Traits}}
unfoldable pub use Rattle.treecode.specs.{internal.Homes.{homes_of}, internal.Traits.{traits_of}}
pub use Rattle.treecode_laws.proofs.{Evaluating.{quiet_base, quiet_computed, quiet_gave, quiet_scalar}, Exchanging.{exchanged, in_order as evaluated_in_order, in_order}, KeptTraits.{quiet_kept}, Operands.{known_gives, operands_exchanged}, QuietTrees.{quiet_value}}
pub use Rattle.treecode_laws.proofs.FreeNodes.{from_number, from_value}
pub use Rattle.treecode_laws.specs.internal.Evaluations.{AreAlike, AreSame, BothOutside, Fails, Found, GoesOutside, IsQuiet, may_exchange as may_exchange_at, outcome_of}
pub use Rattle.frames.proofs.{Homes.{earlier_kept}, Parameters.{numbered_at}}
pub use Rattle.steps8080.specs.{internal.Facts.{after, after_word, before, is_at, no_facts, with_facts, without_memory}, internal.Instructions.{clear_a, copy, high, load, low, set, with_memory, with_register}, internal.Queries.{base_after, base_of, form_in_memory, high_of, located_at, location_at as base_location, place_in_memory, reference_after, split_form, split_sum, split_whole}, internal.Questions.{agree, greatest, mirrored, number_question, question_of, relation_of_form, relation_with_number}, internal.Step.{extension_steps, label_of, part, part as part_of, plain, repeat_steps}, internal.Widths.{fits_byte_by, is_byte, power_from, shift_by_fits_byte, word_of}, internal.Writer.{jump_item, word_item}, declared.facts.Facts.{Facts}, declared.sites.queries.Base.{Base}, declared.sites.queries.Split.{Split}, declared.sites.questions.Comparison.{Comparison}, declared.sites.questions.Inquiry.TheVariants.{Between}, declared.sites.questions.NumberQuestion.{NumberQuestion, TheVariants.{Below, Is, Never}}, declared.sites.questions.Question.{Question, TheVariants.{Equal, LeftBelow, RightBelow}}, declared.sites.questions.Relation.{Relation}, declared.sites.site.Site.{Site}, declared.step.LabelNumber.{LabelNumber}, declared.step.Part.{Part}, declared.step.Step.{Step, TheVariants.{CallRoutine, Holds, Jump, Mark, MemoryChanged, Plain, TestA, Word}}, declared.step.Task.{Task}}
unfoldable pub use Rattle.steps8080.specs.{internal.Queries.{direct, high_in_memory, is_free, is_quiet, keeps, keeps_of_address as keeps_at_site, keeps_of_address, known, location_of, may_exchange, memory, memory as memory_of, number, number as number_of, plain_in_memory, split, split_computed, stores_nothing}, internal.Questions.{relation_between, relation_of}, internal.Site.{distance, expression, scalar, scalar as scalar_at, scalar as scalar_of}, internal.Widths.{direct_word, fits_byte, form_fits_byte, high_byte_in_memory, is_byte_in_register, is_number_below, is_word_in_hl, low_number, operand_in_memory, power, power_of_two, result_fits_byte, shift_fits_byte, word_in_memory}}
pub use Rattle.operands8080.specs.{internal.Addresses.{addition_steps, address_steps, base_added_steps, base_steps, frame_word_steps, note_address_steps, note_word_steps, located_steps, location_address_steps, location_word_steps, negated, new_address_steps, number_added_steps, second_steps, word_at_hl_steps}, internal.Answers.{known_steps}, internal.Branches.{branch_part, branch_setting, branch_steps, by_bit_steps, equality_steps, is_odd, joined_steps, known_branch_steps, opposite_condition, other_steps, outcome_branch_steps, shape_of_form, shape_steps, where_flags_steps}, internal.ByteRelations.{answer_to, better_form, byte_is_steps, byte_number_answer, byte_relation_steps, comparing, form_or_push, is_zero_steps, known_answer, memory_form, number_in_a_answer, number_in_a_steps, pushed_steps, register_form}, internal.Loads.{byte_in_memory_steps, byte_to_l_steps, extended_byte_in_memory_steps, frame_byte_steps, frame_byte_to_l_steps, location_byte_steps, top_word_steps, word_in_memory_steps}, internal.Pairs.{any_order, choices_of, form_steps, is_free_byte, left_in_hl, order_of, pair_form, pair_in_order_steps, pair_order, pair_order_by, pair_steps, right_in_hl, wish_for_left, wished_steps, with_byte_steps, with_exchange_steps, with_known_steps}, internal.Products.{bit_steps, byte_multiple_steps, byte_product_steps, chain_steps, multiple_steps, product_steps, small_multiple_steps}, internal.Relations.{comparison_steps, number_answer, number_steps, outcome_value_steps, relation_outcome, relation_steps, relation_value_steps, value_setting}, internal.Stores.{address_beside_a_steps, address_beside_de_steps, byte_is_here_steps, exchange_near, goal_of, goal_steps, send_steps, store_a_at_steps, store_a_steps, store_extended_steps, store_hl_at_steps, store_low_byte_at_steps, store_low_byte_steps, store_near_steps, store_steps, store_word_steps, value_back_steps, word_is_here_steps, word_near}, internal.WordRelations.{apart_of, below_steps, high_by_hl_steps, high_difference_steps, high_steps, in_hl, left_apart, load_a_steps, low_difference_steps, low_steps, masked_form, masked_steps, other_word, right_apart, taken_steps, with_pair_steps, with_place_steps, word_below_answer, word_below_steps, word_is_steps, word_number_answer, word_number_steps, word_question_answer, word_question_steps, word_taken_from, words_asked, words_of, words_steps, zero_by_hl_steps}, declared.answers.Answer.{Answer, TheVariants.{Carry, Zero}}, declared.answers.Purpose.{Purpose, TheVariants.{Branch, Value}}, declared.answers.Setting.{Setting}, declared.branches.Shape.TheVariants.{Joined, Opposite, Other, SameAs, Whatever}, declared.byte_relations.Form.{Form, TheVariants.{WithE, WithMemory}}, declared.pairs.Choices.{Choices}, declared.pairs.PairForm.{PairForm, TheVariants.{LeftKeeps, LeftKnown, RightKeeps, RightKnown}}, declared.pairs.PairOrder.{PairOrder, TheVariants.{LeftInHl, RightInHl}}, declared.relations.Outcome.{Outcome as Shown, TheVariants.{Known, Where}}, declared.stores.Goal.{Goal}, declared.stores.Near.{Near, TheVariants.{First, Second}}, declared.word_relations.Apart.{Apart}, declared.word_relations.Words.{Words, TheVariants.{DeAndHl, PlaceAndHl}}}
unfoldable pub use Rattle.operands8080.specs.{internal.Branches.{shape_of}, internal.ByteRelations.{without_push}, internal.Products.{chain_from, has_bit}, internal.WordRelations.{equality_of_words, masked, operand_apart, word_is_zero_steps}}
pub use Rattle.exprgen8080.specs.{internal.Emission.{AreWritten, CallWritten, ChangeWritten, HoldsWritten, IsWritten, JumpWritten, MarkWritten, NoneWritten, PartWritten, PlainWritten, Planned, RoutineWritten, TestWritten, WordWritten, after_test, call_items, has_routine, items_of_call, knowing, label_of_routine, test_items, test_of_a}, internal.Emitted.{Emits, HasAll}, declared.byte_operators.ByteForm.{ByteForm, TheVariants.{LeftFree, LeftInMemory, Pushed, RightFree, RightInMemory}}, declared.byte_operators.Operands.{Operands}, declared.byte_shifts.Shifted.{Shifted}, declared.emission.Emission.{Emission}, declared.word_operators.Simple.{Simple}}
unfoldable pub use Rattle.exprgen8080.specs.{internal.ByteOperators.{added_steps, byte_binary_steps, byte_operation_steps, commutes, form_after_right, form_from_register, form_of, form_with_left, form_without_memory, from_number_steps, immediate_steps, in_form_steps, number_of_two, product_byte_steps, quotient_byte_steps, remainder_byte_steps, with_e_steps, with_memory_steps, with_number_steps, with_stack_steps}, internal.ByteShifts.{by_number_steps, byte_routine, byte_shift_steps, byte_shifted_right_steps, count_in_memory_steps, kept_bits, low_byte_shifted_right_steps, middle_byte_steps, operands_steps, right_shift_steps, rotation_steps, shifted_left_steps, turned_right_steps, zero_steps as byte_zero_steps, zero_steps}, internal.Bytes.{byte_form_steps, byte_function_steps, byte_of_two_steps, byte_steps, byte_unary_steps, called_byte_steps, embedded_steps, known_byte_steps, low_of_value_steps}, internal.Calls.{argument_steps, arguments_steps, call_steps, last_argument_steps, push_of, pushed_argument_steps, value_task}, internal.Effects.{both_effects_steps, effects_steps, form_effects_steps, reference_effects_steps, subscript_effects_steps}, internal.Forms.{steps_of, task_steps}, internal.Halves.{byte_number_steps, high_byte_steps, low_of_word_steps}, internal.Routines.{computed_product_steps, division_steps, product_order}, internal.WordOperators.{and_with_number_steps, both_halves_steps, computed_logic_steps, difference_steps, exchanged_operand, first_and_simple, half_steps, half_through_a_steps, high_half_steps, is_of_bytes, left_word, logic_steps, logic_with_byte_steps, logic_with_number_steps, logic_with_simple_steps, paired_steps, product_word_steps, quotient_steps, remainder_steps, simple_operand, sum_steps, taken_from_number_steps, with_simple, with_word_steps, word_binary_steps}, internal.WordShifts.{computed_count_steps, count_beside_word_steps, quarter_steps, shifted_right_little_steps, word_by_number_steps, word_routine, word_shift_steps, word_shifted_right_steps}, internal.Words.{computed_word_steps, extended_byte_steps, word_form_steps, word_of_two_steps, word_steps, word_unary_steps}}
pub use Rattle.code_meaning.proofs.{Access.{outside_does}, ByteResults.{borrow_shows, borrow_shows_more, count_shows, same_test, word_borrow, zero_shows}, Facts.After.{facts_after, facts_after_word}, Facts.Changes.{no_facts_hold, with_facts_hold, without_hl_holds, without_memory_holds}, Facts.Places.{after_before, location_after_is}, Facts.Steady.{address_asks, declared_is_steady, push_asks}, Facts.Uses.{address_in_hl_is, byte_in_a_is, byte_in_h_is, word_in_hl_is}, FirstItems.{jump_passed, jump_taken, plain_first, plain_step, word_first, word_step}, Landing.{after_step, does_without_step, then_does, told_on}, Numbers.{as_type_fits, byte_as_low, differs_from_next, halves_joined, high_is_byte, high_of_halves, high_of_two, low_of_byte, low_of_halves, low_of_two, next_is_other, next_word, suc_moved, two_bytes_fit, value_is_word, word_from_halves, word_high_byte, word_low_byte}, Outcomes.{given_again, same_both, same_given}, Owning.{keeps_all, keeps_both, keeps_wider, owns_more, pushed_is_not_owned}, Pushes.{ready_after_pop, ready_after_push, still_pushed}, Sequences.{both_there}, Standing.{after_mark, mark_lies, stands_now}, Stores.{keeps_put, ready_with_variable}}
pub use Rattle.code_meaning.specs.{internal.Activations.{Activation, Arrives, FrameLies, HasRoom, IsReady, IsThere, LiesWell, Loaded, MayChange, Owns, loaded_of}, internal.Asking.{Asks, IsSteadyByte, WordAsks}, internal.Holding.{FactsHold, IsSteady, ZeroHolds, location_at, place_at}, Landing.{Does, Lands, at_place}}
pub use Rattle.task_laws.specs.internal.Conditions.{jumps_once}
pub use Rattle.task_laws.specs.internal.Contexts.{AreOfTypes, ArgumentsLie, CallsFit, Context, InRegister, InWord, IsOfResult, IsSound, ResultLies, RoutineIsAt, SourceFits, bytes_pushed, distances_in, nodes_in}
pub use Rattle.task_laws.specs.ProgramTypes.{HasTypes}
pub use Rattle.task_laws.specs.internal.Steps.{CallThere, ChangeThere, HoldsThere, JumpThere, MarkThere, NoneThere, PartThere, PlainThere, RoutineThere, StepsStand, TestThere, WordThere}
pub use Rattle.task_laws.specs.internal.Tasks.{AddressDoes, AddressIsGiven, BranchDoes, ByteDoes, ByteIsGiven, CallDoes, Carries, ChangesAOnly, EffectsAreGiven, EffectsDo, Goes, IsReferred, IsStored as IsStoredThere, IsStored as WasStored, Know, Left, Nothing, NothingIsGiven, PartDoes, Parts, Passes, ResultIsGiven, StoreDoes, TaskDoes, WordDoes, WordIsGiven, address_on_machine}
