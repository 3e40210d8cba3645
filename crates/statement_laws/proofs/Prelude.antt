-- The names that the proofs of this crate cite, passed on from one place. Declares nothing.
pub use Rattle.std.proofs.{Common.{AllPairs, Bool, List, None, Option, Some, [], add-zero, ap, arith, bit_or, false, if◌then◌else◌, inl, inr, is_some, length, map, max, min, nat_eq, nat_le, nat_lt, not, option_map, refl, replicate, slice_get, slice_index_or, slice_set, subst, suc, sym, true, zero, ℕ, ◌%◌, ◌&&◌, ◌*◌, ◌++◌, ◌+◌, ◌-◌, ◌/◌, ◌<◌, ◌==◌, ◌||◌, ◌∙◌, ◌∷◌, ◌≡◌, ◌≢◌, ◌≤◌, ◌⊎◌}, lemmas.Bool.{and_from, and_parts, cases_lt, eq-eqb, eqb-false, eqb-true, le-leb, le-ltb, leb-false, leb-true, lt-leb, lt-ltb, ltb-false, ltb-true, not-false, not-true, or_cases, or_parts, true≢false}, lemmas.List.{length-set}, lemmas.Nat.{mul-mod_first}, lemmas.Option.{same_Some}}
pub use Rattle.std.specs.{Int.Bits.{or_self}, Option.{option_and_then}, Prelude.{IfSome, IsSomeAnd}}
pub use Rattle.mem80.proofs.{MemoryLemmas.{byte_small}, Numbers.{at_most_more, one_moved}}
pub use Rattle.mem80.specs.{Memory.{IsMemory, byte_at}, Range.{IsIn}, declared.memory.TheConstants.{MEMORY_SIZE}}
pub use Rattle.ports.specs.{Events.{write_event}, declared.event.Event.{Event}}
pub use Rattle.trees.specs.{declared.declaration.ScalarType.{ScalarType, TheVariants.{Address, Byte}}, declared.expression.BinaryOperator.{BinaryOperator}, declared.expression.UnaryOperator.TheVariants.{Negate, Not}}
pub use Rattle.typed_trees.specs.{Charge.{count_of_arguments, height_of, height_of_arguments, height_of_else, height_of_list, height_of_optional, height_of_reference, height_of_statement, height_of_statements, height_of_target, height_of_targets}, ExpressionTypes.{type_of}, Jumps.{ListStands, ListsStand, ListsStandInCases, ListsStandInElse, ListsStandInStatements}, ObjectParts.{IsScalar, IsScalarOf}, Sizes.{size_of_scalar}, TypedTrees.{BasedOn, BinaryNode, DoStatement, ElseStatement, Elsewhere, GotoStatement, Home as TypedHome, InConstants, InData, InFrame, LabelStatement, ListOf, LoopStatement, MoreStatements, MoveStatement, NoElse, NoStatements, NoSubscript, Nowhere, ObjectType, PartOf, Placed, ScalarObject, SentTo, StoredIn, Subscript, TypedElse, TypedExpression, TypedIteration, TypedList, TypedModule, TypedObject, TypedReference, TypedStatement, TypedStatements, TypedTarget, ValueNode}, WellTyped.{Counts, HasType, IsReturned, IsSeen, LiesFor, RefersToScalar, TypesHold, TypesHoldIn, TypesHoldInElse, TypesHoldInHead, TypesHoldInList, TypesHoldInReference, TypesHoldInStatements, TypesHoldInSubscript, TypesHoldInTarget, TypesHoldInTargets, Within, WithinMain, WithinProcedure}}
pub use Rattle.layout.proofs.Meant.{same_scalars as scalars_agree}
pub use Rattle.meaning.proofs.{AgreementStatements.{again_is, onto_is}, LabelPlaces.{rest_at}}
pub use Rattle.meaning.specs.{Access.{InMemory, InTheFrame, Place as SourcePlace, home_of, is_constant, is_declared, next_place, place_in, place_of, read_byte, read_scalar, write_byte, write_scalar}, Meaning.{Displacement, Later, LoopTurn, Turn, after_turn, based_place, called_for, callee_in, caught_in, computed, displaced, displacement, done, done_all, done_case, done_else, done_list, dropped, going_on, iterated, later_by, located, moved, next_turn, no_displacement, rest_from, rest_of, returned, step_value, stepped, stored, stored_in_each, turn_of, value, values, write_variable}, Outcomes.{Ended, Flow, Gave, Jumped, More, Onward, Outcome, Outside, Program, Returned, State as SourceState, Stopped, taking_one, then_do}, Values.{as_type, is_true, result_of, values_of}, declared.reason.Reason.{Reason, TheVariants.{Byte as UndeclaredByte, Constant}}}
pub use Rattle.isa8080.proofs.{EncodingLemmas.{word_of_bytes}, Words.{low_byte_small, wrapped_once, wrapped_small}}
pub use Rattle.isa8080.specs.{Act.{act}, Arithmetic.{decrement_of, increment_of, operate, subtract_of}, Code.{bytes_of}, Flags.{bit}, State.{HoldBytes, Registers, State, carries, high_byte, holds, low_byte, with_popped, word, wrap}, Step.{running}, declared.instr.Condition.{Condition, TheVariants.{Carry, NoCarry, NotZero, Zero}}, declared.instr.Instr.{Instr, TheVariants.{Accumulate, AccumulateImmediate, Call, Dad, Dcr, Hlt, Inr, Inx, MovToMemory, Mvi, Nop, Pchl, Pop, Push, Xchg}}, declared.instr.Operand.TheVariants.{M}, declared.instr.Operation.{Operation, TheVariants.{Add, AddWithCarry, Compare, Or, Subtract, SubtractWithBorrow}}, declared.instr.Pair.TheVariants.{Bc, De, Hl}, declared.instr.Register.TheVariants.{A, D, E, H, L}, declared.instr.StackPair.TheVariants.{StackBc, StackDe, StackHl}, declared.registers.Flags.{Flags}, declared.registers.Status.TheVariants.{Halted, Running}}
unfoldable pub use Rattle.isa8080.specs.Step.{step_of}
pub use Rattle.asm8080.proofs.{Calls.{pushed as pushed_word}, Kept.{byte_kept, byte_put, bytes_alike, stands_in}, RunLaws.{comes_on}, Spending.{same_after}}
pub use Rattle.asm8080.specs.{Standing.{InstructionStands, Keeps, below, size_of_instruction}, declared.item.Item.{Item}, declared.item.Reference.TheVariants.{AtLabel}, declared.item.WordForm.{WordForm, TheVariants.{CallTo, Jump, JumpWhere, LoadA, LoadHl, LoadPair, StoreHl}}}
pub use Rattle.runtime8080.specs.{internal.Routines.{BlockMisses, HasReturned, IsInBlock, Returns, copied}, declared.routine.Routine.TheVariants.{Move}}
pub use Rattle.treecode.specs.{internal.Homes.{place_after}, internal.Lowered.{AreMoreStatements, AreNoStatements, AreStatements, AreTargets, IsAbsent, IsAssignment, IsBinary, IsCall, IsCallOf, IsCase, IsConstantList, IsConversion, IsDo, IsElse, IsEmbedded, IsExpression, IsExpressionIn, IsForm, IsFunction, IsGoto, IsHalt, IsIf, IsIndex, IsInput, IsIteration, IsLabel, IsList, IsListOf, IsLocation, IsMove, IsNoElse, IsNoValue, IsNull, IsNumber, IsOptional, IsPart, IsReference, IsReturn, IsSent, IsShift, IsSomeElse, IsSomeValue, IsStatement, IsStatementForm, IsStatementNode, IsStored, IsSubscript, IsTarget, IsUnary, IsValue, MoreTargets, NoTargets}, internal.Nodes.{Nodes, home_at, nodes_of}, internal.Queries.{item, statement, target as target_at}, internal.Traits.{keeps_both, keeps_of_part, reference_is_quiet, subscript_is_quiet}, declared.expression.Expression.{Expression}, declared.expression.ExpressionForm.{ExpressionForm}, declared.expression.ExpressionNumber.{ExpressionNumber}, declared.lists.Range.{Range}, declared.place.Home.{Home}, declared.place.Location.{Location}, declared.place.Place.{Place}, declared.procedure.ProcedureKind.{ProcedureKind}, declared.reference.Reference.{Reference}, declared.reference.Subscript.{Subscript as IndexNode}, declared.reference.Target.{Target, TheVariants.{Sent, Stored}}, declared.statement.Iteration.{Iteration}, declared.statement.Statement.{Statement}, declared.statement.StatementNumber.{StatementNumber}}
pub use Rattle.treecode_laws.proofs.{Evaluating.{quiet_base, quiet_byte, quiet_gave, quiet_scalar, quiet_then}, FreeNodes.{free_stores_nothing}, Operands.{location_exchanged}}
pub use Rattle.treecode_laws.specs.{internal.Evaluations.{Answer, AreAlike, AreSame, BothOutside, Fails, Found, GoesOutside, IsQuiet, outcome_of}, internal.Trees.{stores_nothing}}
pub use Rattle.steps8080.specs.{internal.Facts.{after, after_form, after_word, is_at, no_facts, same_location}, internal.Instructions.{copy, high, load, low, set, with_register}, internal.Queries.{base_after, base_of, location_at as base_location, place_in_memory}, internal.Step.{label_of, plain}, internal.Widths.{word_of}, internal.Writer.{jump_item}, declared.facts.Facts.{Facts}, declared.sites.site.Site.{Site}, declared.step.LabelNumber.{LabelNumber}, declared.step.Part.{Part}, declared.step.Step.{Step, TheVariants.{CallRoutine}}, declared.step.Task.{Task}}
unfoldable pub use Rattle.steps8080.specs.{internal.Queries.{direct, is_free, keeps, keeps_of_address, known, location_of, number, split}, internal.Site.{expression, scalar, scalar as scalar_of}, internal.Widths.{direct_word, word_in_memory}}
pub use Rattle.exprgen8080.specs.internal.Emission.{NoneWritten, PlainWritten, knowing, label_of_routine}
unfoldable pub use Rattle.exprgen8080.specs.internal.Calls.{value_task}
pub use Rattle.statements8080.specs.{internal.Assignments.{any_target, assignment_steps, byte_steps, count_by, count_of, count_of_form, each_at, each_steps, from_byte_steps, from_type, from_word_steps, is_address_first, is_one, is_quiet_subscript, is_value_by, is_value_of, number_steps, other_byte_steps, other_word_steps, several_by, several_steps, single_steps, store_at, stores_steps, takes_byte, takes_word, together_steps, types_by, value_steps, word_steps}, internal.Bodies.{body_label, is_near, whole}, internal.Branches.{both_steps, branch, computed_if_steps, forever_steps, goto_label, goto_label_of, has_one_jump, if_steps, inner_of_form, is_and_or_or, may_jump_twice_by, statement_if_any, tested_if_steps, tested_while_steps, then_steps}, internal.Cases.{case_steps, choice_steps, computed_case_steps, entry_of, entry_of_statement, known_case_steps, statement_at}, internal.Counters.{address_fact, converted, counter_of, counter_place, counts_by_one, word_fact}, internal.Iterations.{add_byte_steps, add_de_steps, add_steps, add_word_to_byte_steps, asked_mark, below_steps, count_at_hl_steps, count_steps, counts_in_place, is_byte, is_byte_type, loop_labels, next_byte_steps, step_in_de_steps, turns_if_any, turns_steps}, internal.Moves.{ends_steps, move_steps}, internal.Plans.{all, jump, label_at, mark, nth_label, part, plain as plan, steps_from}, internal.SamePlaces.{are_same, are_same_leaf, are_same_placed, are_same_scalar, are_same_subscripts, inside_conversion, same_scalar, scalar_at, scalar_of_form, unconverted}, internal.Tests.{computed_test, facts_of_test, known_test, word_at, word_of_form, word_test_by}, declared.body.Body.{Body}, declared.bound.Test.{Test}, declared.iteration.Counter.{Counter}, declared.plan.Planned.{Planned, TheVariants.{LoadWord}}}
unfoldable pub use Rattle.statements8080.specs.{internal.Branches.{has_one_jump_within}, internal.Cases.{cases_end_steps, choice_at_steps, into_table_steps, number_in_de_steps, statements_steps, table_at, table_steps}, internal.Counters.{has_a_turn}, internal.Iterations.{asked_test_steps, facts_of_turn, first_steps, first_test_steps, general_begin_steps, general_end_steps, general_steps, next_turn_steps, step_steps, sum_of_byte_steps, sum_of_word_steps, test_label_steps, to_known_steps}, internal.Tests.{test_of, test_steps}}
pub use Rattle.statements8080.proofs.Targets.{none_passes}
pub use Rattle.codegen8080.specs.{internal.Generated.{AreAllCarriedOut, AreCarriedOut, IsCarriedOut, IsListCarriedOut, ListCarriedOut, NoneCarriedOut, StatementCarriedOut, StepCarriedOut, arriving, byte_at_address_steps, byte_at_steps, byte_in_a, common, common_location, jump_on_steps, known_here, met, site_of, word_at_steps, word_in_hl}, internal.Procedures.{return_steps}, internal.Statements.{returned_value_steps}, declared.meeting.Here.{Here}}
unfoldable pub use Rattle.codegen8080.specs.{internal.Generated.{carried_steps, here_after, load_byte_steps, load_word_steps, waiting_after}, internal.Procedures.{drop_steps, kept_steps, pops_steps, return_of_frame_steps, return_over_any_steps, return_over_steps, return_steps_by}, internal.Statements.{return_of_steps, statement_steps}}
pub use Rattle.code_meaning.proofs.{ByteResults.{borrow_shows, borrow_shows_more, carry_shows, count_shows, same_test, word_borrow}, Facts.Changes.{no_facts_hold}, Facts.Places.{same_locations}, Facts.Steady.{address_asks, declared_is_steady}, Facts.Uses.{byte_in_a_is, word_in_hl_is}, FirstItems.{jump_passed, plain_step, word_step}, Halting.{halts}, Landing.{after_paid_step, after_step, does_without_step, landed, then_does, told_on}, Numbers.{as_type_fits, differs_from_next, halves_joined, high_is_byte, high_of_halves, low_of_byte, low_of_halves, next_is_other, next_word, suc_moved, two_bytes_fit, value_is_word, word_from_halves}, Outcomes.{same_both, same_given}, Sequences.{both_there}, Standing.{stands_now}, Stores.{ready_with_variable}}
pub use Rattle.code_meaning.specs.{internal.Activations.{Activation, Arrives, HasRoom, IsReady, IsThere, IsVariable, LiesWell, Loaded, MayChange, loaded_of}, internal.Asking.{Asks, IsSteadyByte}, internal.Holding.{AddressHolds, AllHold, ByteHolds, Distances, IsByteAt, IsSteady, IsWordAt, WordHolds, ZeroHolds, location_at, place_at}, Landing.{Does, IsHalted, IsLeft, Lands, Told, at_place}}
pub use Rattle.task_laws.proofs.{Bytes.BytesAsked.{WordAtPlace}, Bytes.HighBytesAsked.{words_at_places}, Calls.Arguments.{scalar_is}, Loads.Loads.{lies_there}, Machine.Effects.{then_again}, Machine.KnownOperands.{known_small, number_small}, Machine.Nodes.{node_of}, Machine.RegisterCode.{AreOnRegisters, effect}, Machine.RoutineCalls.{in_memory, machine_is, ready_after_routine, twice_wrapped}, Machine.Rules.{bytes_at_place, plain_goes, ready_with_registers, registers_go, room_for, word_goes}, Machine.SiteNodes.{free_is, known_means, number_means, quiet_is, value_in}, Machine.Stages.{Stage, stage_with_a, at_byte, at_carried, at_effects, at_end, at_instructions, at_load_a, at_pop, at_push, at_registers, at_word, does_same, gives_then, loaded_in, script_of, then_does_where}, Machine.StoredValues.{at_store, at_value, without_more}, Machine.StepItems.{CarryOut, steps_stand}, Places.Bases.{begins_there, has_some, home_there, not_based}, Places.Fitting.{located_fits, refers_is_referred}, Places.Homes.{Begins, BeginsAtBase, BeginsInFrame, BeginsInMemory}, Places.Located.{located_in}, Places.LocationWords.{set_same, word_at_hl_goes, word_known}, Places.ReadPlaces.{does_outside}, Places.Reading.{FitsIn, byte_read, frame_is, frame_next, of_frame, word_read}, Relations.PlaceComparisons.{read_then}, Stores.Stores.{plain_gains}, Stores.WordWriting.{first_fits, next_address, second_fits, word_written}, Stores.Writing.{byte_written}}
pub use Rattle.task_laws.specs.{internal.Conditions.{is_plain, jumps_once}, internal.Contexts.{Context, InRegister, IsSound, ResultLies, RoutineIsAt, distances_in, nodes_in}, internal.Steps.{CallThere, ChangeThere, HoldsThere, JumpThere, MarkThere, NoneThere, PartThere, PlainThere, RoutineThere, StepsStand, TestThere, WordThere}, internal.Tasks.{AddressDoes, AddressIsGiven, BranchDoes, ByteIsGiven, Goes, IsReferred, Know, Left, PartDoes, Parts, Passes, StoreDoes, TaskDoes, WordIsGiven, address_on_machine}}
pub use Rattle.statement_laws.specs.internal.Bodies.{Behaves, BodyContext, ComesToLabel, IsSoundBody, IsWithin, LabelLies, Leaves}
pub use Rattle.statement_laws.specs.internal.Statements.{ListDoes, ListPlanned, NonePlanned, PlannedStand, StatementDoes, StatementPlanned, StatementStands, StatementsDo, StepPlanned}
