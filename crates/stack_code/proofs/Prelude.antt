-- The names that the proofs of this crate cite, passed on from one place. Declares nothing.
pub use Rattle.std.proofs.{Common.{All, AllPairs, Bool, List, None, Option, Some, [], ap, append-nil, append_assoc, arith, cond, drop, eq-eqb, eqb-true, false, find, if◌then◌else◌, le-ltb, leb-false, leb-true, length, length-append, lt-ltb, ltb-false, ltb-true, min, nat_le, nat_lt, ne_eqb, not, option_map, position, refl, replicate, slice_get, slice_index, slice_index_or, subst, suc, sym, true, zero, ℕ, ◌%◌, ◌&&◌, ◌*◌, ◌++◌, ◌+◌, ◌-◌, ◌<◌, ◌==◌, ◌∙◌, ◌∷◌, ◌≡◌, ◌≢◌, ◌≤◌}, lemmas.Option.{none-some, same_Some}}
pub use Rattle.std.specs.{List.{enumerate_from, flat_map, position_or_len, prefix_len}, Option.{option_and_then, option_map_or, option_or}}
pub use Rattle.mem80.specs.declared.memory.TheConstants.{MEMORY_SIZE}
pub use Rattle.ports.specs.{Events.{IsBeginning, read_event, write_event}, Input.{input_value}, declared.event.Event.{Event}}
pub use Rattle.trees.proofs.Lists.{holds_for_item}
pub use Rattle.trees.specs.{declared.declaration.ScalarType.{ScalarType, TheVariants.{Address, Byte}}, declared.expression.BinaryOperator.{BinaryOperator, TheVariants.{GreaterOrEqual}}}
pub use Rattle.typed_trees.specs.{Jumps.{BodyIsSound, JumpsAreSound, ListStands, ListsStand, ListsStandInCases, ListsStandInStatements, labels_in, labels_in_list, labels_in_module, labels_in_procedure, labels_in_statements}, TypedTrees.{AssignmentNode, AssignmentStatement, At, BasedOn, BinaryNode, CallNode, CallStatement, CaseStatement, ConversionNode, DoStatement, ElseStatement, FunctionNode, GotoStatement, HaltStatement, Home, IfStatement, InFrame, InputNode, LabelStatement, ListNode, ListOf, LocationNode, LoopStatement, MoreArguments, MoreStatements, MoveStatement, NoArguments, NoElse, NoStatements, NoSubscript, NullStatement, NumberNode, PartOf, ReturnStatement, SentTo, ShiftNode, StoredIn, Subscript, TypedArguments, TypedExpression, TypedHead, TypedIteration, TypedList, TypedModule, TypedProcedure, TypedReference, TypedStatement, TypedStatements, TypedTarget, UnaryNode, ValueNode}, declared.parts.Visibility.{Visibility, TheVariants.{External, Private, Public}}}
unfoldable pub use Rattle.typed_trees.specs.Charge.{charge_of}
pub use Rattle.layout.specs.{Joined.{InProgram, first_found, in_module, is_main, procedure_meant, public_procedure_in}, Placement.{Placement}}
pub use Rattle.meaning.proofs.{Added.{adds_computed, adds_if, adds_moved, adds_read_scalar, adds_then, adds_write_scalar, begins_itself}, AgreementStatements.{again_is, call_is, onto_is}, DroppedLists.{dropped_lists}, Kept.{changes_scalar, continues_itself, reads_scalar}, KeptCalls.{later_keeps, sets_parameters}, KeptParts.{stored_keeps, value_keeps, values_keep}, KeptStatements.{list_keeps, statement_keeps, statements_keep, step_value_keeps as step_keeps}, LabelPlaces.{rest_at}, Staying.{Stays, body_stays, no_jump}}
pub use Rattle.meaning.specs.{Access.{InMemory, InTheFrame, Place, Surroundings, address_of, home_of, place_in, place_of, read_scalar, write_scalar}, Meaning.{Displacement, Later, LoopTurn, address_in_memory, address_of_list, after_turn, based_place, begun, called, called_for, callee_in, caught_in, charged, computed, displacement, done, done_all, done_case, done_list, dropped, entered, frame_of, landed, later_by, located, moved, parameters_set, procedure_at, read_variable, rest_from, rest_of, returned, step_value, stepped, stored, stored_in_each, taken_in, turn_of, turned, value, value_of_flow, values, write_variable}, Outcomes.{Ended, Flow, Gave, Jumped, More, Onward, Outcome, Outside, Program, Returned, State, Stop, Stopped, taking_one, then_do}, Run.{Run, main_done, number_of_main, run_of}, Values.{as_type, function_of, is_true, result_of, result_of_one, shifted, truth, values_of}, declared.reason.Reason.TheVariants.{Stack}, internal.Kept.{ComesAfter, Continues, Extra, Keeps, LaterKeeps, jump_took, nothing_else}}
unfoldable pub use Rattle.meaning.specs.Run.{source_run}
pub use Rattle.stack_code.specs.internal.Code.{Purpose, Site, ToLocate, ToRead, ToWrite, added_to_bytes, arguments_code, called_code, cases_code, count_of_arguments, count_of_statements, entries_code, expression_code, first_code, index_code, instruction_after, instruction_at, instruction_of_frame, list_code, main_code, module_code, number_in, operator_code, parameter_code, parameters_code, part_at, part_code, part_of, procedure_code, reference_code, scalar_code, scaled_code, site_of, statement_code, statements_code, step_code, summed, surroundings_at, target_code, targets_code, test_code, turn_code, value_or, variable_code, whole_in_frame}
unfoldable pub use Rattle.stack_code.specs.internal.Code.{program_code}
pub use Rattle.stack_code.specs.internal.Machine.{Call, Done, Going, Machine, Progress, after_first, and_then_steps, argument_of, arguments_now, below, calling, carried_out, entering, is_begin, is_mark, leaving, looping, parameter_set, part_place, progress_of, pushing, returning, spending, step, steps, top, values_after, without_indices}
pub use Rattle.stack_code.specs.internal.Run.{machine_in, stack_run, start_state, start_surroundings, started}
pub use Rattle.stack_code.specs.declared.instruction.FramePart.{FramePart}
pub use Rattle.stack_code.specs.declared.instruction.Instruction.{Instruction}
pub use Rattle.stack_code.specs.internal.Counting.{AllPlain, hits, is_plain, once, total}
pub use Rattle.stack_code.specs.internal.Simulation.{Adds, Ahead, ComesTo, Leads, Stands, Whole, after, around_in, displaced_by, done_with, exits, index_of, length_of_turn, machine_at, procedure_rest, pushed, returned_to, site_in, turns_code, with_bytes, with_index, with_sum}
