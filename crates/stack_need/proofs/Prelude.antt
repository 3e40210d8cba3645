-- The names that the proofs of this crate cite, passed on from one place. Declares nothing.
pub use Rattle.std.proofs.{Common.{Bool, Contains, List, None, Option, Some, [], ap, arith, cond, drop, false, filter_map, find, length, ltb-true, map, min, nat_le, nat_lt, option_map, refl, slice_get, slice_index, subst, suc, sym, true, zero, ℕ, ◌%◌, ◌&&◌, ◌++◌, ◌+◌, ◌-◌, ◌<◌, ◌==◌, ◌∙◌, ◌∷◌, ◌≡◌, ◌≢◌, ◌≤◌}, lemmas.Iterator.Adapters.{position_from-zero}}
pub use Rattle.std.specs.{List.{AllByRecursion, cons_option, position_from}, Option.{option_and_then, option_map_or}}
pub use Rattle.typed_trees.specs.{ScalarType.{ScalarType, TheVariants.{Address, Byte}}, TypedTrees.{AssignmentNode, AssignmentStatement, At, BasedOn, BinaryNode, CallNode, CallStatement, CaseStatement, ConversionNode, DoStatement, ElseStatement, Elsewhere, FunctionNode, GotoStatement, HaltStatement, Home, IfStatement, InConstants, InData, InFrame, InputNode, LabelStatement, ListNode, ListOf, LocationNode, LoopStatement, MoreArguments, MoreStatements, MoveStatement, NoArguments, NoElse, NoStatements, NoSubscript, Nowhere, NullStatement, NumberNode, PartOf, Placed, ReturnStatement, SentTo, ShiftNode, StoredIn, Subscript, TypedArguments, TypedElse, TypedExpression, TypedHead, TypedIteration, TypedList, TypedModule, TypedProcedure, TypedReference, TypedStatement, TypedStatements, TypedTarget, UnaryNode, ValueNode}, Views.{arguments_view, module_view, procedure_view, statements_view, target_view}}
unfoldable pub use Rattle.typed_trees.specs.Charge.{charge_of}
pub use Rattle.layout.specs.Joined.{InProgram, is_main}
unfoldable pub use Rattle.layout.specs.StartingMemory.{starting_memory}
pub use Rattle.meaning.specs.{Access.{InMemory, InTheFrame, Place, Surroundings, home_of, is_constant, is_declared, next_place, place_of, read_byte, read_scalar, write_byte, write_scalar}, Meaning.{Later, LoopTurn, Turn, after_turn, based_place, begun, called, called_for, callee_in, caught_in, charged, computed, displacement, done, done_all, done_case, done_else, done_list, dropped, entered, frame_of, going_on, landed, later_by, located, moved, next_turn, parameters_set, procedure_at, read_variable, rest_from, rest_of, returned, step_value, stored, stored_in_each, turn_of, turned, value, values, write_variable}, Outcomes.{Flow, Gave, Jumped, More, Onward, Outcome, Outside, Program, Returned, State, Stopped, taking_one, then_do}, Run.{main_done, number_of_main, run_of}, Values.{as_type, is_true, result_of, values_of}, declared.reason.Reason.TheVariants.{Stack}}
unfoldable pub use Rattle.meaning.specs.Run.{source_run}
pub use Rattle.resolving.specs.internal.Views.{program_view, site_view}
pub use Rattle.call_graphs.specs.{Chains.{Body, HasCycle, IsChain, callees_of, charge_in, charges_of_chain, end_of_chain}, internal.Needs.{capped}, internal.Views.{body_view}}
pub use Rattle.stack_need.specs.{CallGraph.{bodies_from, body_of, first_numbers, main_body, number_of_body, procedure_called}, Calls.{calls_in, calls_in_arguments, calls_in_else, calls_in_head, calls_in_list, calls_in_optional, calls_in_reference, calls_in_statement, calls_in_statements, calls_in_subscript, calls_in_target, calls_in_targets}, internal.{Graph.{callee_at, main_from, modules_at}, Within.{Holds, HoldsAll, HoldsCall, HoldsTurn, IsNotStack, LaterStays, StaysWithin}}}
unfoldable pub use Rattle.stack_need.specs.CallGraph.{call_graph}
unfoldable pub use Rattle.call_graphs.specs.internal.Needs.{Answers}
