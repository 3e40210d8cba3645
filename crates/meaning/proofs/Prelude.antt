-- The names that the proofs of this crate cite, passed on from one place. Declares nothing.
pub use Rattle.std.proofs.{Common.{Any, Bool, List, None, Option, Some, [], ap, append-nil, append_assoc, arith, cond, false, find, le-leb, leb-true, length, map, nat_le, nat_lt, option_map, refl, replicate, slice_get, slice_index, slice_index_or, slice_set, subst, suc, sym, true, zero, ℕ, ◌%◌, ◌&&◌, ◌*◌, ◌++◌, ◌+◌, ◌-◌, ◌/◌, ◌<◌, ◌==◌, ◌^◌, ◌∙◌, ◌∷◌, ◌≡◌, ◌≢◌, ◌≤◌}, Math.Nat.{mul_assoc}, Math.Seq.{map-set_same}, lemmas.Grind.{common_steps}, lemmas.List.{get_or-set_other, length-set}, lemmas.Nat.{div_below, pow-add, pow_pos, shl_whole}}
pub use Rattle.std.specs.Option.{option_map_or}
pub use Rattle.mem80.specs.{Memory.{byte_at}, declared.memory.TheConstants.{MEMORY_SIZE}}
pub use Rattle.ports.specs.{Events.{IsBeginning, read_event, write_event}, Input.{input_value}, declared.event.Event.{Event}}
pub use Rattle.trees.specs.{declared.declaration.ScalarType.{ScalarType, TheVariants.{Address, Byte}}}
pub use Rattle.typed_trees.specs.{Jumps.{IsAmongLabels, IsClosed, JumpsStay, JumpsStayInElse, JumpsStayInList, JumpsStayInStatements, LabelsOf, LabelsStand, ListsStandInStatements, labels_of_list}, TypedTrees.{AssignmentNode, AssignmentStatement, At, BasedOn, BinaryNode, CallNode, CallStatement, CaseStatement, ConversionNode, DoStatement, ElseStatement, Elsewhere, FunctionNode, GotoStatement, HaltStatement, Home, IfStatement, InConstants, InData, InFrame, InputNode, LabelStatement, ListNode, ListOf, LocationNode, LoopStatement, MoreArguments, MoreStatements, MoveStatement, NoArguments, NoElse, NoStatements, NoSubscript, Nowhere, NullStatement, NumberNode, PartOf, Placed, ReturnStatement, SentTo, ShiftNode, StoredIn, Subscript, TypedArguments, TypedElse, TypedExpression, TypedHead, TypedIteration, TypedList, TypedModule, TypedProcedure, TypedReference, TypedStatement, TypedStatements, TypedTarget, UnaryNode, ValueNode}}
unfoldable pub use Rattle.typed_trees.specs.Charge.{charge_of}
pub use Rattle.layout.specs.{Joined.{InProgram, is_main}, Placement.{Placement}}
unfoldable pub use Rattle.layout.specs.StartingMemory.{starting_memory}
pub use Rattle.meaning.specs.Access.{InMemory, InTheFrame, Place, Surroundings, frame_bytes, home_of, is_constant, is_declared, next_place, place_of, read_byte, read_scalar, write_byte, write_scalar}
pub use Rattle.meaning.specs.Meaning.{Displacement, IsMeantBelow, Later, LoopTurn, Turn, after_turn, based_place, begun, called, called_for, callee_in, caught_in, charged, computed, displacement, done, done_all, done_case, done_else, done_list, dropped, entered, frame_of, going_on, landed, later_by, located, moved, next_turn, nothing_later, parameters_set, procedure_at, read_variable, rest_from, rest_of, returned, step_value, stepped, stored, stored_in_each, taken_in, turn_of, turned, value, value_of_flow, values, write_variable}
pub use Rattle.meaning.specs.Outcomes.{Ended, Flow, Gave, Jumped, More, Onward, Outcome, Outside, Program, Returned, State, Stop, Stopped, taking_one, then_do}
pub use Rattle.meaning.specs.Values.{as_type, is_true, result_of, values_of}
pub use Rattle.meaning.specs.declared.reason.Reason.TheVariants.{Byte as UndeclaredByte, Constant, Divide, Stack}
pub use Rattle.meaning.specs.internal.Kept.{Agrees, ComesAfter, Continues, Extra, Follows, IsSpent, Keeps, Lasts, LaterAdds, LaterKeeps, LaterLasts, body_of_turn, jump_took, nothing_else, with_more}
