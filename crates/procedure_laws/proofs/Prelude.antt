-- The names that the proofs of this crate cite, passed on from one place. Declares nothing.
pub use Rattle.std.proofs.{Common.{Any, Bool, List, None, Option, Some, [], add-zero, ap, arith, bit_xor, cond, eq-eqb, false, get_or, if◌then◌else◌, inl, inr, length, ltb-false, map, min, mod-eq_of_lt, nat_eq, nat_le, nat_lt, ne_eqb, not, option_map, refl, replicate, slice_get, slice_index_or, slice_set, subst, suc, sym, true, zero, zero-add, zip, ℕ, ◌%◌, ◌*◌, ◌++◌, ◌+◌, ◌-◌, ◌/◌, ◌<◌, ◌==◌, ◌∙◌, ◌∷◌, ◌≡◌, ◌≢◌, ◌≤◌, ◌⊎◌}, lemmas.Bool.{eqb-false, eqb-true, leb-false, or_left, or_right, true≢false}, lemmas.List.{append_assoc, get_or-replicate, get_or-set_other, get_or-set_same, length-replicate, length-set, set_comm}, lemmas.List.Kept.{AllPairs-cons}, lemmas.Option.{none-some, same_Some, slice_get-map, slice_get_cases, slice_get_within}}
pub use Rattle.std.specs.{Borrow.{Bor}, Int.Bits.{xor_self}, Option.{option_and_then, option_map_or, unwrap_or}, Prelude.{AllPairs, IsSomeAnd, flat_map, take}}
pub use Rattle.mem80.proofs.MemoryLemmas.{byte_small}
pub use Rattle.mem80.specs.{Memory.{IsMemory, byte_at, word_at}, declared.memory.TheConstants.{MEMORY_SIZE}}
pub use Rattle.ports.specs.declared.event.Event.{Event}
pub use Rattle.trees.proofs.Lists.{holds_for_item}
pub use Rattle.trees.specs.{declared.declaration.ScalarType.{ScalarType, TheVariants.{Address, Byte}}}
pub use Rattle.typed_trees.specs.{Charge.{height_of_list}, Frames.{AreParameters, FramesFit, HasParameters, IsParameter, ParametersFit, home_of_parameters, is_in_frame}, Jumps.{BodyIsSound, IsAmongLabels, IsClosed, IsNoLabel, JumpsAreSound, JumpsStay, JumpsStayInElse, JumpsStayInList, JumpsStayInStatements, LabelsOf, LabelsStand, ListStands, ListsStand, ListsStandInCases, ListsStandInElse, ListsStandInStatements, labels_in, labels_in_else, labels_in_list, labels_in_module, labels_in_procedure, labels_in_statements, labels_of_list}, ObjectParts.{IsScalar}, Sizes.{size_of_object, size_of_scalar}, TypedTrees.{AssignmentStatement, BasedOn, CallStatement, CaseStatement, DoStatement, ElseStatement, Elsewhere, GotoStatement, HaltStatement, Home, IfStatement, InConstants, InData, InFrame, LabelStatement, ListOf, LoopStatement, MoreStatements, MoveStatement, NoElse, NoStatements, Nowhere, NullStatement, Placed, ReturnStatement, TypedElse, TypedExpression, TypedHead, TypedIteration, TypedList, TypedModule, TypedObject, TypedProcedure, TypedStatement, TypedStatements}, WellTyped.{IsReturned, TypesHold, TypesHoldIn, TypesHoldInElse, TypesHoldInHead, TypesHoldInList, TypesHoldInProcedure, TypesHoldInStatements, Within, WithinMain, WithinProcedure}, declared.parts.Visibility.{Visibility}}
unfoldable pub use Rattle.typed_trees.specs.Charge.{charge_of}
pub use Rattle.layout.proofs.Visibilities.{not_external}
pub use Rattle.layout.specs.{Joined.{DeclaredProcedure, InProgram, agree, is_main, is_public_procedure, procedure_meant}, Sound.{TakeBytes}, Storage.{Storage}}
pub use Rattle.meaning.proofs.{DroppedLists.{dropped_lists}, Staying.{jumps_dropped, no_jump, outer_label}}
pub use Rattle.meaning.specs.{Access.{InMemory, InTheFrame, Place as SourcePlace, Surroundings, frame_bytes, home_in, home_of, is_constant, is_declared, place_in, place_of, write_scalar}, Meaning.{Later, LoopTurn, after_turn, based_place, begun as begun_loop, called, called_for, callee_in, caught_in, charged, done, done_all, done_case, done_else, done_list, dropped, entered, frame_of, going_on, is_frame_of, iterated, later_by, moved, parameters_set, procedure_at, read_variable, rest_from, rest_of, returned, step_value, stepped, stored_in_each, turn_of, turned as turned_loop, value, value_of_flow, values, write_variable}, Outcomes.{Ended, Flow, Gave, Jumped, More, Onward, Outcome, Outside, Program, Returned, State as SourceState, Stopped, taking_one, then_do}, Run.{main_done, run_of}, Values.{as_type, is_true, values_of}, declared.reason.Reason.{Reason, TheVariants.{Byte as UndeclaredByte, Constant, Stack}}}
pub use Rattle.object_modules.specs.declared.segment.Target.TheVariants.{External as ExternalTarget, InSegment}
pub use Rattle.isa8080.proofs.Words.{word_of_two, wrapped_next, wrapped_small}
pub use Rattle.isa8080.specs.{Act.{act}, Arithmetic.{decrement_of, operate}, Flags.{flag_byte}, State.{HoldBytes, Registers, State, high_byte, holds as holds_of, low_byte, two_less, with_popped, word, wrap}, Step.{running}, declared.instr.Condition.{Condition, TheVariants.{NotZero}}, declared.instr.Instr.{Instr, TheVariants.{Call, Dad, Dcr, Hlt, Inx, Lxi, Mvi, Pchl, Pop, Push, Ret, Sphl, Xchg, Xthl}}, declared.instr.Operand.TheVariants.{Of}, declared.instr.Operation.TheVariants.{ExclusiveOr}, declared.instr.Pair.TheVariants.{De, Hl, Sp}, declared.instr.Register.TheVariants.{B}, declared.instr.StackPair.{StackPair, TheVariants.{Psw, StackBc, StackDe, StackHl}}, declared.registers.Status.TheVariants.{Halted, Running}}
unfoldable pub use Rattle.isa8080.specs.Step.{step_of}
pub use Rattle.asm8080.proofs.{Calls.{IsPushed, one_below, pushed, pushed_is_memory, pushed_is_pushed, pushed_keeps, two_below}, Kept.{byte_kept, byte_put}, Loops.{counted_out, counts_on, one_less_is}, Stack.{pop_does, push_does}}
pub use Rattle.asm8080.specs.{Items.{instruction_with, word_of}, Standing.{AgreesIn, Keeps, size_of_instruction}, declared.item.Item.{Item}, declared.item.Reference.{Reference, TheVariants.{AtLabel, AtTarget}}, declared.item.WordForm.{WordForm, TheVariants.{CallTo, JumpWhere, LoadPair, StoreA, StoreHl}}}
pub use Rattle.treecode.specs.{internal.Homes.{external_number, frame_number, frame_variable, is_global_procedure, kind_of, location_of, parameter_at, parameter_number, parameters_of, place_of_slot}, internal.Known.{known_number, known_value}, internal.Lowered.{HasBody, IsList, IsProcedure, ends_by, head_ends, labels_numbered, labels_numbered_in_else, labels_numbered_in_list, labels_numbered_in_statements, numbers_from, reaches_end, reaches_end_of_else, reaches_end_of_list, reaches_end_of_statements}, internal.Nodes.{Nodes, home_at, nodes_of}, internal.Resolved.{HaveOperands, Resolves}, declared.lists.Range.{Range}, declared.module.TreeModule.{TreeModule}, declared.place.Home.{Home as TreeHome}, declared.place.Location.{Location, TheVariants.{Frame, Static}}, declared.place.Place.{Place, TheVariants.{Number}}, declared.procedure.FrameVariable.{FrameVariable}, declared.procedure.Parameter.{Parameter}, declared.procedure.ProcedureKind.{ProcedureKind}, declared.procedure.TreeProcedure.{TreeProcedure}}
pub use Rattle.treecode_laws.proofs.Labels.{same_number}
pub use Rattle.frames.proofs.{FrameBytes.{bytes_are, listed, object_fits, scalar_size}, Entries.{entries}, Frames.{parameter_count}, Homes.{home_in_data, home_in_frame}, Objects.{entry_is, lowered_framed}, Parameters.{frame_fits, framed, has_parameters, none_found, numbered_at}, Places.{ends_within}}
pub use Rattle.frames.specs.{internal.Frames.{IsPlanOf, bytes_by_parameter, distance_by_parameter, distance_in, distance_of, parameter_distance, return_distance, return_of, variable_bytes, word_distance}, declared.frame_plan.FramePlan.{FramePlan}, internal.Objects.{HasByte, ObjectsLie}}
pub use Rattle.steps8080.specs.{internal.Facts.{after, after_word, no_facts, with_facts}, internal.Instructions.{clear_a}, internal.Step.{label_of}, internal.Writer.{word_item}, declared.facts.Facts.{Facts}, declared.step.LabelNumber.{LabelNumber}}
pub use Rattle.exprgen8080.specs.internal.Emission.{AreWritten, HoldsWritten, JumpWritten, MarkWritten, NoneWritten, PlainWritten, WordWritten, items_of_call, module_call_items}
pub use Rattle.statements8080.specs.{internal.Plans.{holds, jump, mark, plain}, declared.body.Body.{Body}, declared.plan.Planned.{Planned}}
pub use Rattle.statement_laws.specs.{internal.Generated.{AreCarriedOut, IsListCarriedOut, NoneCarriedOut, StepCarriedOut, site_of}, internal.GeneratedModules.{IsEndCode}, internal.GeneratedProcedures.{argument_facts, argument_step, entry_steps, is_address, pair_of, popped_argument_steps, return_steps, store_argument, with_argument}, Here.{Here}}
unfoldable pub use Rattle.statement_laws.specs.{internal.Generated.{carried_steps, here_after, waiting_after}, internal.GeneratedProcedures.{below_return_steps, drop_steps, end_steps, entry_steps_by, exchanged_steps, frame_entry_steps, kept_steps, known_at, known_from, last_argument_facts, last_argument_steps, odd_byte_steps, popped_at, popped_from, pops_steps, push_loop_steps, pushed_arguments_steps, pushes_steps, return_of_frame_steps, return_over_any_steps, return_over_steps, return_steps_by, static_entry_steps, stores_steps, zero_result_steps, zeros_steps}}
pub use Rattle.code_meaning.proofs.{Facts.After.{facts_after, facts_after_word}, Facts.Changes.{no_facts_hold, with_facts_hold}, Facts.Steady.{declared_is_steady, push_asks}, FirstItems.{jump_passed, jump_taken, plain_first, plain_step, word_first, word_step}, Landing.{after_paid_step, after_step, does_without_step, landed, then_does}, Numbers.{byte_as_low, differs_from_next, high_of_sum, high_of_two, low_of_sum, low_of_two}, Outcomes.{given_again}, Owning.{keeps_all, keeps_both, keeps_wider, owns_more}, Pushes.{keeps_pushed, push_keeps, ready_after_push}, Sequences.{AreThere, both_there}, Standing.{after_mark, after_plain, mark_lies}, Stores.{keeps_put, ready_with_variable}}
pub use Rattle.code_meaning.specs.{internal.Activations.{Activation, Arrives, FrameLies, IsReady, IsThere, IsVariable, LiesWell, Loaded, MayChange, Owns, PlacementLies, Shares, loaded_of}, internal.Asking.{Asks, WordAsks}, internal.Holding.{AddressHolds, ByteHolds, Distances, FactsHold, IsByteAt, IsSteady, IsWordAt, WordHolds, ZeroHolds, location_at, place_at}, Landing.{Does, IsHalted, IsLeft, Lands, at_place}}
pub use Rattle.statement_laws.proofs.{CarriedOut.{carry_out}, Machine.Rules.{bytes_at_place, popped_bytes, ready_with_registers, word_acts}, Machine.SiteNodes.{have_operands, place_of_number}, Machine.Stages.{does_same, gives_then, then_does_where}, Ranges.NumbersOfTrees.{IsTypedCode, has_types}, Ranges.RangesOfCalls.{calls_fit}, Ranges.RangesOfStatements.{dropped_types}, Stores.Writing.{no_bytes_past_frame, sized_in_frame}}
pub use Rattle.statement_laws.specs.{internal.CodeContexts.{ArgumentsLie, CallsDo, CallsFit, Context, FrameIsPlanned, InRegister, InWord, IsSound, ResultLies, RoutineIsAt, bytes_pushed, distances_in, nodes_in}, ProgramTypes.{HasTypes}, internal.Tasks.{Know}}
pub use Rattle.statement_laws.proofs.{Together.{statements_do}, StatementItems.{list_stands}}
pub use Rattle.statement_laws.specs.{internal.Bodies.{BodyContext, ComesToReturn, GoesOn, IsSoundBody, IsWithin, Leaves, ReturnStands}, internal.Statements.{ListDoes}}
pub use Rattle.procedure_laws.specs.Calls.{CallsAreKnown, ComesBack, Entries, EntryDoes, IsEntered, IsOfCall, ReturnLies}
pub use Rattle.procedure_laws.specs.internal.Contexts.{Shape, activation_in, body_in, context_in, frame_shape, main_shape, size_in_frame, static_shape}
pub use Rattle.procedure_laws.specs.internal.Modules.{MainStands, ModuleCode, ModuleLies, ProcedureStands, at_start, bare, loaded_by, surroundings_in}
pub use Rattle.procedure_laws.specs.OneModule.{AllCallsAreKnown, CallsFollow, ModuleDoes, OtherCallsAreKnown, OwnCallsAreKnown, in_module}
pub use Rattle.procedure_laws.specs.internal.Premises.{Anywhere, CallsOfModuleFit, IsBodyOf, ListsAreDone, ReentrantBegins, ReentrantReturns, StaticBegins, StaticReturns, frame_level, reentrant_body, static_body, static_level, with_tree}
pub use Rattle.procedure_laws.specs.internal.Procedures.{BeginDoes, HasBegun, HasReturned, ReturnDoes}
