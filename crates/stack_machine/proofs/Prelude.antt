-- The names that the proofs of this crate cite, passed on from one place. Declares nothing.
pub use Rattle.std.proofs.{Common.{Bool, Bor, Err, List, Ok, Result, [], ap, append_assoc, arith, drop, false, get_or, length, length-append, length-drop, map, option_and_then, option_copied, refl, rules, set, subst, suc, sym, take, true, zero, ℕ, ◌%◌, ◌*◌, ◌++◌, ◌+◌, ◌-◌, ◌<◌, ◌∙◌, ◌∷◌, ◌≡◌, ◌≤◌}, Math.Nat.{suc-mul}, lemmas.List.{drop_all, drop_at, drop_more, get_or-reverse, get_or_past, length-map, length-reverse, reverse-append, take-append-drop, take_all, take_more}, lemmas.Option.{get_or_from_slice_get, same_Some, slice_get-get_or, slice_get-map, slice_get_past, slice_get_read, slice_get_within}}
pub use Rattle.std.specs.{Option.{option_map_or, unwrap_or}, Prelude.{None, Option, Some, if◌then◌else◌, min, nat_lt, option_map, reverse, slice_get, slice_index, slice_index_or, ◌==◌}, Slice.{IsItemAt}}
pub use Rattle.ports.specs.{Events.{AddsEvent, read_event, write_event}, Input.{input_value}, declared.event.Event.{Event}}
pub use Rattle.trees.specs.{declared.declaration.ScalarType.{ScalarType, TheVariants.{Address, Byte}}}
pub use Rattle.typed_trees.specs.{TypedTrees.{TypedModule, TypedProcedure}, Views.{module_view}, declared.module.Typed.{Typed}}
unfoldable pub use Rattle.typed_trees.specs.Charge.{charge_of}
pub use Rattle.layout.specs.{Joined.{InProgram}, Placement.{Placement}}
pub use Rattle.placing.specs.Views.{placement_view}
pub use Rattle.meaning.specs.{Access.{InMemory, InTheFrame, Place, Surroundings, read_scalar, write_byte, write_scalar}, Meaning.{frame_of, moved, procedure_at}, Outcomes.{Ended, Gave, Outcome, Outside, Program, State, Stop, Stopped, then_do}, declared.reason.Reason.{Reason, TheVariants.{Byte as UndeclaredByte, Stack}}}
pub use Rattle.stack_code.specs.{internal.Machine.{Call, Done, Going, Machine, Progress, after_first, and_then_steps, argument_of, arguments_now, below, calling, carried_out, entering, is_begin, leaving, parameter_set, progress_of, pushing, spending, step, steps, top}, internal.Program.{AreTablesOf, entry_in, entry_of}, internal.Run.{stack_run, start_surroundings, started}, declared.instruction.Instruction.{Instruction}, declared.program.Entry.{Entry}, declared.program.ModuleTable.{ModuleTable}}
pub use Rattle.declared.proofs.Meanings.{after_write, answered, byte_read_means, byte_written_means, current_written, frame_scalar_means, frame_written_means, scalar_read_means, scalar_written_means, written_then, zeroed_frame_means}
pub use Rattle.declared.specs.{internal.Access.{Written, byte_read, byte_written, next_address, refused, scalar_read, scalar_written, then_write, written}, internal.Frames.{ModuleFrames, current_frame, frame_scalar, frame_with_scalar, module_frames, with_current, zeroed_frame}}
pub use Rattle.join.specs.Views.{modules_in}
pub use Rattle.stack_machine.specs.Ends.{stop_of}
pub use Rattle.stack_machine.specs.internal.Runs.{Reaches, ReachesCall, Stops, state_at_start}
unfoldable pub use Rattle.stack_machine.specs.internal.Runs.{ReachesFault}
pub use Rattle.stack_machine.specs.declared.calls.CallRecord.{CallRecord}
pub use Rattle.stack_machine.specs.declared.machine.StackMachine.{StackMachine}
pub use Rattle.stack_machine.specs.internal.Arguments.{arguments_of}
pub use Rattle.stack_machine.specs.internal.Moves.{bytes_moved, copied}
pub use Rattle.stack_machine.specs.internal.Opened.{IsThere, frame_opened}
pub use Rattle.stack_machine.specs.internal.Views.{calls_view, machine_view, program_in, program_of, state_view, weight_of, weight_of_calls}
pub use Rattle.stack_machine.specs.declared.loaded.Loaded.{Loaded}
pub use Rattle.stack_code.specs.internal.Simulation.{Leads}
pub use Rattle.stack_code.proofs.Steps.{leads_as, leads_here, leads_step, leads_then}
