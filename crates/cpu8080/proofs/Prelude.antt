-- The names that the proofs of this crate cite, passed on from one place. Declares nothing.
pub use Rattle.std.proofs.{Common.{Bool, List, [], ap, arith, drop, false, get_or, inl, inr, length, refl, replicate, set, subst, suc, sym, true, zero, ℕ, ⊎_elim, ◌%◌, ◌*◌, ◌+◌, ◌-◌, ◌/◌, ◌<◌, ◌∙◌, ◌∷◌, ◌≡◌, ◌≢◌, ◌≤◌, ◌⊎◌}, lemmas.Bool.{cases_lt, eq-eqb, eqb-true, false≢true, le-leb, leb-true, ltb-true, or_parts, true≢false}, lemmas.Bool.Decides.{eqb_tells}, lemmas.List.{get_or-replicate, get_or-set_other, get_or-set_same}}
pub use Rattle.std.specs.Prelude.{IsTrue, if◌then◌else◌, nat_eq, nat_le, nat_lt, ◌++◌, ◌&&◌, ◌||◌, ◌==◌}
unfoldable pub use Rattle.std.specs.Int.Count.{ones}
pub use Rattle.mem80.specs.{Memory.{byte_at}, declared.memory.TheConstants.{MEMORY_SIZE}}
pub use Rattle.ports.specs.{Events.{AddsEvent, CountsFailure, read_event, write_event}, Input.{input_value}, declared.event.Event.{Event}}
pub use Rattle.isa8080.proofs.Endings.{first_step, state_after_sum, stays_state}
pub use Rattle.isa8080.specs.{Act.{act, jump}, Code.{Form, One, Three, Two, Unknown, form_of}, State.{Registers, State, wrap}, Step.{advance, carry_out, next_byte, next_word, running, step_by}, declared.instr.Instr.TheVariants.{Hlt, In, Out}, declared.registers.Status.{Status, TheVariants.{Running}}}
unfoldable pub use Rattle.isa8080.specs.Step.{state_after, step_of}
pub use Rattle.cpu8080.specs.Runs.{ComesTo, FailsAfter, IsOnlyHalt, IsRun}
pub use Rattle.cpu8080.specs.declared.lines.Line.{Line}
pub use Rattle.cpu8080.specs.declared.lines.TheConstants.{CODES, LINE_BYTES, LINE_COUNT, LINE_STEPS, LONG_COUNT, LONG_LINES, MIDDLE_COUNT, MIDDLE_LINES, SHORT_LINES}
pub use Rattle.cpu8080.specs.declared.machine.End.TheVariants.{Halted, Illegal, PortFault}
pub use Rattle.cpu8080.specs.internal.Finish.{Performs, Unchanged, finish, registers_at}
pub use Rattle.cpu8080.specs.internal.Lines.{AreNumbered, Follows, IsLine, IsOneOf, after_part, after_parts, all_lines, are_near, begin_within, line_parts, near_at, parts_at, parts_of, stand}
pub use Rattle.cpu8080.specs.internal.MachineParts.{ComesAlone, MayTake, machine_at}
pub use Rattle.cpu8080.specs.internal.Tables.{AreEmptied, AreKnown, AreMarked}
