-- The names that the proofs of this crate cite, passed on from one place. Declares nothing.
pub use Rattle.std.proofs.{Common.{Bool, Contains, IsNone, List, None, Option, Some, [], ap, append-nil, append_assoc, arith, false, if◌then◌else◌, is_some, length, nat_eq, not, refl, slice_index, subst, suc, sym, true, zero, zero-add, ℕ, ◌%◌, ◌*◌, ◌++◌, ◌+◌, ◌-◌, ◌/◌, ◌<◌, ◌^◌, ◌↔◌, ◌∙◌, ◌∷◌, ◌≡◌, ◌≢◌, ◌≤◌}, lemmas.Bool.{agree_below_at, eqb-true, not-false}, lemmas.Cmp.{nat_eq_equiv}, lemmas.Fmt.{hex_byte}, lemmas.Map.Views.{Contains-from_any, list_any-from_Contains}}
pub use Rattle.std.specs.{Fmt.{DisplaysOnOk, digits_output, format_spec, styled_digits_output}, List.{list_any}}
unfoldable pub use Rattle.std.specs.{Fmt.{digits}, Int.Count.{ones}}
pub use Rattle.mem80.specs.declared.memory.TheConstants.{MEMORY_SIZE}
pub use Rattle.ports.proofs.Beginnings.{begins_itself}
pub use Rattle.ports.specs.{Events.{IsBeginning, read_event, write_event}, Input.{input_value}, declared.event.Event.{Event}}
pub use Rattle.isa8080.specs.Act.{act}
pub use Rattle.isa8080.specs.Code.{Form, One, Three, Two, Unknown, bytes_of, first_instruction, form_of, instruction_of, undocumented}
pub use Rattle.isa8080.specs.Flags.{bit, flag_byte}
pub use Rattle.isa8080.specs.State.{Registers, State, high_byte, holds, low_byte, word}
pub use Rattle.isa8080.specs.Step.{advance, carry_out, initial_registers, next_byte, next_word, running, step_by}
unfoldable pub use Rattle.isa8080.specs.Step.{state_after, step_of}
pub use Rattle.isa8080.specs.declared.instr.Instr.{Instr}
pub use Rattle.isa8080.specs.declared.instr.Instr.TheVariants.{Accumulate, AccumulateImmediate, Call, CallIf, Dad, Dcr, Dcx, In, Inr, Inx, Jmp, JumpIf, Lda, Ldax, Lhld, Lxi, Mov, MovToMemory, Mvi, Out, Pop, Push, ReturnIf, Rst, Shld, Sta, Stax}
pub use Rattle.isa8080.specs.declared.instr.Operand.TheVariants.{M, Of}
pub use Rattle.isa8080.specs.declared.instr.Operation.TheVariants.{Add, AddWithCarry, And, Compare, ExclusiveOr, Or, Subtract, SubtractWithBorrow}
pub use Rattle.isa8080.specs.declared.instr.Pair.TheVariants.{Bc, Hl}
pub use Rattle.isa8080.specs.declared.registers.Flags.{Flags}
pub use Rattle.isa8080.specs.declared.registers.Status.{Status}
pub use Rattle.isa8080.specs.declared.registers.Status.TheVariants.{Halted, Illegal, Running}
