-- The names that the proofs of this crate cite, passed on from one place. Declares nothing.
pub use Rattle.std.proofs.{Common.{All, Bool, IsTrue, List, None, Some, [], ap, arith, false, if◌then◌else◌, length, map, min, nat_le, nat_lt, not, pow-add, refl, slice_set, subst, suc, sym, true, zero, ℕ, ◌%◌, ◌*◌, ◌++◌, ◌+◌, ◌-◌, ◌/◌, ◌<◌, ◌==◌, ◌^◌, ◌∙◌, ◌∷◌, ◌≡◌, ◌≢◌, ◌≤◌}, Math.Nat.{add-mod, div-div-eq-div-mul, div-eq_of_lt, mod-eq_of_lt, mul-div-mul_right, pow-le-pow_right, pow-suc}, lemmas.Bool.{agree_below, agree_below_at, eq-eqb, eqb-true, le-leb, leb-false, leb-true, lt-leb, or_from, or_parts}, lemmas.List.{length-set}, lemmas.List.Elements.{All-cons, All-get_or, All-head, All-nil, All-tail}, lemmas.Nat.{div-mul-add, mod-mul-add, mul-mod_first, pow_pos, xor_mod, xor_of_8, xor_shr}, lemmas.Result.{on_ok_weaker}}
pub use Rattle.std.specs.{Int.Bits.{or_self, xor_assoc, xor_self, xor_zero_l, xor_zero_r}, Prelude.{bit_and, bit_or, bit_xor}}
unfoldable pub use Rattle.std.specs.Int.Count.{ones}
pub use Rattle.mem80.proofs.{MemoryLemmas.{byte_small}, Numbers.{byte_is_low, high_of_pair, low_is_byte}}
pub use Rattle.mem80.specs.{Memory.{IsMemory, byte_at}, Range.{IsIn, Meets}, declared.memory.TheConstants.{MEMORY_SIZE}, declared.range.Range.{Range}}
pub use Rattle.ports.specs.declared.event.Event.{Event}
pub use Rattle.meaning.specs.{Access.{is_constant, is_declared}, Meaning.{moved}, Outcomes.{Gave, Outcome, Outside, Stopped, then_do}, Values.{turned}, declared.reason.Reason.TheVariants.{Byte as UndeclaredByte, Constant}}
pub use Rattle.isa8080.proofs.Words.{equals_wrapped, high_of_wrapped, word_in_memory, word_of_halves, wrapped_next, wrapped_small}
pub use Rattle.isa8080.specs.{Flags.{bit, has_even_parity}, State.{HoldBytes, Registers, State, high_byte, pair_of, word, wrap}, declared.instr.Condition.TheVariants.{Carry, NoCarry, NotZero, ParityOdd, Zero}, declared.instr.IndexPair.TheVariants.{IndexDe}, declared.instr.Instr.{Instr, TheVariants.{Accumulate, AccumulateImmediate, Dad, Dcr, Inr, Inx, Ldax, Lxi, Mov, MovToMemory, Mvi, Ral, Rar, Ret, ReturnIf, Rlc, Rrc, Xchg}}, declared.instr.Operand.TheVariants.{Of}, declared.instr.Operation.TheVariants.{Add, And, Compare, ExclusiveOr, Or, Subtract, SubtractWithBorrow}, declared.instr.Pair.TheVariants.{Bc, De, Hl}, declared.instr.Register.TheVariants.{A, B, C, D, E, H, L}}
pub use Rattle.asm8080.proofs.{Calls.{IsPushed, called, pushed, pushed_is_memory, pushed_is_pushed, pushed_keeps, returned_is}, ItemLemmas.{bound_more, unbound_from}, Kept.{Alike, byte_kept, byte_put, memory_put, stands_size, stands_still}, Loops.{counted, counted_out, counts_on, loop_after, loop_before, not_equal, not_zero, once_counted, one_less_is, steps_below, steps_counted, tested_after, tested_before, turns_below, turns_counted, word_is}, RunLaws.{comes_on}, Spending.{same_after}, Steps.{at, runs_from_instruction, goes_past, jumps_where, returned, returns, returns_where, stays_here, step_then}, Straight.{effect, past, past_later, plain, stands_after, steps_of, straight, touch_registers}}
pub use Rattle.asm8080.specs.{Items.{Assembly, BindsNew, IsAssembly, KnowsLabels, Layout, ListsExternals, Stands, is_bound, marks, size_of_items}, Runs.{Comes}, Standing.{Keeps, below, size_of_instruction}, declared.item.Item.{Item, TheVariants.{Address, Byte, Gap, Mark, Plain, WithWord}}, declared.item.Reference.TheVariants.{AtLabel, AtNumber, AtTarget}, declared.item.WordForm.TheVariants.{JumpWhere}}
pub use Rattle.runtime8080.specs.internal.Routines.{AddsRoutine, BlockMisses, CALL_BYTES, Computes, HasOwnLabels, HasReturned, IsInBlock, IsRoutine, Leaves, LeavesBcAndHl, MayCall, Returns, copied, memory_after, most_steps, size_of_routine}
pub use Rattle.runtime8080.specs.declared.routine.Routine.{Routine}
pub use Rattle.runtime8080.specs.internal.Emission.{FitItems, item_of, with_routine}
unfoldable pub use Rattle.runtime8080.specs.internal.Emission.{Fits}
pub use Rattle.runtime8080.specs.internal.Listings.{divide, divide_with, labels_of, listing, move_bytes, move_bytes_with, multiply, multiply_with, rotate_left, rotate_right, shift_left_address, shift_left_byte, shift_right_address, shift_right_address_with, shift_right_byte}
