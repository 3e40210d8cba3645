-- The names that the proofs of this crate cite, passed on from one place. Declares nothing.
pub use Rattle.std.proofs.{Common.{Bool, List, None, Option, Some, [], ap, arith, bit_and, bit_or, false, if◌then◌else◌, inl, inr, length, nat_le, nat_lt, not, option_map, refl, slice_index, slice_set, subst, suc, sym, true, zero, ℕ, ◌%◌, ◌*◌, ◌++◌, ◌+◌, ◌-◌, ◌/◌, ◌<◌, ◌==◌, ◌||◌, ◌∙◌, ◌∷◌, ◌≡◌, ◌≢◌, ◌≤◌, ◌⊎◌}, lemmas.Bool.{and_parts, eq-eqb, eqb-false, eqb-true, false≢true, le-leb, le-ltb, leb-false, leb-true, lt-leb, lt-ltb, ltb-false, ltb-true, ne_eqb}, lemmas.List.{length-set}}
pub use Rattle.mem80.specs.{Memory.{IsMemory, byte_at, word_at}, declared.memory.TheConstants.{MEMORY_SIZE}}
pub use Rattle.trees.specs.declared.declaration.ScalarType.{ScalarType}
pub use Rattle.meaning.specs.{Access.{InMemory, InTheFrame, frame_bytes, is_constant, is_declared, next_place, read_byte, read_scalar, write_byte, write_scalar}, Outcomes.{Ended, Gave, More, Outcome, Outside, Program, State as SourceState, Stop, Stopped, taking_one, then_do}, Values.{as_type, values_of}, declared.reason.Reason.TheVariants.{Byte as UndeclaredByte, Constant}}
pub use Rattle.isa8080.proofs.Words.{word_in_memory, word_of_halves}
pub use Rattle.isa8080.specs.{Act.{act, jump, push, return, with_registers}, Arithmetic.{add_of, decrement_of, increment_of, subtract_of}, Flags.{bit}, State.{HoldBytes, Registers, State, high_byte, holds, low_byte, one_less, pushed_of, two_less, with_register, word, wrap}, declared.instr.Condition.{Condition}, declared.instr.Instr.{Instr, TheVariants.{Accumulate, AccumulateImmediate, Call, CallIf, Cma, Cmc, Daa, Dad, Dcr, Dcx, Di, Ei, Hlt, In, Inr, Inx, Jmp, JumpIf, Lda, Ldax, Lhld, Lxi, Mov, MovToMemory, Mvi, Nop, Out, Pchl, Pop, Push, Ral, Rar, Ret, ReturnIf, Rlc, Rrc, Rst, Shld, Sphl, Sta, Stax, Stc, Xchg, Xthl}}, declared.instr.Operand.{Operand, TheVariants.{M, Of}}, declared.instr.Operation.{Operation, TheVariants.{Add, AddWithCarry, And, Compare, ExclusiveOr, Or, Subtract, SubtractWithBorrow}}, declared.instr.Pair.TheVariants.{Bc, De, Hl, Sp}, declared.instr.Register.{Register, TheVariants.{A, B, C, D, E, H, L}}, declared.instr.StackPair.TheVariants.{Psw, StackBc, StackDe, StackHl}, declared.registers.Flags.{Flags}, declared.registers.Status.TheVariants.{Running}}
unfoldable pub use Rattle.isa8080.specs.Step.{state_after, step_of}
pub use Rattle.asm8080.proofs.{Calls.{IsPushed, one_below, pushed, pushed_is_memory, pushed_is_pushed, pushed_keeps, two_below}, FirstItems.{plain_item_step, word_item_step}, Kept.{byte_kept, byte_put, memory_put, stands_in, stands_size}, RunLaws.{comes_on}, Spending.{same_after}, Steps.{step_then}}
pub use Rattle.asm8080.specs.{Items.{Layout, Stands, instruction_with, size_of, size_of_items, word_of}, Runs.{Comes}, Standing.{AgreesIn, Keeps, size_of_instruction}, declared.item.Item.{Item, TheVariants.{Address, Byte, Gap, Mark, Plain, WithWord}}, declared.item.Reference.{Reference, TheVariants.{AtLabel}}, declared.item.WordForm.{WordForm, TheVariants.{CallTo, CallWhere, Jump, JumpWhere, LoadA, LoadHl, LoadPair, StoreA, StoreHl}}}
pub use Rattle.treecode.specs.{internal.Homes.{location_after, place_after}, declared.place.Location.{Location, TheVariants.{Frame, Static}}, declared.place.Place.{Place, TheVariants.{Code, Data, External, Number}}}
pub use Rattle.steps8080.specs.{internal.Facts.{after, after_operation_with, after_word, before, byte_for_l, byte_from_hl, holds_byte, is_at, no_facts, same_location, same_place, with_facts, without_a, without_hl, without_memory, without_register, without_zero}, internal.Instructions.{copy, load}, declared.facts.Facts.{Facts}}
pub use Rattle.code_meaning.specs.internal.Activations.{Activation, FrameLies, IsMine, IsReady, IsThere, IsVariable, LiesWell, Loaded, MayChange, Owns, PlacementLies, Shares}
pub use Rattle.code_meaning.specs.internal.Asking.{AddressAsks, Asks, IsSteadyByte, PushAsks, WordAsks}
pub use Rattle.code_meaning.specs.internal.Holding.{AddressHolds, AllHold, ByteHolds, Distances, FactsHold, IsByteAt, IsSteady, IsWordAt, WordHolds, ZeroHolds, location_at, place_at}
pub use Rattle.code_meaning.specs.Landing.{Does, IsHalted, IsLeft, Lands, Told, at_place}
