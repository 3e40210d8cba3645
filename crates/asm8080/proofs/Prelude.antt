-- The names that the proofs of this crate cite, passed on from one place. Declares nothing.
pub use mathlib.Core.Bool.{or_assoc}
pub use Rattle.std.proofs.{Common.{Bool, Err, List, None, Ok, Option, Some, [], ap, arith, cond, drop, false, find, if◌then◌else◌, inl, inr, is_some, length, lt_of_le_of_lt, map, nat_le, nat_lt, not, option_map, refl, replicate, slice_index, slice_set, subst, suc, sym, true, unwrap_or, zero, ℕ, ◌%◌, ◌&&◌, ◌*◌, ◌++◌, ◌+◌, ◌-◌, ◌/◌, ◌<◌, ◌==◌, ◌||◌, ◌∙◌, ◌∷◌, ◌≡◌, ◌≢◌, ◌≤◌, ◌⊎◌}, Math.Path.{fun_ext}, lemmas.Bool.{and_from, and_parts, eq-eqb, eqb-false, eqb-true, le-leb, leb-true, lt-leb, lt-ltb, ltb-true, ne_eqb, or_from, or_left, or_parts, or_right}, lemmas.List.{append_assoc, get_or-set_other, get_or-set_same, length-append, length-replicate, length-set}, lemmas.List.Elements.{All-head, All-push, All-set, All-tail}}
pub use Rattle.std.specs.{List.{list_all, range_with_len}, Option.{option_map_or}, Prelude.{All}}
pub use Rattle.mem80.proofs.Numbers.{first_below}
pub use Rattle.mem80.specs.{Memory.{IsMemory, byte_at, word_at}, Range.{IsIn}, declared.memory.TheConstants.{MEMORY_SIZE}, declared.range.Range.{Range}}
pub use Rattle.ports.specs.declared.event.Event.{Event}
pub use Rattle.object_modules.proofs.{StoredRuns.{byte_in_run, content_with, found, found_is, run_at, same_over}}
pub use Rattle.object_modules.proofs.StoredRuns.{found_after, found_first, found_shorter}
pub use Rattle.object_modules.specs.{Before.{is_empty, same_segment}, Image.{Plan, gain_at, placed_bytes}, Module.{Fixup, ObjectModule, SetByte, is_target, is_valid_byte, is_valid_segment, places_of as module_places, words_are_whole}, Moving.{moved, moved_after, second_byte_moved, value_after}, Rules.{fix_end, is_within}, Runs.{fixup_at}, Spelling.{set_in}, Stored.{IsStored, are_longest, content_of_run, fixes_ascend, is_in_a_run, places_stored}, Text.{Run, before_runs, runs_from}, declared.segment.Fix.{Fix}, declared.segment.FixKind.TheVariants.{Both}, declared.segment.Segment.{Segment, TheVariants.{Code, Stack}}, declared.segment.Target.{Target, TheVariants.{External, InSegment}}, declared.segment.TheConstants.{SEGMENT_LIMIT}}
pub use Rattle.isa8080.proofs.{EncodingLemmas.{decodes, form_for}, Endings.{first_step, state_after_sum}, Words.{equals_wrapped, low_byte_small, word_of_two, wrap_of_place, wrapped_once, wrapped_small}}
pub use Rattle.isa8080.specs.{Act.{act, return}, Code.{bytes_of, form_of}, State.{Registers, State, high_byte, holds, low_byte, one_less, pushed_of, two_less, with_popped, wrap}, Step.{advance, carry_out, next_word, running, step_by}, declared.instr.Condition.{Condition, TheVariants.{Minus, NotZero}}, declared.instr.Instr.{Instr, TheVariants.{Accumulate, AccumulateImmediate, Call, CallIf, Cma, Cmc, Daa, Dad, Dcr, Dcx, Hlt, In, Inr, Inx, Jmp, JumpIf, Lda, Lhld, Lxi, Mov, Mvi, Nop, Out, Pop, Push, Ral, Rar, Ret, ReturnIf, Rlc, Rrc, Shld, Sta, Stc, Xchg}}, declared.instr.Operand.TheVariants.{Of}, declared.instr.Pair.TheVariants.{Bc, Sp}, declared.instr.Register.TheVariants.{A, B, E}, declared.instr.StackPair.{StackPair, TheVariants.{Psw, StackBc, StackDe, StackHl}}, declared.registers.Status.{Status, TheVariants.{Halted, Running}}}
unfoldable pub use Rattle.isa8080.specs.Step.{state_after, step_of}
pub use Rattle.asm8080.specs.Assembled.{AllBound, Assembled, Assembles, FitsSegment, IsFinished, fix_at, fixed_bytes, fixes_of_items, layout_at, place_in, resolved, segment_of, set_bytes, target_of, with_fix}
pub use Rattle.asm8080.specs.Items.{Assembly, BindsNew, BindsSame, BindsSameBut, BoundOnce, IsAssembly, IsKnown, IsListed, KnowsLabels, Layout, ListsExternals, Stands, bytes_of_item, flags_of_item, flags_of_items, instruction_with, is_bound, is_set, marks, offset_of, size_of, size_of_items, word_of}
pub use Rattle.asm8080.specs.Runs.{Comes, Meets, Spends, effect_of}
pub use Rattle.asm8080.specs.Standing.{AgreesIn, BytesStand, InstructionStands, Keeps, SetBytesStand, StackIsAt, below, size_of_instruction}
pub use Rattle.asm8080.specs.declared.item.Item.{Item}
pub use Rattle.asm8080.specs.declared.item.Item.TheVariants.{Address, Byte, Gap, Mark, Plain, WithWord}
pub use Rattle.asm8080.specs.declared.item.Reference.{Reference}
pub use Rattle.asm8080.specs.declared.item.Reference.TheVariants.{AtLabel, AtNumber, AtTarget}
pub use Rattle.asm8080.specs.declared.item.WordForm.{WordForm}
pub use Rattle.asm8080.specs.declared.item.WordForm.TheVariants.{CallTo, CallWhere, Jump, JumpWhere, LoadA, LoadHl, LoadPair, StoreA, StoreHl}
pub use Rattle.asm8080.specs.internal.Assembling.{all_placed, bytes_of_items, code_of, fixes_of_item, layout_from, no_code, offset_in, places_after, places_of, with_item, with_items, with_mark, with_places}
